-- `unwind::walk::walk` meets its contract. Assumes nothing.
use Rattle.std.proofs.Common.{◌∙◌, ap}
use Rattle.unwind.specs.Batches.{walked_by}
use Rattle.unwind.proofs.Batching.{walking_by}
use Rattle.unwind.proofs.walk.walk.Goals as goal

pub returns-in-Err : goal.returns-in-Err
returns-in-Err c = ap (walked_by _) (walking_by _ _ _ _ c.in-Err.ensures)

pub returns : goal.returns
returns c = c.walk_from.ensures ∙ ap (walked_by _) (walking_by _ _ _ _ c.in_default.ensures)
