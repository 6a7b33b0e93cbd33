-- `unwind::walk::next_frame` meets its contract. Assumes nothing.
use Rattle.std.proofs.Common.{◌∙◌, ap}
use Rattle.model.specs.Unwinding.{next_frame}
use Rattle.unwind.specs.Answers.{stepped}
use Rattle.unwind.proofs.Opened.{opened_by}
use Rattle.unwind.proofs.walk.next_frame.Goals as goal

pub returns-in-Err : goal.returns-in-Err
unfolding next_frame
returns-in-Err c = c.stayed.ensures ∙ ap (stepped _) (opened_by _ _ _ _ c.in-Err.ensures)

pub returns : goal.returns
unfolding next_frame
returns c = c.step_from.ensures ∙ ap (stepped _) (opened_by _ _ _ _ c.in_default.ensures)
