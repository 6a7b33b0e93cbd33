-- `frame::step::set_return` meets its contract. Assumes nothing.
use Rattle.std.proofs.Common.{sym, ◌∙◌, ap}
use Rattle.failure.specs.Outcome.{Answer}
use Rattle.frame.proofs.Stepped.{return_set}
use Rattle.frame.proofs.step.set_return.Goals as goal

pub returns : goal.returns
returns c = sym (return_set _ _ _ _ _ c.ra_column.ensures.0) ∙ ap Answer (sym c.return_to.ensures)
