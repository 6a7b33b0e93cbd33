-- `unwind::step::past` meets its contract. Assumes nothing.
use Rattle.std.proofs.Common.{◌∙◌}
use Rattle.failure.proofs.Outcome.{exit_as}
use Rattle.unwind.proofs.Walks.{past_refused, past_tested}
use Rattle.unwind.proofs.step.past.Goals as goal

pub returns-in_err-caller_into : goal.returns-in_err-caller_into
returns-in_err-caller_into c =
    exit_as _ _ _ c.from_residual.ensures.1 ∙ past_refused _ _ _ _ _ c.requires _ c.in_err-caller_into.ensures

pub returns : goal.returns
returns c = past_tested _ _ _ _ _ c.requires _ c.in_ok-caller_into.ensures _ c.sp_column-k.ensures.0 _ c.advancing.ensures
