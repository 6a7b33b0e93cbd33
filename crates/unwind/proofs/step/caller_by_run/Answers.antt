-- `unwind::step::caller_by_run` meets its contract. Assumes nothing.
use Rattle.std.proofs.Common.{ap, ◌∙◌}
use Rattle.failure.specs.Outcome.{outcome}
use Rattle.failure.proofs.Outcome.{exit_as}
use Rattle.unwind.proofs.Walks.{in_place_told}
use Rattle.unwind.proofs.Meeting.{ran-applied, ran_refused}
use Rattle.unwind.proofs.step.caller_by_run.Goals as goal

pub returns-in_err-ran : goal.returns-in_err-ran
returns-in_err-ran c =
    exit_as _ _ _ c.from_residual.ensures.1 ∙ ran_refused _ _ _ _ _ _ _ _ _ c.run_into-ran.ensures _ (ap outcome c.in_err-ran.was)

pub returns : goal.returns
returns c =
    in_place_told _ _ _ _ c.apply_into.ensures ∙ ran-applied _ _ _ _ _ _ _ _ _ c.run_into-ran.ensures (ap outcome c.in_ok-ran.was)
