-- `frame::step::step_to` meets its contract. Assumes nothing.
use Rattle.failure.proofs.Outcome.{refusal_by}
use Rattle.arch.proofs.InPlace.{place_exit}
use Rattle.frame.specs.Public.{step}
use Rattle.frame.proofs.Opened.{past_opened, step-passes}
use Rattle.frame.proofs.Partly.{place_as}
use Rattle.frame.proofs.step.step_to.Goals as goal

pub returns-in_err-require_accepted : goal.returns-in_err-require_accepted
unfolding step
returns-in_err-require_accepted c =
    place_exit _ _ _ _ c.from_residual.ensures.1 (refusal_by _ _ _ _ _ c.in_err-require_accepted.was c.require_accepted.ensures)

pub returns : goal.returns
returns c =
    let past = past_opened _ _ c.in_ok-require_accepted.ensures in
    place_as _ _ (step-passes _ _ past.0 past.1 _ _ _) _ _ _ c.step_into.ensures
