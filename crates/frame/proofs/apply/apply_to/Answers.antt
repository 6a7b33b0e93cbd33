-- `frame::apply::apply_to` meets its contract. Assumes nothing.
use Rattle.std.proofs.Common.{sym}
use Rattle.failure.proofs.Outcome.{refusal_by}
use Rattle.arch.proofs.InPlace.{place_refused, place_exit}
use Rattle.frame.specs.Public.{apply}
use Rattle.frame.proofs.Opened.{past_opened, apply-counts, apply-passes}
use Rattle.frame.proofs.Partly.{place_as}
use Rattle.frame.proofs.apply.apply_to.Goals as goal

pub returns-in_err-require_accepted : goal.returns-in_err-require_accepted
unfolding apply
returns-in_err-require_accepted c =
    place_exit _ _ _ _ c.from_residual.ensures.1 (refusal_by _ _ _ _ _ c.in_err-require_accepted.was c.require_accepted.ensures)

pub returns-then-state-gt-MAX_SAVED : goal.returns-then-state-gt-MAX_SAVED
returns-then-state-gt-MAX_SAVED c =
    let past = past_opened _ _ c.in_ok-require_accepted.ensures in
    place_refused _ _ _ (sym (apply-counts _ _ past.0 past.1 _ c.args.state.now c.if-state-gt-MAX_SAVED.true))

pub returns : goal.returns
returns c =
    let past = past_opened _ _ c.in_ok-require_accepted.ensures in
    place_as _ _ (apply-passes _ _ past.0 past.1 _ c.args.state.now c.if-state-gt-MAX_SAVED.false) _ _ _ c.apply_into.ensures
