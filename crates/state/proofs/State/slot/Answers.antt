-- `state::State::slot` meets its contract. Assumes nothing.
use Rattle.std.proofs.Common.{sym, ◌∙◌, arith}
use Rattle.state.proofs.Pairs.{place-below}
use Rattle.state.proofs.Public.{slot-overfull, slot_at, slot_none}
use Rattle.state.proofs.State.slot.Goals as goal

pub returns-then-self-gt-MAX_SAVED : goal.returns-then-self-gt-MAX_SAVED
returns-then-self-gt-MAX_SAVED c = slot-overfull _ _ c.if-self-gt-MAX_SAVED.true

pub offset_bounds-self-i : goal.offset_bounds-self-i
offset_bounds-self-i c = let below = place-below c.args.self c.args.reg c.in-Some.i (sym c.seek.ensures ∙ c.in-Some.is) in omega arith

pub bounds-self-i : goal.bounds-self-i
bounds-self-i c = let below = place-below c.args.self c.args.reg c.in-Some.i (sym c.seek.ensures ∙ c.in-Some.is) in omega arith

pub returns-in-Some : goal.returns-in-Some
returns-in-Some c =
    slot_at _ _ _ c.if-self-gt-MAX_SAVED.false (sym c.seek.ensures ∙ c.in-Some.is)

pub returns-in-None : goal.returns-in-None
returns-in-None c =
    slot_none _ _ c.if-self-gt-MAX_SAVED.false (sym c.seek.ensures ∙ c.in-None.is)
