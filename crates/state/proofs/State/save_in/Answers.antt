-- `state::State::save_in` meets its contract: each return is a law of `save`. Assumes nothing.
use Rattle.std.proofs.Common.{sym, ap, ◌∙◌, arith}
use Rattle.state.specs.Answers.{changed}
use Rattle.state.proofs.Changes.{change_done, change_refused}
use Rattle.state.proofs.Pairs.{place-below}
use Rattle.state.proofs.Save.{save-overfull, save_slot_0, save_slot_large, save_reg_large, save_again, save_full, save_new}
use Rattle.state.proofs.State.save_in.Goals as goal
use Rattle.state.proofs.State.save_in.Goals.{then-slot-eq0-via-then-slot-eq0, then-slot-eq0-via-else-slot-eq0+then-slot-gt65535, then-slot-eq0-via-else-slot-eq0+else-slot-gt65535+then-reg-gt65535}

pub returns-then-self-gt-MAX_SAVED : goal.returns-then-self-gt-MAX_SAVED
returns-then-self-gt-MAX_SAVED c = change_refused _ _ _ (ap changed (save-overfull _ _ _ c.if-self-gt-MAX_SAVED.true))

pub returns-then-slot-eq0 : goal.returns-then-slot-eq0
returns-then-slot-eq0 c =
    change_refused _ _ _
    (ap changed
    (elim c.then-slot-eq0.branch [
      | then-slot-eq0-via-then-slot-eq0 w ↦ save_slot_0 _ _ _ c.if-self-gt-MAX_SAVED.false w.if-slot-eq0.true
      | then-slot-eq0-via-else-slot-eq0+then-slot-gt65535 w ↦
          save_slot_large _ _ _ c.if-self-gt-MAX_SAVED.false w.if-slot-eq0.false w.if-slot-gt65535.true
      | then-slot-eq0-via-else-slot-eq0+else-slot-gt65535+then-reg-gt65535 w ↦
          save_reg_large _ _ _ c.if-self-gt-MAX_SAVED.false w.if-slot-eq0.false w.if-slot-gt65535.false w.if-reg-gt65535.true
    ]))

pub offset_bounds-self-i : goal.offset_bounds-self-i
offset_bounds-self-i c = let below = place-below c.args.self.now c.args.reg c.in-Some.i (sym c.seek.ensures ∙ c.in-Some.is) in omega arith

pub bounds-self-i : goal.bounds-self-i
bounds-self-i c = let below = place-below c.args.self.now c.args.reg c.in-Some.i (sym c.seek.ensures ∙ c.in-Some.is) in omega arith

pub returns-then-self-eq-MAX_SAVED : goal.returns-then-self-eq-MAX_SAVED
returns-then-self-eq-MAX_SAVED c =
    change_refused _ _ _
    (ap changed
    (save_full _ _ _ c.if-self-gt-MAX_SAVED.false c.if-slot-eq0.false c.if-slot-gt65535.false c.if-reg-gt65535.false
    (sym c.seek.ensures ∙ c.in-None.is) c.if-self-eq-MAX_SAVED.true))

pub returns-in-Some : goal.returns-in-Some
returns-in-Some c =
    change_done _ _ _
    (ap changed
    (save_again _ _ _ c.if-self-gt-MAX_SAVED.false c.if-slot-eq0.false c.if-slot-gt65535.false c.if-reg-gt65535.false
    _ (sym c.seek.ensures ∙ c.in-Some.is)))

pub returns-else-self-eq-MAX_SAVED : goal.returns-else-self-eq-MAX_SAVED
returns-else-self-eq-MAX_SAVED c =
    change_done _ _ _
    (ap changed
    (save_new _ _ _ c.if-self-gt-MAX_SAVED.false c.if-slot-eq0.false c.if-slot-gt65535.false c.if-reg-gt65535.false
    (sym c.seek.ensures ∙ c.in-None.is) c.if-self-eq-MAX_SAVED.false))
