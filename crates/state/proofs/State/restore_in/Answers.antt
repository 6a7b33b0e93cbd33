-- `state::State::restore_in` meets its contract: each return is a law of `restore`. Assumes nothing.
use Rattle.std.proofs.Common.{ap}
use Rattle.state.specs.Answers.{changed}
use Rattle.state.proofs.Changes.{change_done, change_refused, change_same}
use Rattle.state.proofs.Restore.{restore-overfull, restore_other, restore-bare, restore-saved, return_small, slot_small, saved_changes}
use Rattle.state.proofs.State.restore_in.Goals as goal
use Rattle.state.proofs.State.restore_in.Goals.{then-reg-a-via-then-reg-a, then-reg-a-via-else-reg-a+then-a-eq0}

pub returns-then-self-gt-MAX_SAVED : goal.returns-then-self-gt-MAX_SAVED
returns-then-self-gt-MAX_SAVED c =
    change_refused _ _ _ (ap changed (restore-overfull _ _ c.numbers-a.ensures _ _ c.if-self-gt-MAX_SAVED.true))

pub returns-then-reg-a : goal.returns-then-reg-a
returns-then-reg-a c =
    change_done _ _ _
    (ap changed
    (elim c.then-reg-a.branch [
      | then-reg-a-via-then-reg-a w ↦
          restore_other _ _ c.numbers-a.ensures _ _ c.if-self-gt-MAX_SAVED.false _ c.drop_in.ensures w.if-reg-a.true
      | then-reg-a-via-else-reg-a+then-a-eq0 w ↦
          restore-bare _ _ c.numbers-a.ensures _ _ c.if-self-gt-MAX_SAVED.false _ c.drop_in.ensures w.if-reg-a.false w.if-a-eq0.true
    ]))

pub returns : goal.returns
returns c =
    change_same _ _ _ _ _
    (restore-saved _ _ c.numbers-a.ensures _ _ c.if-self-gt-MAX_SAVED.false _ c.drop_in.ensures c.if-reg-a.false c.if-a-eq0.false)
    (saved_changes _ _ _ c.if-self-gt-MAX_SAVED.false (return_small _ _ c.numbers-a.ensures _ c.if-reg-a.false) c.if-a-eq0.false
    (slot_small _ _ c.numbers-a.ensures) _ c.drop_in.ensures _ _ c.save_in.ensures)
