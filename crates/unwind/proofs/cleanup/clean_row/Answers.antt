-- `unwind::cleanup::clean_row` meets its contract. Assumes nothing.
use mathlib.Core.Path.{sym, ◌∙◌}
use Rattle.unwind.specs.Turns.{clean_row}
use Rattle.unwind.proofs.CleanupPhase.{compared_catch}
use Rattle.unwind.proofs.cleanup.clean_row.Goals as goal
use Rattle.unwind.proofs.cleanup.clean_row.Goals.{else-eq-via-then-eq+else-same_sp, else-eq-via-else-eq}

pub returns-in-Cleanup : goal.returns-in-Cleanup
unfolding clean_row
returns-in-Cleanup c = rw (c.if-is_below.true, c.in-Cleanup.is)

pub returns-in-Catch : goal.returns-in-Catch
unfolding clean_row
returns-in-Catch c = rw (c.if-is_below.true, c.in-Catch.is)

pub returns-in-Terminate : goal.returns-in-Terminate
unfolding clean_row
returns-in-Terminate c = rw (c.if-is_below.true, c.in-Terminate.is)

pub returns-then-same_sp : goal.returns-then-same_sp
unfolding clean_row
returns-then-same_sp c = rw (c.if-is_below.false, compared_catch _ ∙ sym c.eq.ensures ∙ c.if-eq.true, c.if-same_sp.true)

pub returns : goal.returns
unfolding clean_row
returns c =
    rw c.if-is_below.false
    (elim c.else-eq.branch [
      | else-eq-via-then-eq+else-same_sp w ↦
          rw (compared_catch c.args.row.action ∙ sym c.eq.ensures ∙ w.if-eq.true, w.if-same_sp.false)
      | else-eq-via-else-eq w ↦ rw (compared_catch c.args.row.action ∙ sym c.eq.ensures ∙ w.if-eq.false)
    ])
