-- `frame::step::set_frame` meets its contract. Assumes nothing.
use Rattle.std.proofs.Common.{refl, sym, ◌∙◌, ap}
use Rattle.failure.specs.Outcome.{Answer, outcome}
use Rattle.frame.proofs.Ra.{fp-known}
use Rattle.frame.proofs.Partly.{partly_done, partly_exit}
use Rattle.frame.proofs.Slot.{cell_at, cell_outside}
use Rattle.frame.proofs.Stepped.{fp-set, fp_refused, fp_stays}
use Rattle.frame.proofs.step.set_frame.Goals as goal
use Rattle.frame.proofs.step.set_frame.Goals.{then-kind-eq-KIND_FP+in_ok-file, else-kind-eq-KIND_FP}

pub returns-in_err-file : goal.returns-in_err-file
returns-in_err-file g c =
    partly_exit _ _ _ _ c.from_residual.ensures.1
    (sym
    (fp_refused _ _ _ _ _ _ _ c.kind.ensures c.if-kind-eq-KIND_FP.true _ refl _
    (cell_outside _ _ _ _ _ _ (sym (ap outcome c.in_err-file.was) ∙ c.load.ensures))))

pub returns : goal.returns
returns g c =
    let done = rw c.cfa.ensures at c.set_return.ensures in
    elim c.if-kind-eq-KIND_FP.branch [
      | then-kind-eq-KIND_FP+in_ok-file w ↦
          partly_done _ _
          (sym
          (fp-set _ _ _ _ _ _ _ c.kind.ensures w.if-kind-eq-KIND_FP.true _ refl _ _
          (cell_at _ _ _ _ _ _ _ w.in_ok-file.ensures (ap Answer w.fp_column.ensures.0 ∙ fp-known _))) ∙
          rw w.file-is at done)
      | else-kind-eq-KIND_FP w ↦ partly_done _ _ (sym (fp_stays _ _ _ _ _ _ _ c.kind.ensures w.if-kind-eq-KIND_FP.false) ∙ rw w.file-is at done)
    ]
