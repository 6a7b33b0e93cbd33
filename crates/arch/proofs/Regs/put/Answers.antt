-- `arch::Regs::put` meets its contract. Assumes nothing.
use Rattle.std.proofs.Common.{arith, sym}
use Rattle.failure.proofs.Outcome.{refusal, refusal_by, answered_on}
use Rattle.arch.specs.File as File
use Rattle.arch.specs.Public.{set}
use Rattle.arch.proofs.Arch.{fits}
use Rattle.arch.proofs.File.{column_fits}
use Rattle.arch.proofs.InPlace.{place_done, place_exit}
use Rattle.arch.proofs.Known.{required}
use Rattle.arch.proofs.Regs.put.Goals as goal

pub returns-in_err-require_known : goal.returns-in_err-require_known
unfolding set
returns-in_err-require_known c =
    place_exit _ _ _ _ c.from_residual.ensures.1 (refusal_by _ _ _ _ _ c.in_err-require_known.was c.require_known.ensures)

pub returns-in_err-column : goal.returns-in_err-column
unfolding set File.set
returns-in_err-column c =
    place_exit _ _ _ _ c.from_residual-in_err-column.ensures.1
    (sym (required _ _ _ c.in_ok-require_known.ensures (sym (refusal _ _ _ _ c.in_err-column.was c.column_of.ensures))))

pub offset_bounds-self-column : goal.offset_bounds-self-column
offset_bounds-self-column c = omega (arith, column_fits _ (fits _) _ _ (sym c.in_ok-column.ensures))

pub bounds-self-column : goal.bounds-self-column
bounds-self-column c = column_fits _ (fits _) _ _ (sym c.in_ok-column.ensures)

pub returns : goal.returns
unfolding set File.set
returns c =
    place_done _ _ _
    (sym (required _ _ _ c.in_ok-require_known.ensures (answered_on _ _ _ _ c.in_ok-column.was c.column_of.ensures)))
