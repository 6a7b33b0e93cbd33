-- `arch::Regs::get` meets its contract. Assumes nothing.
use Rattle.std.proofs.Common.{arith, sym}
use Rattle.failure.proofs.Outcome.{refused_on, refused_by, answered_on}
use Rattle.arch.specs.File as File
use Rattle.arch.specs.Public.{get}
use Rattle.arch.proofs.Arch.{fits}
use Rattle.arch.proofs.File.{column_fits}
use Rattle.arch.proofs.Known.{required}
use Rattle.arch.proofs.Regs.get.Goals as goal

pub returns-in_err-require_known : goal.returns-in_err-require_known
unfolding get
returns-in_err-require_known c = refused_by _ _ _ _ _ _ c.from_residual.ensures.1 c.in_err-require_known.was c.require_known.ensures

pub returns-in_err-k : goal.returns-in_err-k
unfolding get File.get
returns-in_err-k c =
    required _ _ _ c.in_ok-require_known.ensures
    (refused_on _ _ _ _ _ c.from_residual-in_err-k.ensures.1 c.in_err-k.was c.column_of.ensures)

pub offset_bounds-self-k : goal.offset_bounds-self-k
offset_bounds-self-k c = omega (arith, column_fits _ (fits _) _ _ (sym c.in_ok-k.ensures))

pub bounds-self-k : goal.bounds-self-k
bounds-self-k c = column_fits _ (fits _) _ _ (sym c.in_ok-k.ensures)

pub returns : goal.returns
unfolding get File.get
returns c =
    required _ _ _ c.in_ok-require_known.ensures
    (answered_on _ _ _ _ c.in_ok-k.was c.column_of.ensures)
