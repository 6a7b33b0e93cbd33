-- `arch::Regs::sp` meets its contract. Assumes nothing.
use Rattle.std.proofs.Common.{ℕ, get_or, ap}
use Rattle.failure.specs.Outcome.{Answer}
use Rattle.failure.proofs.Outcome.{refused_by}
use Rattle.arch.specs.Public.{sp}
use Rattle.arch.proofs.Known.{required}
use Rattle.arch.proofs.Regs.sp.Goals as goal

pub returns-in_err-require_known : goal.returns-in_err-require_known
unfolding sp
returns-in_err-require_known c = refused_by _ _ _ _ _ _ c.from_residual.ensures.1 c.in_err-require_known.was c.require_known.ensures

pub returns : goal.returns
unfolding sp
returns c =
    required _ _ _ c.in_ok-require_known.ensures
    (ap (λ (k : ℕ). Answer (get_or c.args.self.r k 0)) c.sp_column.ensures.0)
