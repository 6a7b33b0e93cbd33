-- `arch::Regs::fp` meets its contract. Assumes nothing.
use Rattle.std.proofs.Common.{ℕ, get_or, ap}
use Rattle.failure.specs.Outcome.{Answer}
use Rattle.failure.proofs.Outcome.{refused_by}
use Rattle.arch.specs.Public.{fp}
use Rattle.arch.proofs.Known.{required}
use Rattle.arch.proofs.Regs.fp.Goals as goal

pub returns-in_err-require_known : goal.returns-in_err-require_known
unfolding fp
returns-in_err-require_known c = refused_by _ _ _ _ _ _ c.from_residual.ensures.1 c.in_err-require_known.was c.require_known.ensures

pub returns : goal.returns
unfolding fp
returns c =
    required _ _ _ c.in_ok-require_known.ensures
    (ap (λ (k : ℕ). Answer (get_or c.args.self.r k 0)) c.fp_column.ensures.0)
