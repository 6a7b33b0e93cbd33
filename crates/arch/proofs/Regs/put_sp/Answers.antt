-- `arch::Regs::put_sp` meets its contract. Assumes nothing.
use Rattle.std.proofs.Common.{ℕ, slice_set, sym, ap}
use Rattle.failure.specs.Outcome.{Answer}
use Rattle.failure.proofs.Outcome.{refusal_by}
use Rattle.arch.specs.Public.{set_sp}
use Rattle.arch.proofs.InPlace.{place_done, place_exit}
use Rattle.arch.proofs.Known.{required}
use Rattle.arch.proofs.Regs.put_sp.Goals as goal

pub returns-in_err-require_known : goal.returns-in_err-require_known
unfolding set_sp
returns-in_err-require_known c =
    place_exit _ _ _ _ c.from_residual.ensures.1 (refusal_by _ _ _ _ _ c.in_err-require_known.was c.require_known.ensures)

pub returns : goal.returns
unfolding set_sp
returns c =
    place_done _ _ _
    (sym (required _ _ _ c.in_ok-require_known.ensures
    (ap (λ (k : ℕ). Answer (slice_set c.args.self.now.r k c.args.value)) c.sp_column.ensures.0)))
