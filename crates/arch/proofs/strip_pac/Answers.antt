-- `arch::strip_pac` meets its contract. Assumes nothing.
use Rattle.std.proofs.Common.{ap}
use Rattle.failure.specs.Outcome.{Answer}
use Rattle.failure.proofs.Outcome.{refused_by}
use Rattle.arch.specs.Public.{strip_pac}
use Rattle.arch.proofs.Known.{required}
use Rattle.arch.proofs.strip_pac.Goals as goal

pub returns-in_err-require_known : goal.returns-in_err-require_known
unfolding strip_pac
returns-in_err-require_known c = refused_by _ _ _ _ _ _ c.from_residual.ensures.1 c.in_err-require_known.was c.require_known.ensures

pub returns : goal.returns
unfolding strip_pac
returns c = required _ _ _ c.in_ok-require_known.ensures (ap Answer c.stripped.ensures)
