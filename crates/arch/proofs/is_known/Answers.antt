-- `arch::is_known` meets its contract. Assumes nothing.
use Rattle.std.proofs.Common.{eq-eqb, ne_eqb}
use Rattle.arch.specs.Arch.{is_known}
use Rattle.arch.proofs.is_known.Goals as goal

pub returns-then-arch-eq-AARCH64 : goal.returns-then-arch-eq-AARCH64
unfolding is_known
returns-then-arch-eq-AARCH64 c = simp (eq-eqb _ _ c.if-arch-eq-AARCH64.true)

pub returns-else-arch-eq-AARCH64 : goal.returns-else-arch-eq-AARCH64
unfolding is_known
returns-else-arch-eq-AARCH64 c = simp (ne_eqb _ _ c.if-arch-eq-AARCH64.false)
