-- `arch::numbers` meets its contract. Assumes nothing.
use mathlib.Core.Path.{sym, ap}
use Rattle.arch.specs.Answers.{in_code}
use Rattle.arch.proofs.Arch.{numbers-aarch64, numbers_x86_64}
use Rattle.arch.proofs.numbers.Goals as goal

pub returns-then-arch-eq-AARCH64 : goal.returns-then-arch-eq-AARCH64
returns-then-arch-eq-AARCH64 c = ap in_code (sym (numbers-aarch64 _ c.if-arch-eq-AARCH64.true))

pub returns : goal.returns
returns c = ap in_code (sym (numbers_x86_64 _ c.if-arch-eq-AARCH64.false))
