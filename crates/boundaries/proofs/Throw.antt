-- The rows of `Throw`. Assumes nothing.
use mathlib.Core.Path.{refl}
use Rattle.boundaries.specs.Row.{Right}
use Rattle.boundaries.specs.Lending.{x86_1, x86_2, aarch64_2}
use Rattle.boundaries.specs.Throw.{Throws, ThrowsInterrupted, reasons}
use Rattle.boundaries.proofs.Computing.{computing}

pub throws_x86_1 : Throws x86_1
unfolding computing
throws_x86_1 = (refl, refl, refl, refl, refl)

pub throws_x86_2 : Throws x86_2
unfolding computing
throws_x86_2 = (refl, refl, refl, refl, refl)

pub throws_aarch64_2 : Throws aarch64_2
unfolding computing
throws_aarch64_2 = (refl, refl, refl, refl, refl)

pub interrupted_x86_2 : ThrowsInterrupted x86_2
unfolding computing
interrupted_x86_2 = refl

pub interrupted_aarch64_2 : ThrowsInterrupted aarch64_2
unfolding computing
interrupted_aarch64_2 = refl

pub reasons_right : Right reasons
unfolding computing
reasons_right = refl
