-- The rows of `Unwinding`. Assumes nothing.
use mathlib.Core.Path.{refl}
use Rattle.boundaries.specs.Lending.{x86_1, x86_2, aarch64_2}
use Rattle.boundaries.specs.Unwinding.{Calls}
use Rattle.boundaries.proofs.Computing.{computing}

pub calls_x86_1 : Calls x86_1
unfolding computing
calls_x86_1 = (refl, refl, refl, refl)

pub calls_x86_2 : Calls x86_2
unfolding computing
calls_x86_2 = (refl, refl, refl, refl)

pub calls_aarch64_2 : Calls aarch64_2
unfolding computing
calls_aarch64_2 = (refl, refl, refl, refl)
