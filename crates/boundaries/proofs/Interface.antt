-- The rows of `Interface`. Assumes nothing.
use mathlib.Core.Path.{refl}
use Rattle.boundaries.specs.Lending.{x86_1, x86_2, aarch64_2}
use Rattle.boundaries.specs.Interface.{Structs, Personalities}
use Rattle.boundaries.proofs.Computing.{computing}

pub personalities_x86_1 : Personalities x86_1
unfolding computing
personalities_x86_1 = refl

pub personalities_x86_2 : Personalities x86_2
unfolding computing
personalities_x86_2 = refl

pub personalities_aarch64_2 : Personalities aarch64_2
unfolding computing
personalities_aarch64_2 = refl

pub structs : Structs
unfolding computing
structs = (refl, refl, refl, refl, refl, refl, refl, refl, refl, refl, refl, refl, refl)
