-- The rows of `Walk`. Assumes nothing.
use mathlib.Core.Path.{refl}
use Rattle.boundaries.specs.Lending.{x86_1, x86_2, aarch64_2}
use Rattle.boundaries.specs.Walk.{Walks, WalksInterrupted, WalksOfVersion1}
use Rattle.boundaries.proofs.Computing.{computing}

pub walks_x86_1 : Walks x86_1
unfolding computing
walks_x86_1 = (refl, refl, refl, refl, refl)

pub walks_x86_2 : Walks x86_2
unfolding computing
walks_x86_2 = (refl, refl, refl, refl, refl)

pub walks_aarch64_2 : Walks aarch64_2
unfolding computing
walks_aarch64_2 = (refl, refl, refl, refl, refl)

pub interrupted_x86_2 : WalksInterrupted x86_2
unfolding computing
interrupted_x86_2 = refl

pub interrupted_aarch64_2 : WalksInterrupted aarch64_2
unfolding computing
interrupted_aarch64_2 = refl

pub version1 : WalksOfVersion1
unfolding computing
version1 = (refl, refl)
