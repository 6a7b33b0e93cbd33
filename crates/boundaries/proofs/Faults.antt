-- The rows of `Faults`. Assumes nothing.
use mathlib.Core.Path.{refl}
use Rattle.boundaries.specs.Lending.{x86_2, aarch64_2}
use Rattle.boundaries.specs.Faults.{Reads, FaultsOf}
use Rattle.boundaries.proofs.Computing.{computing}

pub reads : Reads
unfolding computing
reads = (refl, refl, refl)

pub faults_x86_2 : FaultsOf x86_2
unfolding computing
faults_x86_2 = (refl, refl, refl, refl, refl, refl, refl, refl)

pub faults_aarch64_2 : FaultsOf aarch64_2
unfolding computing
faults_aarch64_2 = (refl, refl, refl, refl, refl, refl, refl, refl)
