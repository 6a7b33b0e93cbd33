-- The rows of `Sweep`. Assumes nothing.
use mathlib.Core.Path.{refl}
use Rattle.boundaries.specs.Row.{Right}
use Rattle.boundaries.specs.Lending.{x86_1, x86_2, aarch64_2}
use Rattle.boundaries.specs.Sweep.{Sweeps, SweepsInterrupted, reasons}
use Rattle.boundaries.proofs.Computing.{computing}

pub sweeps_x86_1 : Sweeps x86_1
unfolding computing
sweeps_x86_1 = (refl, refl, refl, refl, refl, refl, refl, refl)

pub sweeps_x86_2 : Sweeps x86_2
unfolding computing
sweeps_x86_2 = (refl, refl, refl, refl, refl, refl, refl, refl)

pub sweeps_aarch64_2 : Sweeps aarch64_2
unfolding computing
sweeps_aarch64_2 = (refl, refl, refl, refl, refl, refl, refl, refl)

pub interrupted_x86_2 : SweepsInterrupted x86_2
unfolding computing
interrupted_x86_2 = refl

pub interrupted_aarch64_2 : SweepsInterrupted aarch64_2
unfolding computing
interrupted_aarch64_2 = refl

pub reasons_right : Right reasons
unfolding computing
reasons_right = refl
