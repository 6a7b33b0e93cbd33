-- The rows of `Architectures`. Assumes nothing.
use mathlib.Core.Path.{refl}
use Rattle.boundaries.specs.Row.{Right}
use Rattle.boundaries.specs.Architectures.{Refused28, next_frames, walks, raises, resumes, unwinds, unwinds_next}
use Rattle.boundaries.proofs.Computing.{computing}

pub next_frames_right : Right next_frames
unfolding computing
next_frames_right = refl

pub walks_right : Right walks
unfolding computing
walks_right = refl

pub raises_right : Right raises
unfolding computing
raises_right = refl

pub resumes_right : Right resumes
unfolding computing
resumes_right = refl

pub unwinds_right : Right unwinds
unfolding computing
unwinds_right = refl

pub unwinds_next_right : Right unwinds_next
unfolding computing
unwinds_next_right = refl

pub refused28 : Refused28
unfolding computing
refused28 = (refl, refl, refl, refl, refl, refl, refl, refl, refl, next_frames_right, walks_right, raises_right, resumes_right, unwinds_right, unwinds_next_right)
