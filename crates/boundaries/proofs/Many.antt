-- The rows of `Many`. Assumes nothing.
use mathlib.Core.Path.{refl}
use Rattle.boundaries.specs.Row.{Right}
use Rattle.boundaries.specs.Many.{ManyFrames, throws_many, throws_too_many, sweeps_many, sweeps_too_many, walks}
use Rattle.boundaries.proofs.Computing.{computing}

pub throws_many_right : Right throws_many
unfolding computing
throws_many_right = refl

pub throws_too_many_right : Right throws_too_many
unfolding computing
throws_too_many_right = refl

pub sweeps_many_right : Right sweeps_many
unfolding computing
sweeps_many_right = refl

pub sweeps_too_many_right : Right sweeps_too_many
unfolding computing
sweeps_too_many_right = refl

pub walks_right : Right walks
unfolding computing
walks_right = refl

pub many_frames : ManyFrames
many_frames = (throws_many_right, throws_too_many_right, sweeps_many_right, sweeps_too_many_right, walks_right)
