-- The scenarios at the bounds of the rules on aarch64 hold. Assumes nothing.
use mathlib.Core.Path.{refl}
use Rattle.model.specs.Machine.{Fresh}
use Rattle.runs.specs.Scenario.{Holds}
use Rattle.runs.specs.Irregular.{HoldsAmong, asked, outcomes}
use Rattle.runs.specs.BoundsAarch64.{start, at_end, of_eight, below_cfa, at_entry, at_cfa, alone}
use Rattle.runs.proofs.Computing.{opening, computing}
use Rattle.runs.proofs.Runs.{fresh_tested, holds_reported}
use Rattle.runs.proofs.Irregular.{holds-among}

-- the machine that they begin with is fresh
pub fresh : Fresh start
unfolding opening
fresh = fresh_tested start refl refl refl refl refl refl

-- every scenario holds
pub at-end : Holds at_end
unfolding computing
at-end = holds_reported at_end fresh refl (λ exception. refl)

pub of_eight_lem : Holds of_eight
unfolding computing
of_eight_lem = holds_reported of_eight fresh refl (λ exception. refl)

pub below-cfa : Holds below_cfa
unfolding computing
below-cfa = holds_reported below_cfa fresh refl (λ exception. refl)

pub at-entry : Holds at_entry
unfolding computing
at-entry = holds_reported at_entry fresh refl (λ exception. refl)

pub at-cfa : Holds at_cfa
unfolding computing
at-cfa = holds_reported at_cfa fresh refl (λ exception. refl)

pub one-alone : Holds alone
unfolding computing
one-alone = holds_reported alone fresh refl (λ exception. refl)

-- the first of them also with calls among the others that are refused with 20, 22, 23, 27, 28 and 29
pub among : HoldsAmong at_end (asked 31 29) (outcomes at_end.landings)
unfolding computing
among =
    holds-among at_end at-end (asked 31 29) (outcomes at_end.landings) (λ exception. refl)
    (tt, (tt, (tt, (tt, (tt, (tt, (tt, (tt, (tt, tt)))))))))
