-- The scenarios far out on x86-64 hold, and their events are within the rules or against them, as their labels say. Assumes nothing.
use mathlib.Core.Bool.{true}
use mathlib.Core.Path.{◌≡◌, refl}
use Rattle.model.specs.Machine.{Fresh}
use Rattle.runs.specs.Scenario.{Holds, labels_right}
use Rattle.runs.specs.FarX86.{start_at, start, wraps, rowless, least_fp, no_fp, odd_fp, least_cfa, no_cfa}
use Rattle.runs.proofs.Computing.{opening, computing}
use Rattle.runs.proofs.Runs.{fresh_tested, holds_reported}

-- the machine that they begin with is fresh
pub fresh : Fresh start
unfolding opening
fresh = fresh_tested start refl refl refl refl refl refl

-- each event is as its label says
pub labels : labels_right start wraps.labelled ≡ true
unfolding computing
labels = refl

-- so are those about the least fp, and about the least CFA
pub labels_fp :
    (labels_right (start_at 0x38) least_fp ≡ true)
    × (labels_right (start_at 0x30) no_fp ≡ true)
    × (labels_right (start_at 0x37) odd_fp ≡ true)
unfolding computing
labels_fp = (refl, refl, refl)

pub labels_cfa : (labels_right (start_at 9) least_cfa ≡ true) × (labels_right (start_at 8) no_cfa ≡ true)
unfolding computing
labels_cfa = (refl, refl)

-- every scenario holds
pub over_wrapped : Holds wraps
unfolding computing
over_wrapped = holds_reported wraps fresh refl (λ exception. refl)

pub in_leaf_lem : Holds rowless
unfolding computing
in_leaf_lem = holds_reported rowless fresh refl (λ exception. refl)
