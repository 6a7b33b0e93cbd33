-- The scenarios hold: demand 3 is not vacuous. Assumes nothing.
use mathlib.Core.Bool.{true, false}
use mathlib.Core.List.{[], ◌∷◌}
use mathlib.Core.Path.{◌≡◌, refl}
use Rattle.model.specs.Machine.{Fresh, stored}
use Rattle.runs.specs.Scenario.{Holds, labels_right}
use Rattle.runs.specs.LiveStack.{overwritten, cut, HoldsOver, HoldsBetween, ThrowsOver, SpokenOf}
use Rattle.runs.specs.Unusable.{ComeTo, attempts, found, caught_low, attempts_low, found_low}
use Rattle.runs.proofs.Computing.{opening, computing}
use Rattle.runs.proofs.Runs.{fresh_tested, holds_reported}
use Rattle.runs.proofs.LiveStack.{over_reported, between_reported}
use Rattle.runs.proofs.Applied.{throws_over, second}
use Rattle.runs.specs.Aarch64 as Aarch64
use Rattle.runs.specs.X86 as X86

-- the machines that the scenarios begin with are fresh
pub aarch64-fresh : Fresh Aarch64.start
unfolding opening
aarch64-fresh = fresh_tested Aarch64.start refl refl refl refl refl refl

pub x86_fresh : Fresh X86.start
unfolding opening
x86_fresh = fresh_tested X86.start refl refl refl refl refl refl

-- every scenario holds
pub aarch64_scenarios : Holds Aarch64.caught × Holds Aarch64.terminated × Holds Aarch64.uncaught × Holds Aarch64.at_entry
unfolding computing
aarch64_scenarios = (
  holds_reported Aarch64.caught aarch64-fresh refl (λ exception. refl),
  holds_reported Aarch64.terminated aarch64-fresh refl (λ exception. refl),
  holds_reported Aarch64.uncaught aarch64-fresh refl (λ exception. refl),
  holds_reported Aarch64.at_entry aarch64-fresh refl (λ exception. refl),
)

pub x86_scenarios : Holds X86.caught × Holds X86.terminated × Holds X86.uncaught × Holds X86.in_leaf
unfolding computing
x86_scenarios = (
  holds_reported X86.caught x86_fresh refl (λ exception. refl),
  holds_reported X86.terminated x86_fresh refl (λ exception. refl),
  holds_reported X86.uncaught x86_fresh refl (λ exception. refl),
  holds_reported X86.in_leaf x86_fresh refl (λ exception. refl),
)

-- and the two with version 1 words of the other kind
pub leaf_scenarios : Holds Aarch64.in_leaf × Holds X86.over_unlinked
unfolding computing
leaf_scenarios = (
  holds_reported Aarch64.in_leaf aarch64-fresh refl (λ exception. refl),
  holds_reported X86.over_unlinked x86_fresh refl (λ exception. refl),
)

-- the first of each holds over a stack in which all below the frame that comes next is overwritten: at the first call nothing of a frame
-- is; then the frames passed are, those that landed included
pub overwritten_scenarios :
    HoldsOver Aarch64.caught Aarch64.overwritings (
    (true ∷ true ∷ true ∷ true ∷ true ∷ []) ∷
    (false ∷ false ∷ true ∷ true ∷ true ∷ []) ∷
    (false ∷ false ∷ false ∷ true ∷ true ∷ []) ∷
    (false ∷ false ∷ false ∷ false ∷ true ∷ []) ∷
    (false ∷ false ∷ false ∷ false ∷ true ∷ []) ∷ [])
    × HoldsOver X86.caught X86.overwritings (
    (true ∷ true ∷ true ∷ true ∷ true ∷ []) ∷
    (false ∷ false ∷ true ∷ true ∷ true ∷ []) ∷
    (false ∷ false ∷ false ∷ true ∷ true ∷ []) ∷
    (false ∷ false ∷ false ∷ false ∷ true ∷ []) ∷
    (false ∷ false ∷ false ∷ false ∷ true ∷ []) ∷ [])
unfolding computing
overwritten_scenarios = (
  over_reported Aarch64.caught _ _ aarch64_scenarios.0 refl (λ exception. refl),
  over_reported X86.caught _ _ x86_scenarios.0 refl (λ exception. refl),
)

-- and over one that is cut to the live slots that are needed: those of the outermost frame are not
pub cut_scenarios :
    HoldsOver Aarch64.caught Aarch64.cuts (
    (true ∷ true ∷ true ∷ true ∷ false ∷ []) ∷
    (false ∷ false ∷ true ∷ true ∷ false ∷ []) ∷
    (false ∷ false ∷ false ∷ true ∷ false ∷ []) ∷
    (false ∷ false ∷ false ∷ false ∷ false ∷ []) ∷
    (false ∷ false ∷ false ∷ false ∷ false ∷ []) ∷ [])
    × HoldsOver X86.caught X86.cuts (
    (true ∷ true ∷ true ∷ true ∷ false ∷ []) ∷
    (false ∷ false ∷ true ∷ true ∷ false ∷ []) ∷
    (false ∷ false ∷ false ∷ true ∷ false ∷ []) ∷
    (false ∷ false ∷ false ∷ false ∷ false ∷ []) ∷
    (false ∷ false ∷ false ∷ false ∷ false ∷ []) ∷ [])
    × ThrowsOver X86.caught (cut 0x8020 0x8090)
unfolding computing
cut_scenarios = (
  over_reported Aarch64.caught _ _ aarch64_scenarios.0 refl (λ exception. refl),
  over_reported X86.caught _ _ x86_scenarios.0 refl (λ exception. refl),
  throws_over X86.caught x86_scenarios.0 (cut 0x8020 0x8090) refl refl,
)

-- the contract of `resume` speaks of the second call after the first of each
pub spoken_of : SpokenOf Aarch64.caught (overwritten 0x8000) (overwritten 0x8040) × SpokenOf X86.caught (cut 0x8020 0x8080) (cut 0x8050 0x8080)
spoken_of = (
  second Aarch64.caught aarch64_scenarios.0 (overwritten 0x8000) (overwritten 0x8040) _ _ overwritten_scenarios.0,
  second X86.caught x86_scenarios.0 (cut 0x8020 0x8080) (cut 0x8050 0x8080) _ _ cut_scenarios.1,
)

-- stores between the calls: after a catch, where nothing is chosen, and after an interrupt. Then calls that are not usable
pub between_scenarios :
    HoldsBetween X86.caught X86.stores_between X86.stored_between
    × HoldsBetween X86.uncaught ((X86.in_gap ∷ []) ∷ [] ∷ []) ((λ r. stored r X86.in_gap) ∷ (λ r. stored r X86.in_gap) ∷ [])
    × HoldsBetween X86.in_leaf ((X86.in_gap ∷ []) ∷ []) ((λ r. stored r X86.in_gap) ∷ [])
    × ComeTo X86.caught attempts found
    × ComeTo caught_low attempts_low found_low
unfolding computing
between_scenarios = (
  between_reported X86.caught _ _ x86_scenarios.0 (λ exception. refl),
  between_reported X86.uncaught _ _ x86_scenarios.2 (λ exception. refl),
  between_reported X86.in_leaf _ _ x86_scenarios.3 (λ exception. refl),
  λ exception. refl,
  λ exception. refl,
)

-- the events of the first scenario of each are within the rules or against them, as their labels say
pub labels_right_lem : (labels_right Aarch64.start (Aarch64.caught).labelled ≡ true) × (labels_right X86.start (X86.caught).labelled ≡ true)
unfolding computing
labels_right_lem = (refl, refl)

-- so are those of the last one
pub leaf_labels_right : (labels_right Aarch64.start Aarch64.to_leaf ≡ true) × (labels_right X86.start X86.to_leaf ≡ true)
unfolding computing
leaf_labels_right = (refl, refl)
