-- The events and throws at the bounds of the rules on x86-64 are within the rules or against them, as is said of each. Assumes nothing.
use mathlib.Core.Bool.{true, false}
use mathlib.Core.List.{[], ◌∷◌, ◌++◌, map}
use mathlib.Core.Path.{◌≡◌, refl}
use Rattle.model.specs.Event.{Call}
use Rattle.model.specs.Throw.{throw_allowed}
use Rattle.runs.specs.Scenario.{reached, within, labels_right}
use Rattle.runs.specs.ManyFrames.{with_many}
use Rattle.runs.specs.BoundsX86.{start, start_past, past_events, in_outer, in_linked, in_framed, askew, at_first, at_end, of_eight, between_slots, at_entry, alone, throws, throws_in_zero, throws_at_entry}
use Rattle.runs.proofs.Computing.{computing}

-- each event is as its label says
pub labels : labels_right start of_eight.labelled ≡ true
unfolding computing
labels = refl

-- so are those between live slots
pub labels_between : labels_right start between_slots.labelled ≡ true
unfolding computing
labels_between = refl

pub labels_askew : labels_right start (in_outer ++ in_linked ++ in_framed ++ askew) ≡ true
unfolding computing
labels_askew = refl

-- so is the call whose return address would not lie in the stack
pub labels_past : labels_right start_past past_events ≡ true
unfolding computing
labels_past = refl

-- so are those about the first address that a call can return to
pub labels_first : labels_right start (in_outer ++ in_linked ++ at_first) ≡ true
unfolding computing
labels_first = refl

-- the 1,024th frame is within the rules, and no further one
pub frames_1024 :
    (within (with_many 1023 (reached alone)) (Call 2 0 0x4040) ≡ true) × (within (with_many 1024 (reached alone)) (Call 2 0 0x4040) ≡ false)
unfolding computing
frames_1024 = (refl, refl)

-- throws and interrupts within the rules, and against them
pub throws_wide : map (throw_allowed (reached at_end)) throws ≡ true ∷ false ∷ true ∷ false ∷ true ∷ false ∷ []
unfolding computing
throws_wide = refl

pub throws-zero :
    map (throw_allowed (reached of_eight)) throws_in_zero ≡ false ∷ true ∷ true ∷ false ∷ false ∷ true ∷ true ∷ false ∷ []
unfolding computing
throws-zero = refl

pub throws-entry : map (throw_allowed (reached at_entry)) throws_at_entry ≡ false ∷ true ∷ false ∷ true ∷ []
unfolding computing
throws-entry = refl
