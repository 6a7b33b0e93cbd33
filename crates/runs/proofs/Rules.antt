-- An event against the rules leaves the machine as it was. Assumes nothing.
use mathlib.Core.Bool.{true, false, not}
use mathlib.Core.List.{List, [], ◌∷◌}
use Rattle.std.proofs.Common.{Option, None, Some}
use mathlib.Core.Path.{◌≡◌, refl, ◌∙◌, ap}
use borrow.Author.Tests.{not-true}
use Rattle.mem.proofs.Tests.{both}
use Rattle.lookup.specs.Tables.{Entry, named}
use Rattle.model.specs.Machine.{Open, Machine, records_of}
use Rattle.model.specs.Event.{Event, Call, Spill, Change, Reload, Move, Write, call, spill, change, reload, move, step, steps}
use Rattle.model.specs.Event.{call_allowed, spill_allowed, change_allowed, reload_allowed, move_allowed}
use Rattle.runs.specs.Scenario.{allowed_with, innermost, within, Labelled, does, against, events, allowed_only, labels_right}

-- one that is not leaves the machine as it was
pub against_leaves : (m : Machine) (e : Event) → within m e ≡ false → step m e ≡ m
against_leaves m (Call chunk index ret) h = go (named chunk index (records_of m.tables)) h
  where
    go : (o : Option Entry) → allowed_with (λ e. call_allowed m e ret) o ≡ false → call m ret o ≡ m
    go None h = refl
    go (Some e) h = rw h
against_leaves m (Spill reg slot) h = go m.frames h
  where
    go : (fs : List Open) → innermost (λ f. spill_allowed m f reg slot) fs ≡ false → spill m reg slot fs ≡ m
    go [] h = refl
    go (f ∷ fs) h = rw h
against_leaves m (Change reg v) h = go m.frames h
  where
    go : (fs : List Open) → innermost (λ f. change_allowed m f reg v) fs ≡ false → change m reg v fs ≡ m
    go [] h = refl
    go (f ∷ fs) h = rw h
against_leaves m (Reload reg) h = go m.frames h
  where
    go : (fs : List Open) → innermost (λ f. reload_allowed f reg) fs ≡ false → reload m reg fs ≡ m
    go [] h = refl
    go (f ∷ fs) h = rw h
against_leaves m (Move to) h = go m.frames h
  where
    go : (fs : List Open) → innermost (λ f. move_allowed f to) fs ≡ false → move m to fs ≡ m
    go [] h = refl
    go (f ∷ fs) h = rw h
against_leaves m (Write x v) h = rw h

-- then those against the rules might as well not be there
pub allowed_same : (m : Machine) (ts : List Labelled) → labels_right m ts ≡ true → steps m (events ts) ≡ steps m (allowed_only ts)
allowed_same m [] h = refl
allowed_same m (does e ∷ ts) h = allowed_same (step m e) ts (both (within m e) (labels_right (step m e) ts) h).1
allowed_same m (against e ∷ ts) h =
    let (refused, rest) = both (not (within m e)) (labels_right m ts) h in
    ap (λ (n : Machine). steps n (events ts)) (against_leaves m e (not-true (within m e) refused)) ∙ allowed_same m ts rest
