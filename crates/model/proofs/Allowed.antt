-- Choices by a test: what an event does where its guard allows it, and where it leaves the machine as it was. Assumes nothing.
use Rattle.std.specs.Prelude.{if◌then◌else◌}
use mathlib.Core.Path.{◌≡◌, refl}
use mathlib.Core.Bool.{Bool, true, false, not, ◌||◌}
use mathlib.Core.List.{List, [], ◌∷◌}
use Rattle.model.specs.Machine.{Open, Machine}
use Rattle.model.proofs.Chain.{Inv}

-- a test that is asked only where another holds
pub asked : (s t : Bool) → (not s || t) ≡ true → s ≡ true → t ≡ true
asked true t e h = e
asked false t e h = cc

-- what holds of both choices
pub by_test : {A : Type 0} (P : A → Type 0) (t : Bool) (x y : A) → (t ≡ true → P x) → (t ≡ false → P y) → P (if t then x else y)
by_test P true x y one two = one refl
by_test P false x y one two = two refl

-- an event against its guard leaves the machine as it was
pub if_allowed : (m n : Machine) (t : Bool) → Inv m → (t ≡ true → Inv n) → Inv (if t then n else m)
if_allowed m n t i h = by_test Inv t n m h (λ e. i)

-- an event of the innermost frame: what holds where no frame is open and where one is
pub if_open :
    (P : Machine → Type 0) (m : Machine) (event : List Open → Machine) → P (event []) →
    ((f : Open) (fs : List Open) → m.frames ≡ f ∷ fs → P (event (f ∷ fs))) → P (event m.frames)
if_open P m event closed inner = go m.frames refl
  where
    go : (fs : List Open) → m.frames ≡ fs → P (event fs)
    go [] e = closed
    go (f ∷ fs) e = inner f fs e
