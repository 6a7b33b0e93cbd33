-- Where a guard of several tests holds, each of them does. Assumes nothing.
use mathlib.Core.Path.{◌≡◌}
use mathlib.Core.Bool.{Bool, true, ◌&&◌}
use mathlib.Core.List.{List, [], ◌∷◌}
use Rattle.mem.proofs.Tests.{both}

-- a guard: tests one after the other, as `◌&&◌` groups them
abbrev pub guard : Bool → List Bool → Bool
guard s [] = s
guard s (t ∷ ts) = guard (s && t) ts

-- each of the tests holds
abbrev pub Hold : List Bool → Type 0
Hold [] = Unit
Hold (t ∷ ts) = (t ≡ true) × Hold ts

-- they do where the guard holds
pub each : (s : Bool) (ts : List Bool) → guard s ts ≡ true → Hold (s ∷ ts)
each s [] e = (e, tt)
each s (t ∷ ts) e =
    let (first, rest) = each (s && t) ts e in
    let (one, two) = both s t first in
    (one, (two, rest))
