-- Where the bytes at an address stand: in whichever region holds them all (document 01, "Opening and memory").
use Rattle.std.specs.Prelude.{ℕ, suc, ◌+◌, ◌-◌, Bool, ◌&&◌, List, [], ◌∷◌, take, drop, nat_le, if◌then◌else◌}
use Rattle.failure.specs.Outcome.{Outcome, Refused, Answer}
use Rattle.failure.specs.Failure.{OutsideMemory}
use Rattle.mem.specs.Memory.{Memory, size}
use Rattle.mem.specs.declared.load.Place.{Place}
use Rattle.mem.specs.declared.load.Place.TheVariants.{Section, Stack, Neither}

-- the n bytes at address a all lie in the range of addresses; n may be 0
unfoldable pub holds : ℕ → ℕ → ℕ → ℕ → Bool
holds base size a n = nat_le base a && nat_le (a + n) (base + size)

-- a region, counted from 0, and an offset in it
pub record Spot : Type 0 where
  pub region : ℕ
  pub offset : ℕ

-- so many bytes on, in the same region
abbrev pub on : ℕ → Spot → Spot
on n s = record { region = s.region; offset = s.offset + n }

-- the first region from number i on that holds the n bytes at a, or 27
abbrev pub place_from : ℕ → Memory → ℕ → ℕ → Outcome Spot
place_from i [] a n = Refused OutsideMemory
place_from i (r ∷ m) a n =
    if holds r.base (size r) a n then Answer (record { region = i; offset = a - r.base }) else place_from (suc i) m a n

-- where the n bytes at address a stand, or 27
unfoldable pub place_of : Memory → ℕ → ℕ → Outcome Spot
place_of m a n = place_from 0 m a n

-- document 01's number and values for each case of a Place
abbrev pub placed : Place → Outcome Spot
placed (Section k) = Answer (record { region = 0; offset = k })
placed (Stack k) = Answer (record { region = 1; offset = k })
placed Neither = Refused OutsideMemory

-- the n bytes at address a, from the first region that holds them all, or 27
unfoldable pub bytes_at : Memory → ℕ → ℕ → Outcome (List ℕ)
bytes_at [] a n = Refused OutsideMemory
bytes_at (r ∷ m) a n = if holds r.base (size r) a n then Answer (take n (drop (a - r.base) r.bytes)) else bytes_at m a n
