-- When what is lent is accepted (document 01, "Opening and memory"). Whatever is not accepted gets 28.
use Rattle.std.specs.Prelude.{ℕ, ◌+◌, ◌^◌, Bool, true, ◌&&◌, ◌||◌, [], ◌∷◌, ◌==◌, nat_le, if◌then◌else◌}
use Rattle.failure.specs.Outcome.{Outcome, Refused, Answer}
use Rattle.failure.specs.Failure.{BadOpening}
use Rattle.mem.specs.Memory.{Region, Memory, Lent, size}

-- a base address is 1 to 2^62, a length 0 to 2^31
unfoldable pub bounded : ℕ → ℕ → Bool
bounded base size = nat_le 1 base && nat_le base (2 ^ 62) && nat_le size (2 ^ 31)

-- two ranges of addresses share none; an empty one shares none
unfoldable pub apart : ℕ → ℕ → ℕ → ℕ → Bool
apart base size base' size' = size == 0 || size' == 0 || nat_le (base + size) base' || nat_le (base' + size') base

-- a region shares no address with any of the others
abbrev pub apart_from : Region → Memory → Bool
apart_from r [] = true
apart_from r (s ∷ m) = apart r.base (size r) s.base (size s) && apart_from r m

-- each region is bounded and shares no address with a later one
abbrev pub accepted : Memory → Bool
accepted [] = true
accepted (r ∷ m) = bounded r.base (size r) && apart_from r m && accepted m

-- what is lent is accepted
unfoldable pub opens : Lent → Bool
opens l = accepted l.regions

-- 28 for what is lent and not accepted
unfoldable pub opened : Lent → Outcome (Unit {0})
opened l = if opens l then Answer tt else Refused BadOpening
