-- The bytes of a program that surely lie in the section.
use Rattle.std.specs.Prelude.{List, ℕ, ◌+◌, ◌≤◌, ◌<◌, length}

-- the bytes from pos up to the end, if there are any, lie in the section and below the limit
abbrev pub Near : List ℕ → ℕ → ℕ → ℕ → ℕ → Type 0
Near section base limit pos end = pos < end → (base ≤ pos) × (end ≤ limit) × (end ≤ base + length section)
