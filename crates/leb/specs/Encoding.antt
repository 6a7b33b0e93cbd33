-- Unsigned LEB128 as the DWARF standard defines it (section 7.6): a number in groups of seven bits, the lowest first, a group a byte;
-- bit 7 is set in every byte but the last. Groups of zeros at the end, padding, are allowed.
use Rattle.std.specs.Prelude.{List, [], ◌∷◌, ℕ, ◌+◌, ◌-◌, ◌*◌, ◌≤◌, ◌<◌}

-- the bytes encode the number
pub data Encodes : List ℕ → ℕ → Type 0 where
  last : (b : ℕ) → b < 128 → Encodes (b ∷ []) b
  more : (b : ℕ) (bs : List ℕ) (v : ℕ) → 128 ≤ b → b < 256 → Encodes bs v → Encodes (b ∷ bs) ((b - 128) + 128 * v)
