-- Fields of a part: a list of bytes with the address of its first one, its base. Offsets count from that byte.
-- Offset k has the address `sum base k`: base + k modulo 2^64.
use Rattle.std.specs.Prelude.{List, ℕ, take, drop}
use Rattle.mem.specs.Word.{little_endian}

-- the little-endian number in the n bytes from offset k on
unfoldable pub word : List ℕ → ℕ → ℕ → ℕ
word bytes k n = little_endian (take n (drop k bytes))
