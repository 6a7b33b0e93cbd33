-- The library's `from_le_bytes` gives the little-endian number in the bytes. Assumes nothing.
use Rattle.std.proofs.Common.{◌≡◌, ℕ, List, length, arith}
use Rattle.std.specs.Int.{w8, w32, w64, from_le_bytes}
use Rattle.mem.specs.Word.{little_endian}
use Rattle.mem.proofs.Word.{from_place, from_end}

pub of_1 : (b : List ℕ) → length b ≡ 1 → from_le_bytes w8 b ≡ little_endian b
of_1 b len = omega (arith, from_place b 0 (omega arith), from_end b 1 len)

pub of_4 : (b : List ℕ) → length b ≡ 4 → from_le_bytes w32 b ≡ little_endian b
of_4 b len =
    omega (arith, from_place b 0 (omega arith), from_place b 1 (omega arith), from_place b 2 (omega arith), from_place b 3 (omega arith), from_end b 4 len)

pub of_8 : (b : List ℕ) → length b ≡ 8 → from_le_bytes w64 b ≡ little_endian b
of_8 b len =
    omega (
      arith,
      from_place b 0 (omega arith),
      from_place b 1 (omega arith),
      from_place b 2 (omega arith),
      from_place b 3 (omega arith),
      from_place b 4 (omega arith),
      from_place b 5 (omega arith),
      from_place b 6 (omega arith),
      from_place b 7 (omega arith),
      from_end b 8 len,
    )
