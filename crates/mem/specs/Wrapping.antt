-- Sums of addresses, which wrap at 2^64.
use Rattle.std.specs.Prelude.{ℕ, ◌+◌, ◌-◌, ◌%◌, ◌^◌, nat_lt, if◌then◌else◌}

-- a + b modulo 2^64
abbrev pub sum : ℕ → ℕ → ℕ
sum a b = (a + b) % 2 ^ 64

-- a - b modulo 2^64, where b is at most 2^64
abbrev pub difference : ℕ → ℕ → ℕ
difference a b = (a + (2 ^ 64 - b)) % 2 ^ 64

-- a 32-bit word read as a signed number, modulo 2^64: from 2^31 on it stands for itself minus 2^32
abbrev pub signed32 : ℕ → ℕ
signed32 w = if nat_lt w (2 ^ 31) then w else w + (2 ^ 64 - 2 ^ 32)
