-- Little-endian words (document 01: "Integers in memory are little-endian").
use Rattle.std.specs.Prelude.{ℕ, ◌+◌, ◌*◌, List, [], ◌∷◌, length, take, drop, ◌==◌, if◌then◌else◌}
use Rattle.failure.specs.Outcome.{Outcome, Refused, Answer, ◌>>=◌}
use Rattle.failure.specs.Failure.{OutsideMemory}
use Rattle.mem.specs.Memory.{Memory}
use Rattle.mem.specs.Place.{bytes_at}

-- the number that the bytes stand for, the lowest first
abbrev pub little_endian : List ℕ → ℕ
little_endian [] = 0
little_endian (b ∷ bs) = b + 256 * little_endian bs

-- the 32-bit word at offset k of the bytes
abbrev pub word_at : List ℕ → ℕ → ℕ
word_at bytes k = little_endian (take 4 (drop k bytes))

-- the number in the n bytes at address a, or 27
unfoldable pub load : Memory → ℕ → ℕ → Outcome ℕ
load m n a = do
  bs ← bytes_at m a n
  Answer (little_endian bs)

-- the number in n bytes; 27 for any other count of them
unfoldable pub word_in : ℕ → List ℕ → Outcome ℕ
word_in n bs = if length bs == n then Answer (little_endian bs) else Refused OutsideMemory
