-- What each answer of the number reader means, by the DWARF standard's encoding alone. The laws of proofs/Meaning.antt say that
-- the reader gives an answer exactly where it means what it says.
use Rattle.std.specs.Prelude.{◌≡◌, ◌⊎◌, List, [], ◌∷◌, ℕ, ◌+◌, ◌^◌, ◌≤◌, ◌<◌, length}
use Rattle.failure.specs.Outcome.{Outcome, Refused, Answer}
use Rattle.failure.specs.Failure.{OutsideMemory, EkoTruncated, BadUleb}
use Rattle.mem.specs.Memory.{Memory}
use Rattle.mem.specs.Word.{load}
use Rattle.leb.specs.Encoding.{Encodes}
use Rattle.leb.specs.Reader.{Read}

-- the bytes stand at pos, each below the limit and in memory
abbrev pub Stand : Memory → ℕ → ℕ → List ℕ → Type 0
Stand m limit pos [] = Unit
Stand m limit pos (b ∷ bs) = (pos < limit) × (load m 1 pos ≡ Answer b) × Stand m limit (pos + 1) bs

-- bit 7 is set in each of the bytes
abbrev pub Unended : List ℕ → Type 0
Unended [] = Unit
Unended (b ∷ bs) = (128 ≤ b) × Unended bs

-- an encoding of v in at most k bytes stands at pos, and next is the address after it
pub record Encoded (m : Memory) (limit k pos v next : ℕ) : Type 0 where
  pub bytes : List ℕ
  pub encodes : Encodes bytes v
  pub short : length bytes ≤ k
  pub stand : Stand m limit pos bytes
  pub after : next ≡ pos + length bytes

-- fewer than k unended bytes stand at pos, and the limit comes after them
pub record Cut (m : Memory) (limit k pos : ℕ) : Type 0 where
  pub bytes : List ℕ
  pub unended : Unended bytes
  pub short : length bytes < k
  pub stand : Stand m limit pos bytes
  pub cut : limit ≤ pos + length bytes

-- fewer than k unended bytes stand at pos, and the next one, below the limit, is not in memory
pub record Leaves (m : Memory) (limit k pos : ℕ) : Type 0 where
  pub bytes : List ℕ
  pub unended : Unended bytes
  pub short : length bytes < k
  pub stand : Stand m limit pos bytes
  pub below : pos + length bytes < limit
  pub nowhere : load m 1 (pos + length bytes) ≡ Refused OutsideMemory

-- k unended bytes stand at pos
pub record Endless (m : Memory) (limit k pos : ℕ) : Type 0 where
  pub bytes : List ℕ
  pub unended : Unended bytes
  pub long : length bytes ≡ k
  pub stand : Stand m limit pos bytes

-- what an outcome means at pos
abbrev pub Means : Memory → ℕ → ℕ → Outcome Read → Type 0
Means m limit pos (Answer x) = Encoded m limit 5 pos x.value x.next × (x.value < 2 ^ 32)
Means m limit pos (Refused n) =
    ((n ≡ EkoTruncated) × Cut m limit 5 pos)
    ⊎ ((n ≡ OutsideMemory) × Leaves m limit 5 pos)
    ⊎ ((n ≡ BadUleb) × (Endless m limit 5 pos ⊎ ((v : ℕ) × (next : ℕ) × Encoded m limit 5 pos v next × (2 ^ 32 ≤ v))))
