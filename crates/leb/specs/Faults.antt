-- Which number a byte or a number that is not read has, exactly (document 02 (c)): "30 the limit is met before a needed byte; 31 a uleb
-- has no end in five bytes or is above 4294967295"; and 27 for a needed byte in no memory, as in document 01. The laws are `byte_faults`
-- and `number_faults` of proofs/Faults.antt.
use Rattle.std.specs.Prelude.{◌≡◌, ◌⊎◌, ◌↔◌, ℕ, ◌≤◌, ◌<◌}
use Rattle.failure.specs.Outcome.{Refused}
use Rattle.mem.specs.Memory.{Memory, Bytes}
use Rattle.mem.specs.Word.{load}
use Rattle.leb.specs.Reader.{read_byte, read_number}
use Rattle.leb.specs.Meaning.{Encoded, Cut, Leaves, Endless}

-- the byte at pos: the limit comes before memory
pub record ByteFaults (m : Memory) (limit pos : ℕ) : Type 0 where
  pub truncated : (read_byte m limit pos ≡ Refused 30) ↔ (limit ≤ pos)
  pub outside : (read_byte m limit pos ≡ Refused 27) ↔ ((pos < limit) × (load m 1 pos ≡ Refused 27))
  pub no_other : (n : ℕ) → read_byte m limit pos ≡ Refused n → (n ≡ 30) ⊎ (n ≡ 27)

-- an encoding of a number above 4294967295 stands at pos, in at most five bytes
abbrev pub AboveAll : Memory → ℕ → ℕ → Type 0
AboveAll m limit pos = (v : ℕ) × (next : ℕ) × Encoded m limit 5 pos v next × (4294967295 < v)

-- the number at pos: 30 for the limit after fewer than five unended bytes; 31 for five unended bytes, whatever comes after them, or a
-- number that is too large; 27 for no memory at a byte below the limit
pub record NumberFaults (m : Memory) (limit pos : ℕ) : Type 0 where
  pub truncated : (read_number m limit pos ≡ Refused 30) ↔ Cut m limit 5 pos
  pub bad_uleb : (read_number m limit pos ≡ Refused 31) ↔ (Endless m limit 5 pos ⊎ AboveAll m limit pos)
  pub outside : (read_number m limit pos ≡ Refused 27) ↔ Leaves m limit 5 pos
  pub no_other : (n : ℕ) → read_number m limit pos ≡ Refused n → (n ≡ 30) ⊎ (n ≡ 31) ⊎ (n ≡ 27)

-- of every byte and every number, in every memory of bytes
abbrev pub ExactFaults : Type 0
ExactFaults = (m : Memory) → Bytes m → (limit pos : ℕ) → ByteFaults m limit pos × NumberFaults m limit pos
