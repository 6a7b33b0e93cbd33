-- What is read in the section alone; a version 1 table that lies whole in it.
use Rattle.std.specs.Prelude.{◌≡◌, List, [], ◌∷◌, ℕ, ◌+◌, ◌-◌, ◌*◌, ◌/◌, ◌^◌, ◌≤◌, ◌<◌, length}
use Rattle.failure.specs.Outcome.{Outcome, Answer, ◌>>=◌}
use Rattle.mem.specs.Memory.{Memory}
use Rattle.mem.specs.Word.{word_at, load}
use Rattle.rows.specs.Row.{Found}
use Rattle.rows.specs.Handler.{entry_at, judged}

-- the section, and the rest of what is lent
abbrev pub first : List ℕ → ℕ → Memory → Memory
first section base rest = record { base = base; bytes = section } ∷ rest

-- the section alone
abbrev pub alone : List ℕ → ℕ → Memory
alone section base = first section base []

-- a table of so many rows lies whole in the section, which ends at most at 2^64
pub record Whole (section : List ℕ) (base table count : ℕ) : Type 0 where
  pub low : base + length section ≤ 2 ^ 64
  pub above : base ≤ table
  pub whole : table + 4 + 12 * count ≤ base + length section
  pub few : count < 2 ^ 32

-- a table lies whole in the section, with as many rows as it says
pub record Held (section : List ℕ) (base table : ℕ) : Type 0 where
  pub count : ℕ
  pub counted : Answer count ≡ load (alone section base) 4 table
  pub whole : Whole section base table count

-- which row of the table stands at offset k of the section
abbrev pub number : ℕ → ℕ → ℕ → ℕ
number base table k = (base + k - (table + 4)) / 12

-- a row of such a table stands at offset k, and has the return offset
pub record RowAt (section : List ℕ) (base table count k offset : ℕ) : Type 0 where
  pub whole : Whole section base table count
  pub inside : number base table k < count
  pub place : base + k ≡ table + 4 + 12 * number base table k
  pub read : offset ≡ word_at section k

-- row i, read and judged
unfoldable pub judged_at : Memory → ℕ → ℕ → ℕ → Outcome Found
judged_at m table count i = do
  e ← entry_at m table i
  judged m table count i e
