-- Why a version 2 table is refused with 30 or 31, exactly (document 02 (c): "Programs and rows pass the number reader's finer answer up"): a
-- search comes to a number that is cut, or bad. The law is `table_faults` of proofs/Faults.antt.
use Rattle.std.specs.Prelude.{◌≡◌, ◌⊎◌, ◌↔◌, ◌≢◌, ℕ, suc, ◌+◌, ◌<◌}
use Rattle.failure.specs.Outcome.{Refused, Answer}
use Rattle.mem.specs.Memory.{Memory, Bytes}
use Rattle.leb.specs.Reader.{Read, read_number}
use Rattle.leb.specs.Meaning.{Cut, Endless}
use Rattle.leb.specs.Faults.{AboveAll}
use Rattle.rows.specs.Handler2.{handler2}

-- a search for ret comes to the row at pos, where so many rows are left and the row before has the return offset at: it has read the rows
-- before it, and they come before ret
pub data Comes (m : Memory) (table limit ret : ℕ) : ℕ → ℕ → ℕ → Type 0 where
  first : (count : Read) → read_number m limit table ≡ Answer count → Comes m table limit ret count.value count.next 0
  later :
      (left pos at : ℕ) → Comes m table limit ret (suc left) pos at → (delta : Read) → read_number m limit pos ≡ Answer delta →
      (word : Read) → read_number m limit delta.next ≡ Answer word → delta.value ≢ 0 → at + delta.value < ret →
      Comes m table limit ret left word.next (at + delta.value)

-- a search for ret reads a number at q: the count; a row's delta; its word; after a match the next row's delta
pub data Reads (m : Memory) (table limit ret : ℕ) : ℕ → Type 0 where
  count : Reads m table limit ret table
  delta : (left pos at : ℕ) → Comes m table limit ret (suc left) pos at → Reads m table limit ret pos
  word :
      (left pos at : ℕ) → Comes m table limit ret (suc left) pos at → (d : Read) → read_number m limit pos ≡ Answer d →
      Reads m table limit ret d.next
  peeked :
      (left pos at : ℕ) → Comes m table limit ret (suc (suc left)) pos at → (d : Read) → read_number m limit pos ≡ Answer d →
      (w : Read) → read_number m limit d.next ≡ Answer w → d.value ≢ 0 → at + d.value ≡ ret → Reads m table limit ret w.next

-- a search for a return offset
pub record TableFaults (m : Memory) (table limit ret : ℕ) : Type 0 where
  pub truncated : (handler2 m table limit ret ≡ Refused 30) ↔ ((q : ℕ) × Reads m table limit ret q × Cut m limit 5 q)
  pub bad_uleb :
      (handler2 m table limit ret ≡ Refused 31) ↔ ((q : ℕ) × Reads m table limit ret q × (Endless m limit 5 q ⊎ AboveAll m limit q))

-- of every table and every return offset, in every memory of bytes
abbrev pub RowFaults : Type 0
RowFaults = (m : Memory) → Bytes m → (table limit ret : ℕ) → TableFaults m table limit ret
