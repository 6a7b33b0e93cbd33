-- What the steps of the code say of each other: no definition of lookup goes through these.
use Rattle.std.specs.Prelude.{Bool, Option, Result, IfOk, IfSome, option_map, List, ◌≡◌, ℕ, ◌+◌, ◌*◌, ◌≤◌, ◌<◌, length}
use Rattle.failure.specs.Outcome.{Outcome, map, outcome}
use Rattle.failure.specs.declared.Failure.{Failure}
use Rattle.lookup.specs.Header.{chunk_at}
use Rattle.lookup.specs.Record.{place_of, record_in, record_of}
use Rattle.lookup.specs.Search.{halve}
use Rattle.lookup.specs.declared.Chunk.{Chunk}
use Rattle.lookup.specs.declared.Record.{Record}
use Rattle.lookup.specs.declared.Found.{Found}
use Rattle.lookup.specs.declared.Place.{Place}

-- a chunk lies in the part with all its records, whose length is its version's
pub record Inside (bytes : List ℕ) (c : Chunk) : Type 0 where
  pub whole : c.offset + c.size ≤ length bytes
  pub room : 16 + c.count * c.stride ≤ c.size
  pub long : 12 ≤ c.stride
  pub one : c.version ≡ 1 → c.stride ≡ 16
  pub two : (c.version ≡ 1 → ⊥) → c.stride ≡ 12

-- record number i of a chunk stands at offset k
pub record Stands (c : Chunk) (i k : ℕ) : Type 0 where
  pub below : i < c.count
  pub place : k ≡ place_of c i

-- some record of a chunk stands at offset k
pub record SomeStands (c : Chunk) (k : ℕ) : Type 0 where
  pub index : ℕ
  pub stands : Stands c index k

-- a test of the record at offset k of a chunk comes to what it does for the record's number
abbrev pub Meets : Chunk → ℕ → (ℕ → Bool) → Bool → Type 0
Meets c k test b = (i : ℕ) → Stands c i k → b ≡ test i

-- the record of a chunk that halving ends at
abbrev pub halved : List ℕ → ℕ → Chunk → ℕ → ℕ
halved bytes base c pc = halve c.count (record_of bytes base c) pc 0 c.count

-- what the search of a chunk comes to: a record by the offset where it stands
abbrev pub searched : List ℕ → ℕ → Chunk → Result (Option ℕ) Failure → Outcome (Option Record)
searched bytes base c r = map (option_map (record_in bytes base c)) (outcome r)

-- a record that is held is one of the chunk
abbrev pub HeldIn : Chunk → Result (Option ℕ) Failure → Type 0
HeldIn c r = IfOk r (λ o. IfSome o (SomeStands c))

-- the record and the chunk at a place
abbrev pub found_at : List ℕ → ℕ → Place → Found
found_at bytes base p =
    record { function = record_in bytes base (chunk_at bytes p.chunk) p.record; chunk = chunk_at bytes p.chunk }

-- where a lookup ends: a record by its place
abbrev pub placed : List ℕ → ℕ → Result (Option Place) Failure → Outcome (Option Found)
placed bytes base r = map (option_map (found_at bytes base)) (outcome r)

-- a place is that of a record of a chunk in the part
abbrev pub Lies : List ℕ → Result (Option Place) Failure → Type 0
Lies bytes r = IfOk r (λ o. IfSome o (λ p. Inside bytes (chunk_at bytes p.chunk) × SomeStands (chunk_at bytes p.chunk) p.record))
