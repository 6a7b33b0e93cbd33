-- The chunks of a part, and the part's one list of records in section order.
use Rattle.std.specs.Prelude.{Option, None, Some, Bool, true, false, ◌&&◌, List, [], ◌∷◌, ◌++◌, ℕ, zero, suc, ◌+◌, eqb, ltb, length, if◌then◌else◌}
use Rattle.failure.specs.Outcome.{Outcome, Refused, Answer}
use Rattle.lookup.specs.Header.{head_at}
use Rattle.lookup.specs.Record.{record_of}
use Rattle.lookup.specs.declared.Chunk.{Chunk}
use Rattle.lookup.specs.declared.Record.{Record}

infixr 20 ◌▸◌
-- chunks in order, up to the end of the part or to a header that gets 17
pub data Chunks : Type 0 where
  End Fault : Chunks
  ◌▸◌ : Chunk → Chunks → Chunks

-- the chunks from a head at offset k on; `next` has those from an offset on
abbrev pub chunks_for : Outcome (Option Chunk) → ℕ → (ℕ → Chunks) → Chunks
chunks_for (Answer None) k next = next (k + 4)
chunks_for (Refused n) k next = Fault
chunks_for (Answer (Some c)) k next = c ▸ next (k + c.size)

-- the chunks from offset k on, in at most n turns: while 16 bytes remain
unfoldable pub chunks_from : ℕ → List ℕ → ℕ → ℕ → Chunks
chunks_from zero bytes arch k = End
chunks_from (suc n) bytes arch k =
    if ltb (length bytes) (k + 16) then End
    else chunks_for (head_at bytes arch k) k (λ (next : ℕ). chunks_from n bytes arch next)

-- the chunks of a part
unfoldable pub chunks : List ℕ → ℕ → Chunks
chunks bytes arch = chunks_from (length bytes) bytes arch 0

-- no header gets 17
abbrev pub faultless : Chunks → Bool
faultless End = true
faultless Fault = false
faultless (c ▸ cs) = faultless cs

-- a record of a part, named by the number of its chunk and its index there
pub record Entry : Type 0 where
  pub number : ℕ
  pub index : ℕ
  pub chunk : Chunk
  pub function : Record

-- record number i of chunk number m
abbrev pub entry : List ℕ → ℕ → ℕ → Chunk → ℕ → Entry
entry bytes base m c i = record { number = m; index = i; chunk = c; function = record_of bytes base c i }

-- n records of a chunk, from index i on
abbrev pub entries_of : List ℕ → ℕ → ℕ → Chunk → ℕ → ℕ → List Entry
entries_of bytes base m c zero i = []
entries_of bytes base m c (suc n) i = entry bytes base m c i ∷ entries_of bytes base m c n (i + 1)

-- the records of chunks that are counted from m
abbrev pub entries : List ℕ → ℕ → ℕ → Chunks → List Entry
entries bytes base m End = []
entries bytes base m Fault = []
entries bytes base m (c ▸ cs) = entries_of bytes base m c c.count 0 ++ entries bytes base (m + 1) cs

-- the records of a part in section order
unfoldable pub records : List ℕ → ℕ → ℕ → List Entry
records bytes base arch = entries bytes base 0 (chunks bytes arch)

-- the record of a name: the number of a chunk, and an index there
abbrev pub named : ℕ → ℕ → List Entry → Option Entry
named m i [] = None
named m i (e ∷ es) = if eqb m e.number && eqb i e.index then Some e else named m i es
