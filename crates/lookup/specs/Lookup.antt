-- The record of a pc (document 01, "Chunks and records").
use Rattle.std.specs.Prelude.{Option, None, Some, Bool, not, ◌&&◌, List, ℕ, ◌-◌, eqb, leb, ltb, if◌then◌else◌}
use Rattle.std.specs.Borrow.{Bor}
use Rattle.failure.specs.Outcome.{Outcome, Refused, Answer, ◌>>=◌}
use Rattle.failure.specs.Failure.{BadEkoHeader, BadEkoRecord, BadOpening}
use Rattle.mem.specs.Memory.{lent}
use Rattle.mem.specs.Opening.{opens}
use Rattle.mem.specs.Part.{Part}
use Rattle.arch.specs.Arch.{is_known}
use Rattle.lookup.specs.Record.{record_of, bad_record}
use Rattle.lookup.specs.Search.{search}
use Rattle.lookup.specs.Tables.{Chunks, End, Fault, ◌▸◌, chunks}
use Rattle.lookup.specs.declared.Chunk.{Chunk}
use Rattle.lookup.specs.declared.Record.{Record}
pub use Rattle.lookup.specs.declared.Found.{Found}

-- a chunk has records and pc is in [first start, last end): only then it is searched
unfoldable pub in_range : (ℕ → Record) → ℕ → ℕ → Bool
in_range rec count pc = not (eqb count 0) && leb (rec 0).start pc && ltb pc (rec (count - 1)).end

-- what a chunk has for pc
unfoldable pub search_in : List ℕ → ℕ → ℕ → Chunk → Outcome (Option Record)
search_in bytes base pc c =
    if in_range (record_of bytes base c) c.count pc then search (record_of bytes base c) c.count pc else Answer None

-- the record that holds pc is tested for 18, and is the answer; otherwise the next chunk is tried
abbrev pub answer_or : Chunk → Outcome (Option Found) → Option Record → Outcome (Option Found)
answer_or c next None = next
answer_or c next (Some r) = if bad_record r then Refused BadEkoRecord else Answer (Some (record { function = r; chunk = c }))

-- the record of pc in chunks, tried in order; none left: none
abbrev pub find : List ℕ → ℕ → ℕ → Chunks → Outcome (Option Found)
find bytes base pc End = Answer None
find bytes base pc Fault = Refused BadEkoHeader
find bytes base pc (c ▸ cs) = search_in bytes base pc c >>= answer_or c (find bytes base pc cs)

-- the record of pc in a part, for chunks of an architecture
unfoldable pub lookup : List ℕ → ℕ → ℕ → ℕ → Outcome (Option Found)
lookup bytes base pc arch = find bytes base pc (chunks bytes arch)

-- the record of pc in the section; 28 where the opening is broken or the architecture is not 1 or 2
unfoldable pub lookup_arch : List ℕ → ℕ → List ℕ → ℕ → ℕ → ℕ → Outcome (Option Found)
lookup_arch section section_base stack stack_base pc arch =
    if not (opens (lent section section_base stack stack_base)) then Refused BadOpening
    else if not (is_known arch) then Refused BadOpening
    else lookup section section_base pc arch

-- r is the found chunk as a part of the section; where none is found, it is the empty part at 0
abbrev pub ChunkOf : Bor (List ℕ) → Outcome (Option Found) → Bor (List ℕ) → Type 0
ChunkOf section (Refused n) r = Part section 0 0 r
ChunkOf section (Answer None) r = Part section 0 0 r
ChunkOf section (Answer (Some f)) r = Part section f.chunk.offset f.chunk.size r
