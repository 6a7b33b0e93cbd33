-- Chunk headers (document 01, "Chunks and records").
use Rattle.std.specs.Prelude.{Option, None, Some, Bool, not, ◌||◌, List, ℕ, ◌+◌, ◌*◌, ◌%◌, eqb, ltb, length, if◌then◌else◌}
use Rattle.failure.specs.Outcome.{Outcome, Refused, Answer}
use Rattle.failure.specs.Failure.{BadEkoHeader}
use Rattle.lookup.specs.Field.{word}
use Rattle.lookup.specs.declared.Chunk.{Chunk}

-- how many bytes a record of a version has, 0 where the version is not known
unfoldable pub stride : ℕ → ℕ
stride version = if eqb version 1 then 16 else if eqb version 2 then 12 else 0

-- the chunk whose header stands at offset k: u8 version, u32 count, u32 size
unfoldable pub chunk_at : List ℕ → ℕ → Chunk
chunk_at bytes k =
    record {
      offset = k;
      version = word bytes (k + 4) 1;
      stride = stride (word bytes (k + 4) 1);
      count = word bytes (k + 8) 4;
      size = word bytes (k + 12) 4;
    }

-- the chunk whose header stands at offset k gets 17, one test a line: magic, version, architecture, flags, size too small
-- for the records, size no multiple of 4, end past the part
unfoldable pub faulty : List ℕ → ℕ → ℕ → Chunk → Bool
faulty bytes arch k c =
    not (eqb (word bytes k 4) 0x5755_4b45)
    || eqb c.stride 0
    || not (eqb (word bytes (k + 5) 1) arch)
    || not (eqb (word bytes (k + 6) 2) 1)
    || ltb c.size (16 + c.count * c.stride)
    || not (eqb (c.size % 4) 0)
    || ltb (length bytes) (k + c.size)

-- what stands at offset k, where 16 bytes remain: no chunk but padding, whose magic is 0, a header that gets 17, or a chunk
unfoldable pub head_at : List ℕ → ℕ → ℕ → Outcome (Option Chunk)
head_at bytes arch k =
    if eqb (word bytes k 4) 0 then Answer None
    else if faulty bytes arch k (chunk_at bytes k) then Refused BadEkoHeader
    else Answer (Some (chunk_at bytes k))
