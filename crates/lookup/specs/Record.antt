-- Records (document 01, "Chunks and records"). A record's start and end are sums that wrap at 2^64.
use Rattle.std.specs.Prelude.{Bool, not, ◌&&◌, ◌||◌, List, ℕ, ◌+◌, ◌*◌, ◌^◌, ◌%◌, eqb, leb, ltb, if◌then◌else◌}
use Rattle.mem.specs.Wrapping.{sum, signed32}
use Rattle.lookup.specs.Field.{word}
use Rattle.lookup.specs.declared.Chunk.{Chunk}
use Rattle.lookup.specs.declared.Record.{Record}

-- the start that a record at offset k gives: i32, relative to its own field
unfoldable pub start_at : List ℕ → ℕ → ℕ → ℕ
start_at bytes base k = sum (sum base k) (signed32 (word bytes k 4))

-- the end: the start and the u32 length
unfoldable pub end_at : List ℕ → ℕ → ℕ → ℕ
end_at bytes base k = sum (start_at bytes base k) (word bytes (k + 4) 4)

-- the address at an offset from a chunk's, 0 for none
unfoldable pub address_of : ℕ → ℕ → ℕ
address_of chunk off = if eqb off 0 then 0 else sum chunk off

-- the version 1 record at offset k of the chunk at an address: then u32 frame and u32 handler offset, 0 none
unfoldable pub record_at : List ℕ → ℕ → ℕ → ℕ → Record
record_at bytes base chunk k =
    record {
      start = start_at bytes base k;
      end = end_at bytes base k;
      frame = word bytes (k + 8) 4;
      handlers = address_of chunk (word bytes (k + 12) 4);
      program = 0;
      limit = 0;
      version = 1;
    }

-- bits 0 to 30 of a data word: the program's offset
abbrev pub offset_of : ℕ → ℕ
offset_of w = w % 2 ^ 31

-- the row table's address that a data word gives: the program's, 0 where bit 31 is not set
unfoldable pub handlers_of : ℕ → ℕ → ℕ
handlers_of chunk w = if ltb w (2 ^ 31) then 0 else sum chunk (offset_of w)

-- the version 2 record at offset k of the chunk between two addresses: then u32 data, of which bits 0 to 30 are the program's
-- offset, 0 none, and bit 31 says that a row table follows the program
unfoldable pub record_at2 : List ℕ → ℕ → ℕ → ℕ → ℕ → Record
record_at2 bytes base chunk limit k =
    record {
      start = start_at bytes base k;
      end = end_at bytes base k;
      frame = 0;
      handlers = handlers_of chunk (word bytes (k + 8) 4);
      program = address_of chunk (offset_of (word bytes (k + 8) 4));
      limit = limit;
      version = 2;
    }

-- where record number i of a chunk stands
abbrev pub place_of : Chunk → ℕ → ℕ
place_of c i = c.offset + 16 + i * c.stride

-- the record at offset k of a chunk
abbrev pub record_in : List ℕ → ℕ → Chunk → ℕ → Record
record_in bytes base c k =
    if eqb c.version 1 then record_at bytes base (sum base c.offset) k
    else record_at2 bytes base (sum base c.offset) (sum (sum base c.offset) c.size) k

-- record number i of a chunk
unfoldable pub record_of : List ℕ → ℕ → Chunk → ℕ → Record
record_of bytes base c i = record_in bytes base c (place_of c i)

-- a record holds an address
unfoldable pub holds : Record → ℕ → Bool
holds r a = leb r.start a && ltb a r.end

-- in version 2, a table without program, or a program at or past the chunk's end, gets 18
unfoldable pub bad_record : Record → Bool
bad_record r = eqb r.version 2 && ((not (eqb r.handlers 0) && eqb r.program 0) || leb r.limit r.program)
