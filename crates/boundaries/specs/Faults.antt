-- The faults that document 02 (c) tells apart from 18, by the functions that hosts call: "30 the limit is met before a needed byte; 31 a uleb
-- has no end in five bytes or is above 4294967295; 32 a 33rd register is saved; each in the place of the 18 it replaces, a save's other 18
-- before 32". Each stands beside rows of other answers. `Interface` has the rows of `eko_save` and `eko_restore`.
use Rattle.std.specs.Prelude.{true, false, List, [], ◌∷◌, ◌++◌, ℕ, zero, suc, ◌+◌, length}
use Rattle.lookup.specs.declared.Record.{Record}
use Rattle.answers.specs.declared.Read.{Read}
use Rattle.answers.specs.declared.Ended.{Ended}
use Rattle.answers.specs.declared.Decided.{Decided}
use Rattle.answers.specs.declared.Stepped.{Stepped}
use Rattle.answers.specs.declared.Batch.{Batch}
use Rattle.answers.specs.declared.Raised.{Raised}
use Rattle.answers.specs.declared.Resumed.{Resumed}
use Rattle.answers.specs.declared.RowFound.{RowFound}
use Rattle.boundaries.specs.Row.{Row, ◌gives◌, Right}
use Rattle.boundaries.specs.Lending.{Target, x86_2, aarch64_2, Lending, stack}
use Rattle.boundaries.specs.Structs.{read, ended, row, decided, stepped, batch, raised, resumed, no_record, frames}
use Rattle.boundaries.specs.Functions.{eko_read_uleb, eko_run, eko_handler2, eko_personality, eko_next_frame, eko_walk, eko_raise, eko_resume}
use Rattle.boundaries.specs.Interface.{at, entry_of}
use Rattle.boundaries.specs.Unwinding.{unchosen, choosing}

-- a section of these bytes at 0x1000, and an empty stack
abbrev pub holding : List ℕ → Lending
holding bytes = record { section = bytes; section_base = 0x1000; stack = []; stack_base = 0x8000 }

-- n bytes with bit 7 set
abbrev pub unended : ℕ → List ℕ
unended zero = []
unended (suc n) = 0x80 ∷ unended n

-- `eko_read_uleb`
abbrev pub ulebs : List (Row Read)
ulebs =
    -- the limit before the first byte, before the second, and past both
    eko_read_uleb (holding (0x80 ∷ 1 ∷ [])) 0x1000 0x1000 gives read 30 0 0 ∷
    eko_read_uleb (holding (0x80 ∷ 1 ∷ [])) 0x1000 0x1001 gives read 30 0 0 ∷
    eko_read_uleb (holding (0x80 ∷ 1 ∷ [])) 0x1000 0x1002 gives read 0 128 0x1002 ∷
    -- the limit comes before memory
    eko_read_uleb (holding (0x80 ∷ [])) 0x1000 0x1001 gives read 30 0 0 ∷
    eko_read_uleb (holding (0x80 ∷ [])) 0x1000 0x1002 gives read 27 0 0 ∷
    eko_read_uleb (holding (0x80 ∷ [])) 0x2000 0x2000 gives read 30 0 0 ∷
    -- four unended bytes, and five, after which no byte is needed
    eko_read_uleb (holding (unended 5)) 0x1000 0x1004 gives read 30 0 0 ∷
    eko_read_uleb (holding (unended 5)) 0x1000 0x1005 gives read 31 0 0 ∷
    eko_read_uleb (holding (unended 5)) 0x1000 0x1006 gives read 31 0 0 ∷
    eko_read_uleb (holding (unended 4)) 0x1000 0x1005 gives read 27 0 0 ∷
    -- 4294967295, 4294967296, and the most that five bytes hold
    eko_read_uleb (holding (0xff ∷ 0xff ∷ 0xff ∷ 0xff ∷ 0x0f ∷ [])) 0x1000 0x1005 gives read 0 4294967295 0x1005 ∷
    eko_read_uleb (holding (unended 4 ++ (0x10 ∷ []))) 0x1000 0x1005 gives read 31 0 0 ∷
    eko_read_uleb (holding (0xff ∷ 0xff ∷ 0xff ∷ 0xff ∷ 0x7f ∷ [])) 0x1000 0x1005 gives read 31 0 0 ∷ []

-- operations that save n registers, from r on, each in slot 1
abbrev pub saving : ℕ → ℕ → List ℕ
saving zero r = []
saving (suc n) r = (0x80 + r) ∷ 1 ∷ saving n (r + 1)

-- the run of a program at 0x1000 with the limit at its end: the status
abbrev pub status_of : Target → List ℕ → ℕ
status_of t bytes = (eko_run (holding bytes) t.arch 0x1000 (0x1000 + length bytes) 0).status

-- `eko_run`, with all that it hands back; a run needs no byte past the advance that ends it
abbrev pub runs : Target → List (Row Ended)
runs t =
    eko_run (holding (0x40 ∷ [])) t.arch 0x1000 0x1001 0 gives ended 30 (entry_of t) 0 ∷
    eko_run (holding (0x40 ∷ [])) t.arch 0x1000 0x1002 0 gives ended 27 (entry_of t) 0 ∷
    eko_run (holding (1 ∷ [])) t.arch 0x1000 0x1001 0 gives ended 0 (entry_of t) 0 ∷
    eko_run (holding (1 ∷ [])) t.arch 0x1000 0x1001 4 gives ended 30 (entry_of t) 0 ∷
    eko_run (holding (0xc0 ∷ unended 5)) t.arch 0x1000 0x1006 0 gives ended 31 (entry_of t) 0 ∷
    eko_run (holding (saving 33 0)) t.arch 0x1000 0x1042 0 gives ended 32 (entry_of t) 0 ∷ []

-- programs, by their status
abbrev pub programs : Target → List (Row ℕ)
programs t =
    -- no operation at all, one without END, and one with it
    status_of t [] gives 30 ∷
    status_of t (0x40 ∷ []) gives 30 ∷
    status_of t (0x40 ∷ 0 ∷ []) gives 0 ∷
    -- the number of c0 to c3, c5 and 83 cut; both numbers of c4
    status_of t (0xc0 ∷ []) gives 30 ∷
    status_of t (0xc0 ∷ 0x80 ∷ []) gives 30 ∷
    status_of t (0xc1 ∷ []) gives 30 ∷
    status_of t (0xc2 ∷ []) gives 30 ∷
    status_of t (0xc3 ∷ []) gives 30 ∷
    status_of t (0xc5 ∷ []) gives 30 ∷
    status_of t (0x83 ∷ []) gives 30 ∷
    status_of t (0xc4 ∷ []) gives 30 ∷
    status_of t (0xc4 ∷ 3 ∷ []) gives 30 ∷
    status_of t (0xc4 ∷ 3 ∷ 0x80 ∷ []) gives 30 ∷
    -- the number of c0 to c3, c5 and 83 without end or too large; both numbers of c4
    status_of t (0xc0 ∷ unended 5) gives 31 ∷
    status_of t (0xc1 ∷ unended 5) gives 31 ∷
    status_of t (0xc2 ∷ unended 5) gives 31 ∷
    status_of t (0xc3 ∷ unended 5) gives 31 ∷
    status_of t (0xc5 ∷ unended 5) gives 31 ∷
    status_of t (0xc0 ∷ unended 5 ++ (0 ∷ 0 ∷ [])) gives 31 ∷
    status_of t (0x83 ∷ unended 4 ++ (0x10 ∷ 0 ∷ [])) gives 31 ∷
    status_of t (0xc4 ∷ unended 5) gives 31 ∷
    status_of t (0xc4 ∷ 3 ∷ unended 5) gives 31 ∷
    -- a register that is no number, before the slot that is missing; and what stays 18 or 10
    status_of t (0xc4 ∷ unended 4 ++ (0x10 ∷ [])) gives 31 ∷
    status_of t (0xd0 ∷ []) gives 18 ∷
    status_of t (0x83 ∷ 0 ∷ []) gives 18 ∷
    status_of t (0xc4 ∷ 0x80 ∷ 0x80 ∷ 4 ∷ 1 ∷ []) gives 18 ∷
    status_of t (0xc8 ∷ []) gives 18 ∷
    status_of t (0xc7 ∷ 0xc7 ∷ 0xc7 ∷ 0xc7 ∷ 0xc7 ∷ []) gives 10 ∷
    -- 32 registers and a 33rd; beside 32 an old one, what is out of range before the 33rd, and a slot that is cut
    status_of t (saving 32 0 ++ (0 ∷ [])) gives 0 ∷
    status_of t (saving 33 0) gives 32 ∷
    status_of t (saving 32 0 ++ (0x9f ∷ 2 ∷ 0 ∷ [])) gives 0 ∷
    status_of t (saving 32 0 ++ (0xa0 ∷ 0 ∷ [])) gives 18 ∷
    status_of t (saving 32 0 ++ (0xc4 ∷ 0x20 ∷ 0x80 ∷ 0x80 ∷ 4 ∷ [])) gives 18 ∷
    status_of t (saving 32 0 ++ (0xc4 ∷ 0x80 ∷ 0x80 ∷ 4 ∷ 1 ∷ [])) gives 18 ∷
    status_of t (saving 32 0 ++ (0xa0 ∷ [])) gives 30 ∷
    -- a restore makes room; on x86-64 16 is saved again in the room that it made
    status_of t (saving 32 0 ++ (0xe1 ∷ 0xa0 ∷ 1 ∷ 0 ∷ [])) gives 0 ∷
    status_of t (saving 32 0 ++ (0xf0 ∷ 0 ∷ [])) gives 0 ∷ []

-- c9 and ca where fp is not among the registers, and on aarch64 neither is 30: the first save is a 33rd, on aarch64 also the second
abbrev pub frame_saves : List (Row ℕ)
frame_saves =
    status_of x86_2 (saving 30 31 ++ (0xc9 ∷ 0 ∷ [])) gives 0 ∷
    status_of x86_2 (saving 31 31 ++ (0xc9 ∷ 0 ∷ [])) gives 32 ∷
    status_of x86_2 (saving 31 31 ++ (0xca ∷ 0 ∷ [])) gives 32 ∷
    status_of aarch64_2 (saving 29 0 ++ saving 1 31 ++ (0xc9 ∷ 0 ∷ [])) gives 0 ∷
    status_of aarch64_2 (saving 29 0 ++ saving 2 31 ++ (0xc9 ∷ 0 ∷ [])) gives 32 ∷
    status_of aarch64_2 (saving 29 0 ++ saving 3 31 ++ (0xc9 ∷ 0 ∷ [])) gives 32 ∷
    status_of aarch64_2 (saving 29 0 ++ saving 2 31 ++ (0xca ∷ 0 ∷ [])) gives 32 ∷
    status_of aarch64_2 (saving 29 0 ++ saving 3 31 ++ (0xca ∷ 0 ∷ [])) gives 32 ∷ []

-- a version 2 table at 0x1000 with the limit at its end
abbrev pub row_of : List ℕ → ℕ → RowFound
row_of bytes ret = eko_handler2 (holding bytes) 0x1000 (0x1000 + length bytes) ret

-- `eko_handler2`
abbrev pub tables : List (Row RowFound)
tables =
    -- the count
    row_of [] 5 gives row 30 0 0 ∷
    row_of (0x80 ∷ []) 5 gives row 30 0 0 ∷
    row_of (unended 5) 5 gives row 31 0 0 ∷
    row_of (0 ∷ []) 5 gives row 1 0 0 ∷
    -- a delta and a word
    row_of (1 ∷ []) 5 gives row 30 0 0 ∷
    row_of (1 ∷ 5 ∷ []) 5 gives row 30 0 0 ∷
    row_of (1 ∷ 5 ∷ 0xa9 ∷ []) 5 gives row 30 0 0 ∷
    row_of (1 ∷ 5 ∷ 0x29 ∷ []) 5 gives row 0 10 1 ∷
    row_of (1 ∷ unended 5) 5 gives row 31 0 0 ∷
    row_of (1 ∷ 5 ∷ unended 5) 5 gives row 31 0 0 ∷
    -- a delta of 0 gets 24 once both numbers are read
    row_of (2 ∷ 0 ∷ []) 5 gives row 30 0 0 ∷
    row_of (2 ∷ 0 ∷ unended 5) 5 gives row 31 0 0 ∷
    row_of (2 ∷ 0 ∷ 0x29 ∷ []) 5 gives row 24 0 0 ∷
    -- the peeked delta, before the matched row's own 18; without a match it is not looked at
    row_of (2 ∷ 5 ∷ 0x29 ∷ []) 5 gives row 30 0 0 ∷
    row_of (2 ∷ 5 ∷ 0x29 ∷ unended 5) 5 gives row 31 0 0 ∷
    row_of (2 ∷ 5 ∷ 0x29 ∷ 0 ∷ []) 5 gives row 24 0 0 ∷
    row_of (2 ∷ 5 ∷ 0x29 ∷ 1 ∷ []) 5 gives row 0 10 1 ∷
    row_of (2 ∷ 5 ∷ 3 ∷ []) 5 gives row 30 0 0 ∷
    row_of (2 ∷ 5 ∷ 3 ∷ 1 ∷ []) 5 gives row 18 0 0 ∷
    row_of (2 ∷ 5 ∷ 0x29 ∷ []) 4 gives row 1 0 0 ∷
    row_of (2 ∷ 5 ∷ 0x29 ∷ []) 6 gives row 30 0 0 ∷ []

-- a record whose program and rows are the bytes at 0x1000, from 0x4000 on
abbrev pub described : List ℕ → Record
described bytes =
    record { start = 0x4000; end = 0x4010; frame = 0; handlers = 0x1000; program = 0x1000; limit = 0x1000 + length bytes; version = 2 }

-- one with rows and no program
abbrev pub table_alone : Record
table_alone = record { start = 0x4000; end = 0x4010; frame = 0; handlers = 0x1000; program = 0; limit = 0; version = 2 }

-- the reason of a return at offset 5 in either phase
abbrev pub reason_of : Target → List ℕ → Decided
reason_of t bytes = eko_personality (holding bytes) t.arch false 0xe0 false (described bytes) (at t 0x4005)

abbrev pub cleanup_of : Target → List ℕ → Decided
cleanup_of t bytes = eko_personality (holding bytes) t.arch true 0xe0 false (described bytes) (at t 0x4005)

-- `eko_personality`: faults of the program, then of the rows after it
abbrev pub reasons : Target → List (Row Decided)
reasons t =
    reason_of t (0x40 ∷ []) gives decided 30 0 (at t 0x4005) ∷
    reason_of t (0xc0 ∷ unended 5) gives decided 31 0 (at t 0x4005) ∷
    reason_of t (saving 33 0) gives decided 32 0 (at t 0x4005) ∷
    reason_of t (0 ∷ []) gives decided 30 0 (at t 0x4005) ∷
    reason_of t (0 ∷ unended 5) gives decided 31 0 (at t 0x4005) ∷
    reason_of t (0 ∷ 1 ∷ 5 ∷ 0x29 ∷ []) gives decided 0 6 (at t 0x4005) ∷
    cleanup_of t (0x40 ∷ []) gives decided 30 0 (at t 0x4005) ∷
    cleanup_of t (0 ∷ 1 ∷ 5 ∷ unended 5) gives decided 31 0 (at t 0x4005) ∷
    -- a table without a program: its rows are looked for at address 0, here its limit
    eko_personality (holding (0 ∷ [])) t.arch false 0xe0 false table_alone (at t 0x4005) gives decided 30 0 (at t 0x4005) ∷ []

-- a section of one chunk, whose one record has [0x4000, 0x4010) and these bytes, at 0x101c, as its program with rows after it; there must be
-- a multiple of 4 of them. The stack has 0x7770 at 0x8000
abbrev pub chunk : Target → List ℕ → Lending
chunk t bytes =
    record {
      section =
          -- magic, version 2, architecture, flags 1, 1 record, the chunk's size
          0x45 ∷ 0x4b ∷ 0x55 ∷ 0x57 ∷ 2 ∷ t.arch ∷ 1 ∷ 0 ∷ 1 ∷ 0 ∷ 0 ∷ 0 ∷ (28 + length bytes) ∷ 0 ∷ 0 ∷ 0 ∷
          -- start 0x1010 + 0x2ff0, length 0x10, a program at 28 with rows after it
          0xf0 ∷ 0x2f ∷ 0 ∷ 0 ∷ 0x10 ∷ 0 ∷ 0 ∷ 0 ∷ 28 ∷ 0 ∷ 0 ∷ 0x80 ∷ bytes;
      section_base = 0x1000;
      stack = stack 0 0 0;
      stack_base = 0x8000;
    }

-- programs and row tables that are faulty: no END, and a number without end; the same past an advance that ends a run for the frame, so
-- that its rows alone are refused; rows cut, and a delta without end
abbrev pub no_end : List ℕ
no_end = 0x40 ∷ 0x40 ∷ 0x40 ∷ 0x40 ∷ []

abbrev pub no_number : List ℕ
no_number = 0x40 ∷ 0x40 ∷ 0xc0 ∷ unended 5

abbrev pub late_no_end : List ℕ
late_no_end = 0x3f ∷ 0x40 ∷ 0x40 ∷ 0x40 ∷ []

abbrev pub late_no_number : List ℕ
late_no_number = 0x3f ∷ 0x40 ∷ 0xc0 ∷ unended 5

abbrev pub cut_rows : List ℕ
cut_rows = 0 ∷ 1 ∷ 5 ∷ 0xa9 ∷ []

abbrev pub no_delta : List ℕ
no_delta = 0x41 ∷ 0 ∷ 1 ∷ unended 5

-- a program that saves 33 registers, and rows that are not read
abbrev pub too_many : List ℕ
too_many = saving 33 0 ++ (0 ∷ 0 ∷ [])

-- `eko_next_frame`, `eko_walk`: a frame that is refused is not given
abbrev pub next_frames : Target → List (Row Stepped)
next_frames t =
    eko_next_frame (chunk t no_end) t.arch 0 false (at t 0x4005) gives stepped 30 no_record 0 false (at t 0x4005) ∷
    eko_next_frame (chunk t no_number) t.arch 0 false (at t 0x4005) gives stepped 31 no_record 0 false (at t 0x4005) ∷
    eko_next_frame (chunk t too_many) t.arch 0 false (at t 0x4005) gives stepped 32 no_record 0 false (at t 0x4005) ∷ []

abbrev pub walks : Target → List (Row Batch)
walks t =
    eko_walk (chunk t no_end) t.arch 0 false (at t 0x4005) gives batch 30 (frames 0 [] [] []) 0 false (at t 0x4005) ∷
    eko_walk (chunk t no_number) t.arch 0 false (at t 0x4005) gives batch 31 (frames 0 [] [] []) 0 false (at t 0x4005) ∷
    eko_walk (chunk t too_many) t.arch 0 false (at t 0x4005) gives batch 32 (frames 0 [] [] []) 0 false (at t 0x4005) ∷ []

-- rows are not read in a walk, nor what of a program comes after the frame's offset: here it ends, outside the record
abbrev pub walk_status : Target → List ℕ → ℕ
walk_status t bytes = (eko_walk (chunk t bytes) t.arch 0 false (at t 0x4005)).status

abbrev pub rowless : Target → List (Row ℕ)
rowless t =
    walk_status t late_no_end gives 1 ∷
    walk_status t late_no_number gives 1 ∷
    walk_status t cut_rows gives 1 ∷
    walk_status t no_delta gives 1 ∷ []

-- `eko_raise`, `eko_resume`: faults of the program and of the rows
abbrev pub raises : Target → List (Row Raised)
raises t =
    eko_raise (chunk t no_end) t.arch (at t 0x9999) 0x4005 false 0xe0 gives raised 30 0 0 0 (unchosen false (at t 0x9999)) ∷
    eko_raise (chunk t no_number) t.arch (at t 0x9999) 0x4005 false 0xe0 gives raised 31 0 0 0 (unchosen false (at t 0x9999)) ∷
    eko_raise (chunk t too_many) t.arch (at t 0x9999) 0x4005 false 0xe0 gives raised 32 0 0 0 (unchosen false (at t 0x9999)) ∷
    eko_raise (chunk t cut_rows) t.arch (at t 0x9999) 0x4005 false 0xe0 gives raised 30 0 0 0 (unchosen false (at t 0x9999)) ∷
    eko_raise (chunk t no_delta) t.arch (at t 0x9999) 0x4005 false 0xe0 gives raised 31 0 0 0 (unchosen false (at t 0x9999)) ∷
    eko_raise (chunk t late_no_end) t.arch (at t 0x9999) 0x4005 false 0xe0 gives raised 30 0 0 0 (unchosen false (at t 0x9999)) ∷
    eko_raise (chunk t late_no_number) t.arch (at t 0x9999) 0x4005 false 0xe0 gives raised 31 0 0 0 (unchosen false (at t 0x9999)) ∷ []

-- a sweep call at frame 0, where frame 1 is chosen
abbrev pub sweep : Target → List ℕ → Resumed
sweep t bytes = eko_resume (chunk t bytes) t.arch (choosing false (at t 0x4005) 1 0x8020)

abbrev pub sweep_refused : Target → ℕ → Resumed
sweep_refused t n = resumed n 0 0 (at t 0x4005) (choosing false (at t 0x4005) 1 0x8020)

abbrev pub resumes : Target → List (Row Resumed)
resumes t =
    sweep t no_end gives sweep_refused t 30 ∷
    sweep t no_number gives sweep_refused t 31 ∷
    sweep t too_many gives sweep_refused t 32 ∷
    sweep t cut_rows gives sweep_refused t 30 ∷
    sweep t no_delta gives sweep_refused t 31 ∷
    sweep t late_no_end gives sweep_refused t 30 ∷
    sweep t late_no_number gives sweep_refused t 31 ∷ []

-- the rows are right: of the numbers and tables, and of either architecture
abbrev pub Reads : Type 0
Reads = Right ulebs × Right tables × Right frame_saves

abbrev pub FaultsOf : Target → Type 0
FaultsOf t =
    Right (runs t) × Right (programs t) × Right (reasons t) × Right (next_frames t) × Right (walks t) × Right (rowless t) ×
    Right (raises t) × Right (resumes t)
