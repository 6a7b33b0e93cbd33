-- What the rows are asked about: a section, stacks and register files, byte by byte. Numbers with 0x are hexadecimal.
use Rattle.std.specs.Prelude.{Bool, List, [], ◌∷◌, ◌++◌, ℕ, ◌%◌, ◌/◌, eqb, if◌then◌else◌}
use Rattle.mem.specs.Memory.{Lent, lent}
use Rattle.lookup.specs.declared.Record.{Record}
use Rattle.model.specs.declared.Unwinding.{Unwinding}
use Rattle.model.specs.FrameStep.{Frame}

-- what a host lends
pub record Lending : Type 0 where
  pub section : List ℕ
  pub section_base : ℕ
  pub stack : List ℕ
  pub stack_base : ℕ

-- the same as the definitions take it
abbrev pub lent_by : Lending → Lent
lent_by g = lent g.section g.section_base g.stack g.stack_base

-- what a row is about: an architecture and a version of the tables
pub record Target : Type 0 where
  pub arch : ℕ
  pub version : ℕ

abbrev pub x86_1 : Target
x86_1 = record { arch = 2; version = 1 }

abbrev pub x86_2 : Target
x86_2 = record { arch = 2; version = 2 }

abbrev pub aarch64_1 : Target
aarch64_1 = record { arch = 1; version = 1 }

abbrev pub aarch64_2 : Target
aarch64_2 = record { arch = 1; version = 2 }

-- the section, for the address 0x1000. Its records, all of them with CFA = fp + 16, fp in slot 2 and the return address in slot 1:
-- - `zero`, [0, 0x10), no rows
-- - `plain`, [0x4000, 0x4010), no rows
-- - `rowed`, [0x4010, 0x4040); rows by return address: 0x4014 cleanup at pad 0x4034, 0x4018 catch at pad 0x4038, 0x401c terminate, 0x4020 a
--   cleanup without pad, which gets 18; in version 2 CFA = fp + 32 from 0x4030 on
abbrev pub section1 : ℕ → List ℕ
section1 arch =
    -- the chunk: magic, version 1, architecture, flags 1, 3 records, 116 bytes
    0x45 ∷ 0x4b ∷ 0x55 ∷ 0x57 ∷ 1 ∷ arch ∷ 1 ∷ 0 ∷ 3 ∷ 0 ∷ 0 ∷ 0 ∷ 116 ∷ 0 ∷ 0 ∷ 0 ∷
    -- `zero`: start 0x1010 - 0x1010, length 0x10, frame word of kind 1 without mask, no handlers
    0xf0 ∷ 0xef ∷ 0xff ∷ 0xff ∷ 0x10 ∷ 0 ∷ 0 ∷ 0 ∷ 1 ∷ 0 ∷ 0 ∷ 0 ∷ 0 ∷ 0 ∷ 0 ∷ 0 ∷
    -- `plain`: start 0x1020 + 0x2fe0, length 0x10, the same word, no handlers
    0xe0 ∷ 0x2f ∷ 0 ∷ 0 ∷ 0x10 ∷ 0 ∷ 0 ∷ 0 ∷ 1 ∷ 0 ∷ 0 ∷ 0 ∷ 0 ∷ 0 ∷ 0 ∷ 0 ∷
    -- `rowed`: start 0x1030 + 0x2fe0, length 0x30, the same word, handlers at 64
    0xe0 ∷ 0x2f ∷ 0 ∷ 0 ∷ 0x30 ∷ 0 ∷ 0 ∷ 0 ∷ 1 ∷ 0 ∷ 0 ∷ 0 ∷ 64 ∷ 0 ∷ 0 ∷ 0 ∷
    -- its rows: 4 of them, each return offset, pad, action
    4 ∷ 0 ∷ 0 ∷ 0 ∷
    4 ∷ 0 ∷ 0 ∷ 0 ∷ 0x24 ∷ 0 ∷ 0 ∷ 0 ∷ 0 ∷ 0 ∷ 0 ∷ 0 ∷
    8 ∷ 0 ∷ 0 ∷ 0 ∷ 0x28 ∷ 0 ∷ 0 ∷ 0 ∷ 1 ∷ 0 ∷ 0 ∷ 0 ∷
    12 ∷ 0 ∷ 0 ∷ 0 ∷ 0 ∷ 0 ∷ 0 ∷ 0 ∷ 2 ∷ 0 ∷ 0 ∷ 0 ∷
    16 ∷ 0 ∷ 0 ∷ 0 ∷ 0 ∷ 0 ∷ 0 ∷ 0 ∷ 0 ∷ 0 ∷ 0 ∷ 0 ∷ []

abbrev pub section2 : ℕ → List ℕ
section2 arch =
    -- the chunk: magic, version 2, architecture, flags 1, 3 records, 72 bytes
    0x45 ∷ 0x4b ∷ 0x55 ∷ 0x57 ∷ 2 ∷ arch ∷ 1 ∷ 0 ∷ 3 ∷ 0 ∷ 0 ∷ 0 ∷ 72 ∷ 0 ∷ 0 ∷ 0 ∷
    -- `zero`: start 0x1010 - 0x1010, length 0x10, a program at 52
    0xf0 ∷ 0xef ∷ 0xff ∷ 0xff ∷ 0x10 ∷ 0 ∷ 0 ∷ 0 ∷ 52 ∷ 0 ∷ 0 ∷ 0 ∷
    -- `plain`: start 0x101c + 0x2fe4, length 0x10, the same program
    0xe4 ∷ 0x2f ∷ 0 ∷ 0 ∷ 0x10 ∷ 0 ∷ 0 ∷ 0 ∷ 52 ∷ 0 ∷ 0 ∷ 0 ∷
    -- `rowed`: start 0x1028 + 0x2fe8, length 0x30, a program at 54 with a row table after it
    0xe8 ∷ 0x2f ∷ 0 ∷ 0 ∷ 0x30 ∷ 0 ∷ 0 ∷ 0 ∷ 54 ∷ 0 ∷ 0 ∷ 0x80 ∷
    -- the program of the first two: fp, 2 units and both saves; END
    0xc9 ∷ 0 ∷
    -- that of `rowed`: the same; 0x20 bytes on, 4 units; END
    0xc9 ∷ (if eqb arch 1 then 8 else 0x20) ∷ 0x44 ∷ 0 ∷
    -- its rows: 4 of them, each delta, pad times 4 + action; then three bytes that fill the chunk
    4 ∷ 4 ∷ 0x90 ∷ 1 ∷ 4 ∷ 0xa1 ∷ 1 ∷ 4 ∷ 2 ∷ 4 ∷ 0 ∷ 0 ∷ 0 ∷ 0 ∷ []

abbrev pub section : Target → List ℕ
section t = if eqb t.version 1 then section1 t.arch else section2 t.arch

-- its records as lookup gives them
abbrev pub record_with : Target → ℕ → ℕ → ℕ → ℕ → Record
record_with t start end handlers program =
    if eqb t.version 1 then
    record { start = start; end = end; frame = 1; handlers = handlers; program = 0; limit = 0; version = 1 }
    else record { start = start; end = end; frame = 0; handlers = handlers; program = program; limit = 0x1048; version = 2 }

abbrev pub zero : Target → Record
zero t = record_with t 0 0x10 0 0x1034

abbrev pub plain : Target → Record
plain t = record_with t 0x4000 0x4010 0 0x1034

abbrev pub rowed : Target → Record
rowed t = record_with t 0x4010 0x4040 (if eqb t.version 1 then 0x1040 else 0x1036) 0x1036

-- a number below 0x10000 as 8 bytes
abbrev pub word : ℕ → List ℕ
word n = n % 256 ∷ n / 256 ∷ 0 ∷ 0 ∷ 0 ∷ 0 ∷ 0 ∷ 0 ∷ []

-- a stack for the address 0x8000 with three frames: the fp and the pc of frame 1, and the pc of frame 2
abbrev pub stack : ℕ → ℕ → ℕ → List ℕ
stack link first second =
    -- 0x8000: nothing of use
    word 0x7770 ++ word 0x7777 ++
    -- 0x8010, where fp of frame 0 points: the fp of frame 1 and its pc
    word link ++ word first ++
    -- 0x8020: what a frame with CFA = fp + 32 takes for these
    word 0x7770 ++ word 0x7777 ++
    -- 0x8030: the fp of frame 2 and its pc
    word 0x8050 ++ word second ++
    word 0x7770 ++ word 0x7777 ++
    -- 0x8050: the end
    word 0 ++ word 0

-- the section and a stack at these addresses, with the fp of frame 1 and the pcs of frames 1 and 2
abbrev pub linked : Target → ℕ → ℕ → ℕ → Lending
linked t link first second =
    record { section = section t; section_base = 0x1000; stack = stack link first second; stack_base = 0x8000 }

-- the same with the fp that links frame 1 to frame 2: where frame 0 has fp 0x8010, frame 1 has sp 0x8020 and fp 0x8030, frame 2 sp 0x8040
-- and fp 0x8050; after it sp is 0x8060, fp and pc are 0
abbrev pub lending : Target → ℕ → ℕ → Lending
lending t first second = linked t 0x8030 first second

-- a section that has a fault in its first header, and an empty stack
abbrev pub faulty : Target → Lending
faulty t = record { section = 1 ∷ section t; section_base = 0x1000; stack = []; stack_base = 0x8000 }

-- other bases
abbrev pub based : ℕ → ℕ → Lending → Lending
based section_base stack_base g = record { section = g.section; section_base = section_base; stack = g.stack; stack_base = stack_base }

-- the register file of an architecture with registers 0 and 1, fp, sp, register 30 (of aarch64 alone) and pc; what else there is holds 100
-- and its column
abbrev pub file_with : Target → ℕ → ℕ → ℕ → ℕ → ℕ → ℕ → List ℕ
file_with t zeroth first fp sp ra pc =
    if eqb t.arch 1 then
    zeroth ∷ first ∷ 102 ∷ 103 ∷ 104 ∷ 105 ∷ 106 ∷ 107 ∷ 108 ∷ 109 ∷ 110 ∷ 111 ∷ 112 ∷ 113 ∷ 114 ∷ 115 ∷ 116 ∷ 117 ∷ 118 ∷ 119 ∷ 120 ∷
    121 ∷ 122 ∷ 123 ∷ 124 ∷ 125 ∷ 126 ∷ 127 ∷ 128 ∷ fp ∷ ra ∷ sp ∷ 132 ∷ 133 ∷ 134 ∷ 135 ∷ 136 ∷ 137 ∷ 138 ∷ 139 ∷ pc ∷ []
    else
    zeroth ∷ first ∷ 102 ∷ 103 ∷ 104 ∷ 105 ∷ fp ∷ sp ∷ 108 ∷ 109 ∷ 110 ∷ 111 ∷ 112 ∷ 113 ∷ 114 ∷ 115 ∷ 116 ∷ 117 ∷ 118 ∷ 119 ∷ 120 ∷
    121 ∷ 122 ∷ 123 ∷ 124 ∷ 125 ∷ 126 ∷ 127 ∷ 128 ∷ 129 ∷ 130 ∷ 131 ∷ 132 ∷ 133 ∷ 134 ∷ 135 ∷ 136 ∷ 137 ∷ 138 ∷ 139 ∷ pc ∷ []

-- the same with 100 and 101 in registers 0 and 1
abbrev pub file : Target → ℕ → ℕ → ℕ → ℕ → List ℕ
file t fp sp ra pc = file_with t 100 101 fp sp ra pc

-- a frame of a walk
abbrev pub frame : ℕ → Bool → List ℕ → Frame
frame number interrupted file = record { number = number; interrupted = interrupted; file = file }

-- the exception of all rows
abbrev pub exception : ℕ
exception = 0xe0

-- an unwinding at a frame, and the chosen frame's number and sp
abbrev pub unwinding : ℕ → Bool → List ℕ → Bool → ℕ → ℕ → Unwinding
unwinding number interrupted file chosen chosenNumber chosenSp =
    record {
      regs = record { r = file };
      number = number;
      interrupted = interrupted;
      exception = exception;
      chosen = chosen;
      chosen_number = chosenNumber;
      chosen_sp = chosenSp;
    }
