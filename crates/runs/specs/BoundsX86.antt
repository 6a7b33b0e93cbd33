-- Closed runs at the bounds of the rules on x86-64: events, throws and tables that the rules just allow, and events just past them.
use Rattle.std.specs.Prelude.{List, [], ◌∷◌, ◌++◌, ℕ, replicate}
use Rattle.model.specs.Search.{Searched, Chosen}
use Rattle.model.specs.Machine.{Machine}
use Rattle.model.specs.Event.{Call, Spill, Change, Reload, Move, Write}
use Rattle.model.specs.Throw.{Throw}
use Rattle.model.specs.Expected.{LandingPad}
use Rattle.runs.specs.Scenario.{Labelled, does, against, Scenario, throw_at, interrupt_at, landing}

-- the section, at address 1000 hexadecimal. Before its records: a chunk without records, then a padding word; after them 7 bytes. Its
-- records by chunk and index, each as it is past its first instructions, with its rows by the addresses that calls return to:
-- - 1 0, `zero`, [0, 40): without a program, so CFA = sp + 8, 16 in slot 1; no table
-- - 1 1, `outer`, [4000, 4040): CFA = sp + 16, 16 in slot 1, 3 in slot 2; rows: 4040 catch, then one of no action
-- - 1 2, [4040, 4040), which holds no address
-- - 1 3, `framed`, [4040, 4080): from 4042 on CFA = fp + 16, 16 in slot 1, 6 in slot 2, 13 in slot 5; of its 5 rows the chunk has one and
--   a byte: 4060 cleanup
-- - 1 4, `wide`, [4080, 40c0): from 4081 on CFA = sp + 32, 16 in slot 1, 0 in slot 2, 15 in slot 3, 3 in slot 118; rows: 40a0 cleanup,
--   40c0 cleanup
-- - 2 0, `linked`, [4100, 4140), of version 1 and kind 1 with param 0 and no mask: CFA = fp + 16, 16 in slot 1, 6 in slot 2; row: 4114
--   cleanup
abbrev pub section : List ℕ
section =
    -- chunk 0: version 2, no record, 16 bytes, which is all that an empty chunk has
    69 ∷ 75 ∷ 85 ∷ 87 ∷ 2 ∷ 2 ∷ 1 ∷ 0 ∷ 0 ∷ 0 ∷ 0 ∷ 0 ∷ 16 ∷ 0 ∷ 0 ∷ 0 ∷
    -- a padding word
    0 ∷ 0 ∷ 0 ∷ 0 ∷
    -- chunk 1: version 2, five records, 116 bytes
    69 ∷ 75 ∷ 85 ∷ 87 ∷ 2 ∷ 2 ∷ 1 ∷ 0 ∷ 5 ∷ 0 ∷ 0 ∷ 0 ∷ 116 ∷ 0 ∷ 0 ∷ 0 ∷
    -- `zero`: start, length, data
    220 ∷ 239 ∷ 255 ∷ 255 ∷ 64 ∷ 0 ∷ 0 ∷ 0 ∷ 0 ∷ 0 ∷ 0 ∷ 0 ∷
    -- `outer`: start, length, data
    208 ∷ 47 ∷ 0 ∷ 0 ∷ 64 ∷ 0 ∷ 0 ∷ 0 ∷ 76 ∷ 0 ∷ 0 ∷ 128 ∷
    -- `none`: start, length, data
    4 ∷ 48 ∷ 0 ∷ 0 ∷ 0 ∷ 0 ∷ 0 ∷ 0 ∷ 0 ∷ 0 ∷ 0 ∷ 0 ∷
    -- `framed`: start, length, data
    248 ∷ 47 ∷ 0 ∷ 0 ∷ 64 ∷ 0 ∷ 0 ∷ 0 ∷ 106 ∷ 0 ∷ 0 ∷ 128 ∷
    -- `wide`: start, length, data
    44 ∷ 48 ∷ 0 ∷ 0 ∷ 64 ∷ 0 ∷ 0 ∷ 0 ∷ 87 ∷ 0 ∷ 0 ∷ 128 ∷
    -- the program and the rows of `outer`
    1 ∷ 66 ∷ 131 ∷ 2 ∷ 0 ∷
    2 ∷ 64 ∷ 193 ∷ 1 ∷ 1 ∷ 3 ∷
    -- the program and the rows of `wide`
    1 ∷ 68 ∷ 128 ∷ 2 ∷ 131 ∷ 118 ∷ 143 ∷ 3 ∷ 0 ∷
    2 ∷ 32 ∷ 192 ∷ 1 ∷ 32 ∷ 224 ∷ 1 ∷
    -- so that the chunk ends with what follows
    0 ∷ 0 ∷ 0 ∷
    -- the program and the rows of `framed`
    2 ∷ 201 ∷ 141 ∷ 5 ∷ 0 ∷
    5 ∷ 32 ∷ 192 ∷ 1 ∷ 64 ∷
    -- chunk 2: version 1, one record, 48 bytes
    69 ∷ 75 ∷ 85 ∷ 87 ∷ 1 ∷ 2 ∷ 1 ∷ 0 ∷ 1 ∷ 0 ∷ 0 ∷ 0 ∷ 48 ∷ 0 ∷ 0 ∷ 0 ∷
    -- `linked`: start, length, frame word, handler offset
    104 ∷ 48 ∷ 0 ∷ 0 ∷ 64 ∷ 0 ∷ 0 ∷ 0 ∷ 1 ∷ 0 ∷ 0 ∷ 0 ∷ 32 ∷ 0 ∷ 0 ∷ 0 ∷
    -- the rows of `linked`
    1 ∷ 0 ∷ 0 ∷ 0 ∷
    20 ∷ 0 ∷ 0 ∷ 0 ∷ 36 ∷ 0 ∷ 0 ∷ 0 ∷ 0 ∷ 0 ∷ 0 ∷ 0 ∷
    -- a tail of fewer than 16 bytes
    9 ∷ 9 ∷ 9 ∷ 9 ∷ 9 ∷ 9 ∷ 9 ∷ []

-- a fresh machine with this sp: most registers hold 1000 and their number, 8 the greatest number; 1,029 bytes of stack from 8003 to 8408
abbrev pub start_at : ℕ → Machine
start_at sp =
    record {
      tables = record { arch = 2; section = record { base = 0x1000; bytes = section } };
      registers =
          1000 ∷ 1001 ∷ 1002 ∷ 1003 ∷ 1004 ∷ 1005 ∷ 1006 ∷ sp ∷ 0xffff_ffff_ffff_ffff ∷ 1009 ∷ 1010 ∷ 1011 ∷ 1012 ∷ 1013 ∷ 1014 ∷ 1015 ∷
          0 ∷ 0 ∷ 0 ∷ 0 ∷ 0 ∷ 0 ∷ 0 ∷ 0 ∷ 0 ∷ 0 ∷ 0 ∷ 0 ∷ 0 ∷ 0 ∷ 0 ∷ 0 ∷
          0 ∷ 0 ∷ 0 ∷ 0 ∷ 0 ∷ 0 ∷ 0 ∷ 0 ∷ 9999 ∷ [];
      stack = record { base = 0x8003; bytes = replicate 1029 170 };
      frames = [];
    }

-- sp is the stack's end
abbrev pub start : Machine
start = start_at 0x8408

-- sp is one byte past it: the return address that a call pushes would not lie in the stack
abbrev pub start_past : Machine
start_past = start_at 0x8409

abbrev pub past_events : List Labelled
past_events = against (Call 1 1 0) ∷ []

-- the events up to the first frame's
abbrev pub in_outer : List Labelled
in_outer =
    -- no frame is open yet
    against (Write 0x8401 1) ∷  -- one byte past the stack's end
    does (Write 0x8400 0xffff_ffff_ffff_ffff) ∷  -- the last 8 bytes, the greatest number
    against (Write 0x8400 0x1_0000_0000_0000_0000) ∷  -- one more
    does (Write 0x8003 1) ∷  -- the first 8 bytes
    against (Write 0x8002 1) ∷  -- one byte before them
    against (Call 0 0 0) ∷  -- chunk 0 has no record
    against (Call 1 1 1) ∷  -- the first call returns to 0
    -- `outer`, with the CFA 8408: the pushed address is the last 8 bytes
    does (Call 1 1 0) ∷
    against (Move 0x8409) ∷  -- one past the CFA
    does (Move 0x8408) ∷  -- to the CFA
    against (Spill 7 3) ∷  -- sp, which has its kept value now
    does (Move 0) ∷  -- out of the stack, and as far as can be
    does (Move 0x83f8) ∷  -- up again
    does (Spill 3 2) ∷
    against (Spill 3 3) ∷  -- 3 is spilled already, and slot 3 free
    does (Change 3 0xffff_ffff_ffff_ffff) ∷  -- the greatest number
    against (Change 3 0x1_0000_0000_0000_0000) ∷  -- one more
    does (Change 0 0x1_0000_0000) ∷  -- a register that is not preserved, and not spilled
    against (Spill 0 3) ∷  -- 0 has not its kept value
    does (Change 0 1000) ∷
    does (Spill 0 3) ∷  -- now it has
    does (Reload 0) ∷
    does (Spill 6 3) ∷
    does (Change 6 1) ∷
    does (Reload 6) ∷
    does (Spill 15 3) ∷  -- the last register but one
    does (Change 15 1) ∷
    does (Reload 15) ∷
    against (Change 15 1015) ∷  -- 15 is preserved, and spilled no more
    does (Spill 15 4) ∷  -- once more, in another slot
    does (Reload 15) ∷
    against (Reload 15) ∷
    against (Spill 17 3) ∷  -- there is no such register
    against (Change 17 1) ∷
    against (Spill 16 3) ∷  -- 16 is spilled by the call
    against (Change 16 1) ∷  -- 16 is pc
    against (Reload 16) ∷  -- 16 stays spilled
    does (Write 0x83f0 5) ∷  -- right below slot 2
    against (Write 0x83f1 5) ∷  -- one byte into it
    does (Spill 13 5) ∷
    does (Write 0x83e8 5) ∷  -- right above slot 5
    against (Write 0x83e7 5) ∷  -- one byte into it
    does (Reload 13) ∷
    does (Write 0x83e7 5) ∷  -- slot 5 is free again
    against (Call 2 0 0x4000) ∷  -- one before the first address that a call in `outer` can return to
    against (Call 2 0 0x4041) ∷  -- one past the last
    []

-- then those of the next frame
abbrev pub in_linked : List Labelled
in_linked =
    -- `linked`, with the CFA 83f8: returns to the end of `outer`, and is pushed right below slot 2
    does (Call 2 0 0x4040) ∷
    does (Spill 6 2) ∷
    does (Change 6 0x83e8) ∷  -- fp is a multiple of 8 and not of 16
    does (Move 0x83e9) ∷  -- no multiple of 8
    against (Call 1 3 0x4114) ∷  -- would push one byte into slot 2
    does (Move 0x83e8) ∷
    []

-- then those of the one after it
abbrev pub in_framed : List Labelled
in_framed =
    -- `framed`, with the CFA 83e8: pushed right below slot 2
    does (Call 1 3 0x4114) ∷
    does (Spill 6 2) ∷
    does (Spill 13 5) ∷
    does (Change 6 0x83d8) ∷
    does (Change 13 113) ∷
    []

-- then the call of `wide`
abbrev pub into_wide : List Labelled
into_wide =
    does (Move 0x83b3) ∷
    -- `wide`, with the CFA 83b3: called at an sp that is no multiple of 8
    does (Call 1 4 0x4060) ∷
    []

-- then its events
abbrev pub in_wide : List Labelled
in_wide =
    against (Spill 3 0) ∷  -- slot 0 is no slot, though its place is free
    against (Spill 3 119) ∷  -- below the stack
    does (Spill 3 118) ∷  -- the first 8 bytes of the stack
    does (Spill 15 3) ∷
    does (Spill 0 2) ∷  -- 0 is not preserved
    does (Change 15 0x1_0000_0000) ∷  -- 2^32
    does (Change 3 0) ∷
    does (Move 0x8393) ∷
    []

-- four more frames
abbrev pub in_zeros : List Labelled
in_zeros =
    -- `zero` four times, with the CFAs 8393, 838b, 8383 and 837b
    does (Call 1 0 0x40a0) ∷
    against (Call 1 0 0) ∷  -- only the first call returns to 0
    does (Call 1 0 1) ∷  -- the first address that a call in `zero` can return to
    does (Call 1 0 0x40) ∷  -- the last
    against (Call 1 0 0x41) ∷
    does (Call 1 0 0x40) ∷
    []

-- after `in_framed`: a call between live slots
abbrev pub in_gap : List Labelled
in_gap =
    does (Move 0x83cf) ∷
    against (Call 1 0 0x4060) ∷  -- would push one byte into slot 5
    does (Move 0x83d0) ∷
    -- `zero`, with the CFA 83d0: pushed right above slot 5 of `framed`
    does (Call 1 0 0x4060) ∷
    against (Spill 3 2) ∷  -- that slot
    does (Spill 3 3) ∷  -- right below it
    does (Reload 3) ∷
    []

-- and one that is no multiple of 8 from them
abbrev pub askew : List Labelled
askew =
    does (Move 0x83d7) ∷
    does (Call 1 0 0x4060) ∷
    against (Spill 3 2) ∷  -- one byte into slot 5 of `framed`
    against (Spill 3 3) ∷  -- all but one
    does (Spill 3 4) ∷
    does (Reload 3) ∷
    []

-- after `in_framed`: sp goes up to the CFA
abbrev pub to_cfa : List Labelled
to_cfa =
    does (Move 0x83b3) ∷
    does (Move 0x83e8) ∷
    []

-- after `in_linked`: the first address that a call in `linked` can return to
abbrev pub at_first : List Labelled
at_first =
    against (Call 1 3 0x4100) ∷
    does (Call 1 3 0x4101) ∷
    []

-- a scenario from there
abbrev pub from : List Labelled → Throw → Searched → List LandingPad → Scenario
from labelled throw answer landings = record { machine = start; labelled = labelled; throw = throw; answer = answer; landings = landings }

-- `wide` throws where its record ends. It lands itself as frame 0, before `framed` and `linked`; `outer` catches
abbrev pub at_end : Scenario
at_end =
    from (in_outer ++ in_linked ++ in_framed ++ into_wide ++ in_wide) (throw_at 0x40c0) (Chosen 3 0x83f8) (
    landing 0 0x8393 0x40b8 (0 ∷ 0x83d8 ∷ 1012 ∷ 113 ∷ 1014 ∷ 0x1_0000_0000 ∷ []) ∷
    landing 1 0x83b3 0x4070 (0xffff_ffff_ffff_ffff ∷ 0x83d8 ∷ 1012 ∷ 113 ∷ 1014 ∷ 1015 ∷ []) ∷
    landing 2 0x83e8 0x4124 (0xffff_ffff_ffff_ffff ∷ 0x83e8 ∷ 1012 ∷ 1013 ∷ 1014 ∷ 1015 ∷ []) ∷
    landing 3 0x83f8 0x4030 (0xffff_ffff_ffff_ffff ∷ 1006 ∷ 1012 ∷ 1013 ∷ 1014 ∷ 1015 ∷ []) ∷
    [])

-- eight frames; the last throws at the first address that a throw in `zero` can have
abbrev pub of_eight : Scenario
of_eight =
    from (in_outer ++ in_linked ++ in_framed ++ into_wide ++ in_wide ++ in_zeros) (throw_at 1) (Chosen 7 0x83f8) (
    landing 4 0x8393 0x40b0 (0 ∷ 0x83d8 ∷ 1012 ∷ 113 ∷ 1014 ∷ 0x1_0000_0000 ∷ []) ∷
    landing 5 0x83b3 0x4070 (0xffff_ffff_ffff_ffff ∷ 0x83d8 ∷ 1012 ∷ 113 ∷ 1014 ∷ 1015 ∷ []) ∷
    landing 6 0x83e8 0x4124 (0xffff_ffff_ffff_ffff ∷ 0x83e8 ∷ 1012 ∷ 1013 ∷ 1014 ∷ 1015 ∷ []) ∷
    landing 7 0x83f8 0x4030 (0xffff_ffff_ffff_ffff ∷ 1006 ∷ 1012 ∷ 1013 ∷ 1014 ∷ 1015 ∷ []) ∷
    [])

-- a frame whose return address is pushed between live slots
abbrev pub between_slots : Scenario
between_slots =
    from (in_outer ++ in_linked ++ in_framed ++ in_gap) (throw_at 0x40) (Chosen 3 0x83f8) (
    landing 1 0x83d0 0x4070 (0xffff_ffff_ffff_ffff ∷ 0x83d8 ∷ 1012 ∷ 113 ∷ 1014 ∷ 1015 ∷ []) ∷
    landing 2 0x83e8 0x4124 (0xffff_ffff_ffff_ffff ∷ 0x83e8 ∷ 1012 ∷ 1013 ∷ 1014 ∷ 1015 ∷ []) ∷
    landing 3 0x83f8 0x4030 (0xffff_ffff_ffff_ffff ∷ 1006 ∷ 1012 ∷ 1013 ∷ 1014 ∷ 1015 ∷ []) ∷
    [])

-- an interrupt at the first instruction of `wide`, of version 2
abbrev pub at_entry : Scenario
at_entry =
    from (in_outer ++ in_linked ++ in_framed ++ into_wide) (interrupt_at 0x4080) (Chosen 3 0x83f8) (
    landing 1 0x83b3 0x4070 (0xffff_ffff_ffff_ffff ∷ 0x83d8 ∷ 1012 ∷ 113 ∷ 1014 ∷ 1015 ∷ []) ∷
    landing 2 0x83e8 0x4124 (0xffff_ffff_ffff_ffff ∷ 0x83e8 ∷ 1012 ∷ 1013 ∷ 1014 ∷ 1015 ∷ []) ∷
    landing 3 0x83f8 0x4030 (0xffff_ffff_ffff_ffff ∷ 1006 ∷ 1012 ∷ 1013 ∷ 1014 ∷ 1015 ∷ []) ∷
    [])

-- `framed` throws while sp is its CFA, and lands there
abbrev pub at_cfa : Scenario
at_cfa =
    from (in_outer ++ in_linked ++ in_framed ++ to_cfa) (throw_at 0x4060) (Chosen 2 0x83f8) (
    landing 0 0x83e8 0x4070 (0xffff_ffff_ffff_ffff ∷ 0x83d8 ∷ 1012 ∷ 113 ∷ 1014 ∷ 1015 ∷ []) ∷
    landing 1 0x83e8 0x4124 (0xffff_ffff_ffff_ffff ∷ 0x83e8 ∷ 1012 ∷ 1013 ∷ 1014 ∷ 1015 ∷ []) ∷
    landing 2 0x83f8 0x4030 (0xffff_ffff_ffff_ffff ∷ 1006 ∷ 1012 ∷ 1013 ∷ 1014 ∷ 1015 ∷ []) ∷
    [])

-- one frame alone, which catches
abbrev pub alone : Scenario
alone =
    from in_outer (throw_at 0x4040) (Chosen 0 0x83f8) (
    landing 0 0x83f8 0x4030 (0xffff_ffff_ffff_ffff ∷ 1006 ∷ 1012 ∷ 1013 ∷ 1014 ∷ 1015 ∷ []) ∷
    [])

-- throws and interrupts in `wide`, past its first instructions, in `zero`, and at the first instruction of `wide`: right at the bounds of
-- each record, and right past them
abbrev pub throws : List Throw
throws = throw_at 0x40c0 ∷ throw_at 0x40c1 ∷ throw_at 0x4082 ∷ throw_at 0x4080 ∷ interrupt_at 0x40bf ∷ interrupt_at 0x40c0 ∷ []

abbrev pub throws_in_zero : List Throw
throws_in_zero = throw_at 0 ∷ throw_at 1 ∷ throw_at 0x40 ∷ throw_at 0x41 ∷ interrupt_at 0 ∷ interrupt_at 1 ∷ interrupt_at 0x3f ∷ interrupt_at 0x40 ∷ []

abbrev pub throws_at_entry : List Throw
throws_at_entry = throw_at 0x4080 ∷ throw_at 0x4081 ∷ interrupt_at 0x407f ∷ interrupt_at 0x4080 ∷ []
