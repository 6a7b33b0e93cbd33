-- Closed runs on aarch64: five scenarios, and what each comes to.
use Rattle.std.specs.Prelude.{List, [], ◌∷◌, ◌++◌, ℕ, ◌+◌, replicate}
use Rattle.model.specs.Search.{Searched, Chosen, Stopped, Ended}
use Rattle.model.specs.Machine.{Machine}
use Rattle.model.specs.Event.{Call, Spill, Change, Reload, Move, Write}
use Rattle.model.specs.Throw.{Throw}
use Rattle.model.specs.Expected.{LandingPad}
use Rattle.runs.specs.LiveStack.{Made, overwritten, cut}
use Rattle.runs.specs.Scenario.{Labelled, does, against, Scenario, throw_at, interrupt_at, landing}

-- the section, at address 1000 hexadecimal; its records by chunk and index, each as it is past its first
-- instructions, with its rows by the addresses that calls return to:
-- - 0 0, `outer`, [4000, 4040): CFA = sp + 16, 30 in slot 1, 19 in slot 2; rows: 4010 catch, 4018 cleanup
-- - 0 1, `framed`, [4040, 4080): from 4048 on CFA = fp + 16, 30 in slot 1, 29 in slot 2, 21 in slot 3; row: 4060 cleanup
-- - 0 2, `plain`, [4080, 40c0): CFA = sp + 32, 30 in slot 1, 23 in slot 3; no table
-- - 1 0, `old`, [4100, 4140), of version 1 and kind 2: CFA = sp + 32, 30 in slot 1, 72 in slot 2, 20 in slot 3; rows:
--   4114 cleanup, 411c terminate
-- - 1 1, `linked`, [4140, 4180), of version 1 and kind 1: CFA = fp + 16, 30 in slot 1, 29 in slot 2, 19 in slot 3; row: 4160 cleanup
-- - 1 2, `leaf`, [4180, 41a0), of version 1: CFA = sp, the return address in 30; row: 4188 terminate
abbrev pub section : List ℕ
section =
    -- chunk 0: version 2, three records, 84 bytes
    69 ∷ 75 ∷ 85 ∷ 87 ∷ 2 ∷ 1 ∷ 1 ∷ 0 ∷ 3 ∷ 0 ∷ 0 ∷ 0 ∷ 84 ∷ 0 ∷ 0 ∷ 0 ∷
    -- `outer`: start, length, data
    240 ∷ 47 ∷ 0 ∷ 0 ∷ 64 ∷ 0 ∷ 0 ∷ 0 ∷ 52 ∷ 0 ∷ 0 ∷ 128 ∷
    -- `framed`: start, length, data
    36 ∷ 48 ∷ 0 ∷ 0 ∷ 64 ∷ 0 ∷ 0 ∷ 0 ∷ 66 ∷ 0 ∷ 0 ∷ 128 ∷
    -- `plain`: start, length, data
    88 ∷ 48 ∷ 0 ∷ 0 ∷ 64 ∷ 0 ∷ 0 ∷ 0 ∷ 75 ∷ 0 ∷ 0 ∷ 0 ∷
    -- the program and the rows of `outer`
    1 ∷ 66 ∷ 158 ∷ 1 ∷ 147 ∷ 2 ∷ 0 ∷
    2 ∷ 16 ∷ 193 ∷ 1 ∷ 8 ∷ 224 ∷ 1 ∷
    -- those of `framed`
    2 ∷ 201 ∷ 149 ∷ 3 ∷ 0 ∷
    1 ∷ 32 ∷ 192 ∷ 1 ∷
    -- the program of `plain`
    1 ∷ 68 ∷ 158 ∷ 1 ∷ 151 ∷ 3 ∷ 0 ∷
    -- up to the next multiple of 4
    0 ∷ 0 ∷
    -- chunk 1: version 1, three records, 124 bytes
    69 ∷ 75 ∷ 85 ∷ 87 ∷ 1 ∷ 1 ∷ 1 ∷ 0 ∷ 3 ∷ 0 ∷ 0 ∷ 0 ∷ 124 ∷ 0 ∷ 0 ∷ 0 ∷
    -- `old`: start, length, frame word, handler offset
    156 ∷ 48 ∷ 0 ∷ 0 ∷ 64 ∷ 0 ∷ 0 ∷ 0 ∷ 22 ∷ 32 ∷ 64 ∷ 0 ∷ 64 ∷ 0 ∷ 0 ∷ 0 ∷
    -- `linked`
    204 ∷ 48 ∷ 0 ∷ 0 ∷ 64 ∷ 0 ∷ 0 ∷ 0 ∷ 9 ∷ 0 ∷ 96 ∷ 0 ∷ 92 ∷ 0 ∷ 0 ∷ 0 ∷
    -- `leaf`
    252 ∷ 48 ∷ 0 ∷ 0 ∷ 32 ∷ 0 ∷ 0 ∷ 0 ∷ 0 ∷ 0 ∷ 0 ∷ 0 ∷ 108 ∷ 0 ∷ 0 ∷ 0 ∷
    -- the rows of `old`
    2 ∷ 0 ∷ 0 ∷ 0 ∷
    20 ∷ 0 ∷ 0 ∷ 0 ∷ 36 ∷ 0 ∷ 0 ∷ 0 ∷ 0 ∷ 0 ∷ 0 ∷ 0 ∷
    28 ∷ 0 ∷ 0 ∷ 0 ∷ 0 ∷ 0 ∷ 0 ∷ 0 ∷ 2 ∷ 0 ∷ 0 ∷ 0 ∷
    -- those of `linked`
    1 ∷ 0 ∷ 0 ∷ 0 ∷
    32 ∷ 0 ∷ 0 ∷ 0 ∷ 48 ∷ 0 ∷ 0 ∷ 0 ∷ 0 ∷ 0 ∷ 0 ∷ 0 ∷
    -- those of `leaf`
    1 ∷ 0 ∷ 0 ∷ 0 ∷
    8 ∷ 0 ∷ 0 ∷ 0 ∷ 0 ∷ 0 ∷ 0 ∷ 0 ∷ 2 ∷ 0 ∷ 0 ∷ 0 ∷ []

-- a fresh machine: most registers hold 1000 and their number, and 128 bytes of stack at 8000 end at sp
abbrev pub start : Machine
start =
    record {
      tables = record { arch = 1; section = record { base = 0x1000; bytes = section } };
      registers =
          1000 ∷ 1001 ∷ 1002 ∷ 1003 ∷ 1004 ∷ 1005 ∷ 1006 ∷ 1007 ∷ 1008 ∷ 1009 ∷ 1010 ∷ 1011 ∷ 1012 ∷ 1013 ∷ 1014 ∷ 1015 ∷
          1016 ∷ 1017 ∷ 1018 ∷ 1019 ∷ 1020 ∷ 1021 ∷ 1022 ∷ 1023 ∷ 1024 ∷ 1025 ∷ 1026 ∷ 1027 ∷ 1028 ∷ 1029 ∷ 1030 ∷ 0x8080 ∷
          1072 ∷ 1073 ∷ 1074 ∷ 1075 ∷ 1076 ∷ 1077 ∷ 1078 ∷ 1079 ∷ 9999 ∷ [];
      stack = record { base = 0x8000; bytes = replicate 128 170 };
      frames = [];
    }

-- the events: `outer` calls itself, that one calls `old`, that one `framed`, that one `plain`. Two return addresses decide what comes
-- of them, and so are left open: where the second `outer` is returned to, and where `old` is
abbrev pub events_with : ℕ → ℕ → List Labelled
events_with caller old =
    -- no frame is open yet
    against (Call 0 9 0) ∷  -- there is no such record
    against (Call 0 0 0x4010) ∷  -- the first call returns to 0
    against (Spill 19 2) ∷  -- of no frame
    does (Write 0x8038 0xffff_ffff_ffff_ffff) ∷  -- junk, which needs no frame
    -- `outer`, the outermost frame, with the CFA 8080
    does (Call 0 0 0) ∷
    does (Move 0x8070) ∷
    does (Spill 30 1) ∷
    against (Call 0 0 0x4018) ∷  -- not described: its record has 19 in slot 2
    against (Spill 20 1) ∷  -- slot 1 is live
    does (Spill 19 2) ∷
    does (Change 19 119) ∷
    against (Change 20 120) ∷  -- 20 is preserved, and not spilled
    against (Move 0x8088) ∷  -- above the CFA
    against (Call 0 0 0x4041) ∷  -- its return address lies past the caller
    -- `outer` once more, with the CFA 8070
    does (Call 0 0 0x4018) ∷
    does (Spill 19 2) ∷
    does (Spill 30 1) ∷
    does (Change 19 219) ∷
    does (Move 0x8060) ∷
    does (Change 0 7) ∷  -- 0 is not preserved
    -- `old`, with the CFA 8060
    does (Call 1 0 caller) ∷
    does (Move 0x8040) ∷
    does (Spill 30 1) ∷
    does (Spill 72 2) ∷
    against (Spill 72 4) ∷  -- 72 is spilled already
    does (Spill 20 3) ∷
    does (Change 72 172) ∷
    does (Change 20 120) ∷
    against (Write 0x8064 7) ∷  -- meets a live slot of its caller
    against (Reload 25) ∷  -- 25 is not spilled
    against (Change 99 1) ∷  -- there is no such register
    -- `framed`, with the CFA 8040
    does (Call 0 1 old) ∷
    does (Spill 29 2) ∷
    does (Spill 30 1) ∷
    does (Spill 21 3) ∷
    does (Move 0x8020) ∷
    against (Call 0 2 0x4060) ∷  -- fp is not yet 16 below the CFA
    does (Change 29 0x8030) ∷
    does (Change 21 121) ∷
    does (Write 0x801c 0x4010) ∷  -- junk that looks like a return address
    -- `plain`, with the CFA 8020
    does (Call 0 2 0x4060) ∷
    does (Move 0x8000) ∷
    does (Spill 30 1) ∷
    does (Spill 23 3) ∷
    does (Spill 24 2) ∷
    does (Change 24 124) ∷
    does (Change 23 123) ∷
    does (Reload 24) ∷  -- 24 has its kept value again, and slot 2 is free
    does (Write 0x8010 77) ∷  -- into that slot
    against (Change 31 0) ∷  -- 31 is sp
    []

-- the cleanups of `framed`, which has this number, and of `old`, then the catch of the second `outer`
abbrev pub landings : ℕ → List LandingPad
landings number =
    landing number 0x8020 0x4070 (
    219 ∷ 120 ∷ 121 ∷ 1022 ∷ 1023 ∷ 1024 ∷ 1025 ∷ 1026 ∷ 1027 ∷ 1028 ∷
    0x8030 ∷ 0x4060 ∷ 172 ∷ 1073 ∷ 1074 ∷ 1075 ∷ 1076 ∷ 1077 ∷ 1078 ∷ 1079 ∷ []) ∷
    landing (number + 1) 0x8040 0x4124 (
    219 ∷ 120 ∷ 1021 ∷ 1022 ∷ 1023 ∷ 1024 ∷ 1025 ∷ 1026 ∷ 1027 ∷ 1028 ∷
    1029 ∷ 0x4114 ∷ 172 ∷ 1073 ∷ 1074 ∷ 1075 ∷ 1076 ∷ 1077 ∷ 1078 ∷ 1079 ∷ []) ∷
    landing (number + 2) 0x8060 0x4030 (
    219 ∷ 1020 ∷ 1021 ∷ 1022 ∷ 1023 ∷ 1024 ∷ 1025 ∷ 1026 ∷ 1027 ∷ 1028 ∷
    1029 ∷ 0x4010 ∷ 1072 ∷ 1073 ∷ 1074 ∷ 1075 ∷ 1076 ∷ 1077 ∷ 1078 ∷ 1079 ∷ []) ∷ []

-- a scenario from there
abbrev pub ends : List Labelled → Throw → Searched → List LandingPad → Scenario
ends labelled throw answer landings = record { machine = start; labelled = labelled; throw = throw; answer = answer; landings = landings }

-- `plain` throws. It has no table and is passed over; `framed` and `old` clean up, and the second `outer` catches. The cleanup of the
-- outermost frame is not due
abbrev pub caught : Scenario
caught = ends (events_with 0x4010 0x4114) (throw_at 0x4090) (Chosen 3 0x8060) (landings 1)

-- the call of `old` has a terminate row, which comes before the catch: 3, and nothing lands
abbrev pub terminated : Scenario
terminated = ends (events_with 0x4010 0x411c) (throw_at 0x4090) Stopped []

-- nobody catches: 5, and nothing lands, though four frames have cleanups
abbrev pub uncaught : Scenario
uncaught = ends (events_with 0x4018 0x4114) (throw_at 0x4090) Ended []

-- `plain` calls `framed`, a frame of version 2, which is interrupted at its first instruction
abbrev pub at_entry : Scenario
at_entry = ends (events_with 0x4010 0x4114 ++ (does (Call 0 1 0x4094) ∷ [])) (interrupt_at 0x4040) (Chosen 4 0x8060) (landings 2)

-- `outer` calls `linked`, that one `leaf`
abbrev pub to_leaf : List Labelled
to_leaf =
    -- `outer`, with the CFA 8080
    does (Call 0 0 0) ∷
    does (Move 0x8070) ∷
    does (Spill 30 1) ∷
    does (Spill 19 2) ∷
    does (Change 19 119) ∷
    -- `linked`, with the CFA 8070
    does (Call 1 1 0x4010) ∷
    does (Spill 30 1) ∷
    does (Spill 29 2) ∷
    does (Spill 19 3) ∷
    does (Change 29 0x8060) ∷
    does (Change 19 219) ∷
    does (Move 0x8050) ∷
    -- `leaf`, with the CFA 8050
    does (Call 1 2 0x4160) ∷ []

-- `leaf`, a frame of version 1, is interrupted where its table has a terminate row: that row does not count. `linked`, of kind 1,
-- cleans up, and `outer` catches
abbrev pub in_leaf : Scenario
in_leaf =
    ends to_leaf (interrupt_at 0x4188) (Chosen 2 0x8070) (
    landing 1 0x8050 0x4170 (
    219 ∷ 1020 ∷ 1021 ∷ 1022 ∷ 1023 ∷ 1024 ∷ 1025 ∷ 1026 ∷ 1027 ∷ 1028 ∷
    0x8060 ∷ 0x4160 ∷ 1072 ∷ 1073 ∷ 1074 ∷ 1075 ∷ 1076 ∷ 1077 ∷ 1078 ∷ 1079 ∷ []) ∷
    landing 2 0x8070 0x4030 (
    119 ∷ 1020 ∷ 1021 ∷ 1022 ∷ 1023 ∷ 1024 ∷ 1025 ∷ 1026 ∷ 1027 ∷ 1028 ∷
    1029 ∷ 0x4010 ∷ 1072 ∷ 1073 ∷ 1074 ∷ 1075 ∷ 1076 ∷ 1077 ∷ 1078 ∷ 1079 ∷ []) ∷ [])

-- stacks for the calls after `caught`: all below the frame that comes next is overwritten
abbrev pub overwritings : List Made
overwritings = overwritten 0x8000 ∷ overwritten 0x8040 ∷ overwritten 0x8060 ∷ overwritten 0x8070 ∷ overwritten 0x8070 ∷ []

-- stacks that hold the live slots of the frames not yet passed, up to the chosen one, and nothing after them; then none
abbrev pub cuts : List Made
cuts = cut 0x8008 0x8070 ∷ cut 0x8048 0x8070 ∷ cut 0x8060 0x8070 ∷ cut 1 1 ∷ cut 0x7000 0x7000 ∷ []
