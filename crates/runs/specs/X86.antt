-- Closed runs on x86-64: five scenarios, and what each comes to.
use Rattle.std.specs.Prelude.{List, [], ◌∷◌, ◌++◌, ℕ, ◌+◌, replicate}
use Rattle.model.specs.Search.{Searched, Chosen, Stopped, Ended}
use Rattle.model.specs.Machine.{Machine, Store, stored}
use Rattle.model.specs.Event.{Call, Spill, Change, Reload, Move, Write}
use Rattle.model.specs.Throw.{Throw}
use Rattle.model.specs.Expected.{LandingPad}
use Rattle.runs.specs.LiveStack.{Made, overwritten, cut}
use Rattle.runs.specs.Scenario.{Labelled, does, against, Scenario, throw_at, interrupt_at, landing}

-- the section, at address 1000 hexadecimal; its records by chunk and index, each as it is past its first
-- instructions, with its rows by the addresses that calls return to:
-- - 0 0, `outer`, [4000, 4040): CFA = sp + 16, 16 in slot 1, 3 in slot 2; rows: 4010 catch, 4018 cleanup
-- - 0 1, `framed`, [4040, 4080): from 4042 on CFA = fp + 16, 16 in slot 1, 6 in slot 2, 13 in slot 3; row: 4060 cleanup
-- - 0 2, `plain`, [4080, 40c0): CFA = sp + 32, 16 in slot 1, 15 in slot 2; no table
-- - 1 0, `old`, [4100, 4140), of version 1 and kind 1: CFA = fp + 16, 16 in slot 1, 6 in slot 2, 14 in slot 3, 12 in slot 4; rows:
--   4114 cleanup, 411c terminate
-- - 1 1, `leaf`, [4140, 4160), of version 1: CFA = sp + 8, 16 in slot 1; row: 4148 terminate
-- - 1 2, `unlinked`, [4160, 41a0), of version 1 and kind 2: CFA = sp + 32, 16 in slot 1, 3 in slot 2, 13 in slot 3; row: 4180 cleanup
abbrev pub section : List ℕ
section =
    -- chunk 0: version 2, three records, 80 bytes
    69 ∷ 75 ∷ 85 ∷ 87 ∷ 2 ∷ 2 ∷ 1 ∷ 0 ∷ 3 ∷ 0 ∷ 0 ∷ 0 ∷ 80 ∷ 0 ∷ 0 ∷ 0 ∷
    -- `outer`: start, length, data
    240 ∷ 47 ∷ 0 ∷ 0 ∷ 64 ∷ 0 ∷ 0 ∷ 0 ∷ 52 ∷ 0 ∷ 0 ∷ 128 ∷
    -- `framed`: start, length, data
    36 ∷ 48 ∷ 0 ∷ 0 ∷ 64 ∷ 0 ∷ 0 ∷ 0 ∷ 64 ∷ 0 ∷ 0 ∷ 128 ∷
    -- `plain`: start, length, data
    88 ∷ 48 ∷ 0 ∷ 0 ∷ 64 ∷ 0 ∷ 0 ∷ 0 ∷ 73 ∷ 0 ∷ 0 ∷ 0 ∷
    -- the program and the rows of `outer`
    1 ∷ 66 ∷ 131 ∷ 2 ∷ 0 ∷
    2 ∷ 16 ∷ 193 ∷ 1 ∷ 8 ∷ 224 ∷ 1 ∷
    -- those of `framed`
    2 ∷ 201 ∷ 141 ∷ 3 ∷ 0 ∷
    1 ∷ 32 ∷ 192 ∷ 1 ∷
    -- the program of `plain`
    1 ∷ 66 ∷ 143 ∷ 2 ∷ 4 ∷ 68 ∷ 0 ∷
    -- chunk 1: version 1, three records, 124 bytes
    69 ∷ 75 ∷ 85 ∷ 87 ∷ 1 ∷ 2 ∷ 1 ∷ 0 ∷ 3 ∷ 0 ∷ 0 ∷ 0 ∷ 124 ∷ 0 ∷ 0 ∷ 0 ∷
    -- `old`: start, length, frame word, handler offset
    160 ∷ 48 ∷ 0 ∷ 0 ∷ 64 ∷ 0 ∷ 0 ∷ 0 ∷ 85 ∷ 0 ∷ 96 ∷ 0 ∷ 64 ∷ 0 ∷ 0 ∷ 0 ∷
    -- `leaf`
    208 ∷ 48 ∷ 0 ∷ 0 ∷ 32 ∷ 0 ∷ 0 ∷ 0 ∷ 0 ∷ 0 ∷ 0 ∷ 0 ∷ 92 ∷ 0 ∷ 0 ∷ 0 ∷
    -- `unlinked`
    224 ∷ 48 ∷ 0 ∷ 0 ∷ 64 ∷ 0 ∷ 0 ∷ 0 ∷ 42 ∷ 0 ∷ 64 ∷ 0 ∷ 108 ∷ 0 ∷ 0 ∷ 0 ∷
    -- the rows of `old`
    2 ∷ 0 ∷ 0 ∷ 0 ∷
    20 ∷ 0 ∷ 0 ∷ 0 ∷ 36 ∷ 0 ∷ 0 ∷ 0 ∷ 0 ∷ 0 ∷ 0 ∷ 0 ∷
    28 ∷ 0 ∷ 0 ∷ 0 ∷ 0 ∷ 0 ∷ 0 ∷ 0 ∷ 2 ∷ 0 ∷ 0 ∷ 0 ∷
    -- those of `leaf`
    1 ∷ 0 ∷ 0 ∷ 0 ∷
    8 ∷ 0 ∷ 0 ∷ 0 ∷ 0 ∷ 0 ∷ 0 ∷ 0 ∷ 2 ∷ 0 ∷ 0 ∷ 0 ∷
    -- those of `unlinked`
    1 ∷ 0 ∷ 0 ∷ 0 ∷
    32 ∷ 0 ∷ 0 ∷ 0 ∷ 48 ∷ 0 ∷ 0 ∷ 0 ∷ 0 ∷ 0 ∷ 0 ∷ 0 ∷ []

-- a fresh machine: most registers hold 1000 and their number, and 144 bytes of stack at 8000 end at sp
abbrev pub start : Machine
start =
    record {
      tables = record { arch = 2; section = record { base = 0x1000; bytes = section } };
      registers =
          1000 ∷ 1001 ∷ 1002 ∷ 1003 ∷ 1004 ∷ 1005 ∷ 1006 ∷ 0x8090 ∷ 1008 ∷ 1009 ∷ 1010 ∷ 1011 ∷ 1012 ∷ 1013 ∷ 1014 ∷ 1015 ∷
          0 ∷ 0 ∷ 0 ∷ 0 ∷ 0 ∷ 0 ∷ 0 ∷ 0 ∷ 0 ∷ 0 ∷ 0 ∷ 0 ∷ 0 ∷ 0 ∷ 0 ∷ 0 ∷
          0 ∷ 0 ∷ 0 ∷ 0 ∷ 0 ∷ 0 ∷ 0 ∷ 0 ∷ 9999 ∷ [];
      stack = record { base = 0x8000; bytes = replicate 144 170 };
      frames = [];
    }

-- the events: `outer` calls itself, that one calls `old`, that one `framed`, that one `plain`. Two return addresses decide what comes
-- of them, and so are left open: where the second `outer` is returned to, and where `old` is
abbrev pub events_with : ℕ → ℕ → List Labelled
events_with caller old =
    -- no frame is open yet
    against (Call 0 9 0) ∷  -- there is no such record
    against (Call 0 0 0x4010) ∷  -- the first call returns to 0
    against (Spill 3 2) ∷  -- of no frame
    does (Write 0x8038 0xffff_ffff_ffff_ffff) ∷  -- junk, which needs no frame
    -- `outer`, the outermost frame, with the CFA 8090
    does (Call 0 0 0) ∷
    does (Move 0x8080) ∷
    against (Call 0 0 0x4018) ∷  -- not described: its record has 3 in slot 2
    against (Spill 3 1) ∷  -- slot 1 is live: it holds the return address
    does (Spill 3 2) ∷
    does (Change 3 103) ∷
    against (Change 12 112) ∷  -- 12 is preserved, and not spilled
    against (Move 0x8098) ∷  -- above the CFA
    against (Call 0 0 0x4041) ∷  -- its return address lies past the caller
    -- `outer` once more, with the CFA 8080
    does (Call 0 0 0x4018) ∷
    does (Spill 3 2) ∷
    does (Change 3 203) ∷
    does (Move 0x8070) ∷
    does (Change 0 7) ∷  -- 0 is not preserved
    -- `old`, with the CFA 8070
    does (Call 1 0 caller) ∷
    does (Spill 6 2) ∷
    does (Change 6 0x8060) ∷
    does (Spill 12 4) ∷
    against (Spill 12 5) ∷  -- 12 is spilled already
    does (Spill 14 3) ∷
    does (Move 0x8050) ∷
    does (Change 12 112) ∷
    does (Change 14 114) ∷
    against (Write 0x8074 7) ∷  -- meets a live slot of its caller
    against (Reload 16) ∷  -- 16 stays spilled
    against (Change 99 1) ∷  -- there is no such register
    -- `framed`, with the CFA 8050
    does (Call 0 1 old) ∷
    does (Spill 6 2) ∷
    does (Spill 13 3) ∷
    does (Move 0x8030) ∷
    against (Call 0 2 0x4060) ∷  -- fp is not yet 16 below the CFA
    does (Change 6 0x8040) ∷
    does (Change 13 113) ∷
    does (Write 0x802c 0x4010) ∷  -- junk that looks like a return address
    -- `plain`, with the CFA 8030
    does (Call 0 2 0x4060) ∷
    does (Spill 15 2) ∷
    does (Spill 12 3) ∷
    does (Change 12 212) ∷
    does (Change 15 115) ∷
    does (Move 0x8010) ∷
    does (Reload 12) ∷  -- 12 has its kept value again, and slot 3 is free
    does (Write 0x8018 77) ∷  -- into that slot
    against (Change 7 0) ∷  -- 7 is sp
    []

-- the cleanups of `framed`, which has this number, and of `old`, then the catch of the second `outer`
abbrev pub landings : ℕ → List LandingPad
landings number =
    landing number 0x8030 0x4070 (203 ∷ 0x8040 ∷ 112 ∷ 113 ∷ 114 ∷ 1015 ∷ []) ∷
    landing (number + 1) 0x8050 0x4124 (203 ∷ 0x8060 ∷ 112 ∷ 1013 ∷ 114 ∷ 1015 ∷ []) ∷
    landing (number + 2) 0x8070 0x4030 (203 ∷ 1006 ∷ 1012 ∷ 1013 ∷ 1014 ∷ 1015 ∷ []) ∷ []

-- a scenario from there
abbrev pub ends : List Labelled → Throw → Searched → List LandingPad → Scenario
ends labelled throw answer landings = record { machine = start; labelled = labelled; throw = throw; answer = answer; landings = landings }

-- `plain` throws. It has no table and is passed over; `framed` and `old` clean up, and the second `outer` catches. The cleanup of the
-- outermost frame is not due
abbrev pub caught : Scenario
caught = ends (events_with 0x4010 0x4114) (throw_at 0x4090) (Chosen 3 0x8070) (landings 1)

-- the call of `old` has a terminate row, which comes before the catch: 3, and nothing lands
abbrev pub terminated : Scenario
terminated = ends (events_with 0x4010 0x411c) (throw_at 0x4090) Stopped []

-- nobody catches: 5, and nothing lands, though four frames have cleanups
abbrev pub uncaught : Scenario
uncaught = ends (events_with 0x4018 0x4114) (throw_at 0x4090) Ended []

-- `plain` calls `leaf`, a frame of version 1, which is interrupted where its table has a terminate row: that row does not count
abbrev pub in_leaf : Scenario
in_leaf = ends (events_with 0x4010 0x4114 ++ (does (Call 1 1 0x4094) ∷ [])) (interrupt_at 0x4148) (Chosen 4 0x8070) (landings 2)

-- `outer` calls `unlinked`, that one `leaf`
abbrev pub to_leaf : List Labelled
to_leaf =
    -- `outer`, with the CFA 8090
    does (Call 0 0 0) ∷
    does (Move 0x8080) ∷
    does (Spill 3 2) ∷
    does (Change 3 103) ∷
    -- `unlinked`, with the CFA 8080
    does (Call 1 2 0x4010) ∷
    does (Spill 3 2) ∷
    does (Spill 13 3) ∷
    does (Change 3 203) ∷
    does (Change 13 113) ∷
    does (Move 0x8060) ∷
    -- `leaf`, with the CFA 8060
    does (Call 1 1 0x4180) ∷ []

-- `leaf` is interrupted; `unlinked`, of kind 2, cleans up, and `outer` catches
abbrev pub over_unlinked : Scenario
over_unlinked =
    ends to_leaf (interrupt_at 0x4148) (Chosen 2 0x8080) (
    landing 1 0x8060 0x4190 (203 ∷ 1006 ∷ 1012 ∷ 113 ∷ 1014 ∷ 1015 ∷ []) ∷
    landing 2 0x8080 0x4030 (103 ∷ 1006 ∷ 1012 ∷ 1013 ∷ 1014 ∷ 1015 ∷ []) ∷ [])

-- stacks for the calls after `caught`: all below the frame that comes next is overwritten
abbrev pub overwritings : List Made
overwritings = overwritten 0x8010 ∷ overwritten 0x8050 ∷ overwritten 0x8070 ∷ overwritten 0x8080 ∷ overwritten 0x8080 ∷ []

-- stacks that hold the live slots of the frames not yet passed, up to the chosen one, and nothing before or after them; then none
abbrev pub cuts : List Made
cuts = cut 0x8020 0x8080 ∷ cut 0x8050 0x8080 ∷ cut 0x8070 0x8080 ∷ cut 1 1 ∷ cut 0x7000 0x7000 ∷ []

-- stores: 3 bytes between the live slots of `plain` and of `framed`
abbrev pub in_gap : Store
in_gap = record { address = 0x8031; bytes = 1 ∷ 2 ∷ 3 ∷ [] }

-- 16 bytes below `plain`
abbrev pub below : Store
below = record { address = 0x8000; bytes = replicate 16 0 }

-- the return address of `framed`, which has landed
abbrev pub over_framed : Store
over_framed = record { address = 0x8048; bytes = replicate 8 0 }

-- 25 bytes of `old`, which has landed, up to the live slots of its caller
abbrev pub over_old : Store
over_old = record { address = 0x8057; bytes = replicate 25 0 }

-- stores before the calls after `caught`
abbrev pub stores_between : List (List Store)
stores_between = (in_gap ∷ below ∷ []) ∷ (over_framed ∷ []) ∷ (over_old ∷ []) ∷ [] ∷ (over_framed ∷ []) ∷ []

-- what the calls are lent then
abbrev pub stored_between : List Made
stored_between =
    (λ r. stored (stored r in_gap) below) ∷
    (λ r. stored (stored (stored r in_gap) below) over_framed) ∷
    (λ r. stored (stored (stored (stored r in_gap) below) over_framed) over_old) ∷
    (λ r. stored (stored (stored (stored r in_gap) below) over_framed) over_old) ∷
    (λ r. stored (stored (stored (stored (stored r in_gap) below) over_framed) over_old) over_framed) ∷ []
