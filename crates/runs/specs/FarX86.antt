-- Closed runs far out on x86-64: the section at the greatest address that an opening accepts, the stack at the least.
use Rattle.std.specs.Prelude.{List, [], ◌∷◌, ◌++◌, ℕ, replicate}
use Rattle.model.specs.Search.{Searched, Chosen}
use Rattle.model.specs.Machine.{Machine}
use Rattle.model.specs.Event.{Call, Spill, Change, Move}
use Rattle.model.specs.Throw.{Throw}
use Rattle.model.specs.Expected.{LandingPad}
use Rattle.runs.specs.Scenario.{Labelled, does, against, Scenario, throw_at, interrupt_at, landing}

-- the section, at address 2^62, which the addresses of its records are counted from here; each record as it is past its first
-- instruction, with its rows by the addresses that calls return to:
-- - 0 0, `edge`, [1000, 1040): CFA = sp + 16, 16 in slot 1, 3 in slot 2; row: 1040 catch
-- - 0 1, `wrapped`, [1040, 1080): CFA = fp + 48, 16 in slot 1, 6 in slot 2; row: 1060 cleanup
-- - 0 2, `flat`, [1080, 10c0): without a program, so CFA = sp + 8, 16 in slot 1; no table
-- - 1 0, `leaf`, [1100, 1120), of version 1: CFA = sp + 8, 16 in slot 1; a table without rows
abbrev pub section : List ℕ
section =
    -- chunk 0: version 2, three records, 72 bytes
    69 ∷ 75 ∷ 85 ∷ 87 ∷ 2 ∷ 2 ∷ 1 ∷ 0 ∷ 3 ∷ 0 ∷ 0 ∷ 0 ∷ 72 ∷ 0 ∷ 0 ∷ 0 ∷
    -- `edge`: start, length, data
    240 ∷ 15 ∷ 0 ∷ 0 ∷ 64 ∷ 0 ∷ 0 ∷ 0 ∷ 52 ∷ 0 ∷ 0 ∷ 128 ∷
    -- `wrapped`: start, length, data
    36 ∷ 16 ∷ 0 ∷ 0 ∷ 64 ∷ 0 ∷ 0 ∷ 0 ∷ 61 ∷ 0 ∷ 0 ∷ 128 ∷
    -- `flat`: start, length, data
    88 ∷ 16 ∷ 0 ∷ 0 ∷ 64 ∷ 0 ∷ 0 ∷ 0 ∷ 0 ∷ 0 ∷ 0 ∷ 0 ∷
    -- the program and the rows of `edge`
    1 ∷ 66 ∷ 131 ∷ 2 ∷ 0 ∷
    1 ∷ 64 ∷ 193 ∷ 1 ∷
    -- the program and the rows of `wrapped`
    1 ∷ 193 ∷ 6 ∷ 134 ∷ 2 ∷ 0 ∷
    1 ∷ 32 ∷ 192 ∷ 1 ∷
    -- up to the next multiple of 4
    0 ∷
    -- chunk 1: version 1, one record, 36 bytes, the last 4 of which are a table without rows
    69 ∷ 75 ∷ 85 ∷ 87 ∷ 1 ∷ 2 ∷ 1 ∷ 0 ∷ 1 ∷ 0 ∷ 0 ∷ 0 ∷ 36 ∷ 0 ∷ 0 ∷ 0 ∷
    -- `leaf`: start, length, frame word, handler offset
    168 ∷ 16 ∷ 0 ∷ 0 ∷ 32 ∷ 0 ∷ 0 ∷ 0 ∷ 0 ∷ 0 ∷ 0 ∷ 0 ∷ 32 ∷ 0 ∷ 0 ∷ 0 ∷
    -- the rows of `leaf`
    0 ∷ 0 ∷ 0 ∷ 0 ∷ []

-- a fresh machine with this sp: 55 bytes of stack from 1 to 38 hexadecimal
abbrev pub start_at : ℕ → Machine
start_at sp =
    record {
      tables = record { arch = 2; section = record { base = 0x4000_0000_0000_0000; bytes = section } };
      registers =
          1000 ∷ 1001 ∷ 1002 ∷ 1003 ∷ 1004 ∷ 1005 ∷ 1006 ∷ sp ∷ 1008 ∷ 1009 ∷ 1010 ∷ 1011 ∷ 1012 ∷ 1013 ∷ 1014 ∷ 1015 ∷
          0 ∷ 0 ∷ 0 ∷ 0 ∷ 0 ∷ 0 ∷ 0 ∷ 0 ∷ 0 ∷ 0 ∷ 0 ∷ 0 ∷ 0 ∷ 0 ∷ 0 ∷ 0 ∷
          0 ∷ 0 ∷ 0 ∷ 0 ∷ 0 ∷ 0 ∷ 0 ∷ 0 ∷ 9999 ∷ [];
      stack = record { base = 1; bytes = replicate 55 170 };
      frames = [];
    }

-- sp is the stack's end
abbrev pub start : Machine
start = start_at 0x38

-- the events of two frames
abbrev pub in_wrapped : List Labelled
in_wrapped =
    -- `edge`, with the CFA 38
    does (Call 0 0 0) ∷
    does (Spill 3 2) ∷
    does (Move 0x28) ∷
    -- `wrapped`, with the CFA 28
    does (Call 0 1 0x4000_0000_0000_1040) ∷
    does (Spill 6 2) ∷
    does (Change 6 0xffff_ffff_ffff_fff8) ∷  -- fp + 30 hexadecimal is past 2^64
    []

-- then the call of `flat`
abbrev pub into_flat : List Labelled
into_flat =
    does (Move 8) ∷
    against (Call 0 2 0x4000_0000_0000_1060) ∷  -- would push one byte below the stack
    does (Move 9) ∷
    -- with the CFA 9: pushed as the first 8 bytes of the stack
    does (Call 0 2 0x4000_0000_0000_1060) ∷
    []

-- or of `leaf`
abbrev pub into_leaf : List Labelled
into_leaf =
    does (Move 9) ∷
    does (Call 1 0 0x4000_0000_0000_1060) ∷
    []

-- a scenario from there
abbrev pub from : List Labelled → Throw → Searched → List LandingPad → Scenario
from labelled throw answer landings = record { machine = start; labelled = labelled; throw = throw; answer = answer; landings = landings }

-- a throw where the CFA of `wrapped` is a sum that wraps
abbrev pub wraps : Scenario
wraps =
    from (in_wrapped ++ into_flat) (throw_at 0x4000_0000_0000_10c0) (Chosen 2 0x28) (
    landing 1 9 0x4000_0000_0000_1070 (1003 ∷ 0xffff_ffff_ffff_fff8 ∷ 1012 ∷ 1013 ∷ 1014 ∷ 1015 ∷ []) ∷
    landing 2 40 0x4000_0000_0000_1030 (1003 ∷ 1006 ∷ 1012 ∷ 1013 ∷ 1014 ∷ 1015 ∷ []) ∷
    [])

-- an interrupt in `leaf`, whose table has no rows
abbrev pub rowless : Scenario
rowless =
    from (in_wrapped ++ into_leaf) (interrupt_at 0x4000_0000_0000_111f) (Chosen 2 0x28) (
    landing 1 9 0x4000_0000_0000_1070 (1003 ∷ 0xffff_ffff_ffff_fff8 ∷ 1012 ∷ 1013 ∷ 1014 ∷ 1015 ∷ []) ∷
    landing 2 40 0x4000_0000_0000_1030 (1003 ∷ 1006 ∷ 1012 ∷ 1013 ∷ 1014 ∷ 1015 ∷ []) ∷
    [])

-- from an sp of 38: `wrapped` with the least fp that is good
abbrev pub least_fp : List Labelled
least_fp =
    does (Call 0 1 0) ∷
    does (Spill 6 2) ∷
    does (Change 6 8) ∷
    does (Move 9) ∷
    does (Call 0 2 0x4000_0000_0000_1060) ∷
    []

-- from an sp of 30: with an fp of 0, which is not, though it gives the CFA
abbrev pub no_fp : List Labelled
no_fp =
    does (Call 0 1 0) ∷
    does (Spill 6 2) ∷
    does (Change 6 0) ∷
    does (Move 9) ∷
    against (Call 0 2 0x4000_0000_0000_1060) ∷
    []

-- from an sp of 37: with one that is no multiple of 8
abbrev pub odd_fp : List Labelled
odd_fp =
    does (Call 0 1 0) ∷
    does (Spill 6 2) ∷
    does (Change 6 7) ∷
    does (Move 9) ∷
    against (Call 0 2 0x4000_0000_0000_1060) ∷
    []

-- from an sp of 9: the least CFA that there can be, since the return address is pushed; then from 8
abbrev pub least_cfa : List Labelled
least_cfa = does (Call 0 2 0) ∷ []

abbrev pub no_cfa : List Labelled
no_cfa = against (Call 0 2 0) ∷ []
