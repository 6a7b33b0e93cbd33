-- Closed runs far out on aarch64: return addresses about 2^48, the last slots, and the stack at the least address that an opening accepts.
use Rattle.std.specs.Prelude.{List, [], ◌∷◌, ◌++◌, ℕ, replicate}
use Rattle.model.specs.Search.{Searched, Chosen}
use Rattle.model.specs.Machine.{Machine}
use Rattle.model.specs.Event.{Call, Spill, Change, Move}
use Rattle.model.specs.Throw.{Throw}
use Rattle.model.specs.Expected.{LandingPad}
use Rattle.runs.specs.Scenario.{Labelled, does, against, Scenario, throw_at, interrupt_at, landing}

-- the section, at address ffff_ffff_f000; each record as it is past its first instruction, with its rows by the addresses that calls
-- return to. Below, + and - count from 2^48:
-- - 0 0, `wrapped`, [-60, -20): CFA = fp + 40, 30 in slot 1, 29 in slot 2; row: -40 cleanup
-- - 0 1, `edge`, [-20, +20): CFA = sp + 8 * 65536, 30 in slot 65534, 19 in slot 65535; row: -1 catch
-- - 0 2, `flat`, [+20, +60): without a program, so CFA = sp, the return address in 30; no table
-- - 1 0, `leaf`, [+80, +a0), of version 1: CFA = sp, the return address in 30; a table without rows
abbrev pub section : List ℕ
section =
    -- chunk 0: version 2, three records, 84 bytes
    69 ∷ 75 ∷ 85 ∷ 87 ∷ 2 ∷ 1 ∷ 1 ∷ 0 ∷ 3 ∷ 0 ∷ 0 ∷ 0 ∷ 84 ∷ 0 ∷ 0 ∷ 0 ∷
    -- `wrapped`: start, length, data
    144 ∷ 15 ∷ 0 ∷ 0 ∷ 64 ∷ 0 ∷ 0 ∷ 0 ∷ 52 ∷ 0 ∷ 0 ∷ 128 ∷
    -- `edge`: start, length, data
    196 ∷ 15 ∷ 0 ∷ 0 ∷ 64 ∷ 0 ∷ 0 ∷ 0 ∷ 64 ∷ 0 ∷ 0 ∷ 128 ∷
    -- `flat`: start, length, data
    248 ∷ 15 ∷ 0 ∷ 0 ∷ 64 ∷ 0 ∷ 0 ∷ 0 ∷ 0 ∷ 0 ∷ 0 ∷ 0 ∷
    -- the program and the rows of `wrapped`
    1 ∷ 193 ∷ 5 ∷ 158 ∷ 1 ∷ 157 ∷ 2 ∷ 0 ∷
    1 ∷ 32 ∷ 192 ∷ 1 ∷
    -- the program and the rows of `edge`
    1 ∷ 194 ∷ 128 ∷ 128 ∷ 4 ∷ 158 ∷ 254 ∷ 255 ∷ 3 ∷ 147 ∷ 255 ∷ 255 ∷ 3 ∷ 0 ∷
    1 ∷ 31 ∷ 65 ∷
    -- up to the next multiple of 4
    0 ∷ 0 ∷ 0 ∷
    -- chunk 1: version 1, one record, 36 bytes, the last 4 of which are a table without rows
    69 ∷ 75 ∷ 85 ∷ 87 ∷ 1 ∷ 1 ∷ 1 ∷ 0 ∷ 1 ∷ 0 ∷ 0 ∷ 0 ∷ 36 ∷ 0 ∷ 0 ∷ 0 ∷
    -- `leaf`: start, length, frame word, handler offset
    28 ∷ 16 ∷ 0 ∷ 0 ∷ 32 ∷ 0 ∷ 0 ∷ 0 ∷ 0 ∷ 0 ∷ 0 ∷ 0 ∷ 32 ∷ 0 ∷ 0 ∷ 0 ∷
    -- the rows of `leaf`
    0 ∷ 0 ∷ 0 ∷ 0 ∷ []

-- a fresh machine with this sp: 55 bytes of stack from 1 to 38 hexadecimal
abbrev pub start_at : ℕ → Machine
start_at sp =
    record {
      tables = record { arch = 1; section = record { base = 0xffff_ffff_f000; bytes = section } };
      registers =
          1000 ∷ 1001 ∷ 1002 ∷ 1003 ∷ 1004 ∷ 1005 ∷ 1006 ∷ 1007 ∷ 1008 ∷ 1009 ∷ 1010 ∷ 1011 ∷ 1012 ∷ 1013 ∷ 1014 ∷ 1015 ∷
          1016 ∷ 1017 ∷ 1018 ∷ 1019 ∷ 1020 ∷ 1021 ∷ 1022 ∷ 1023 ∷ 1024 ∷ 1025 ∷ 1026 ∷ 1027 ∷ 1028 ∷ 1029 ∷ 1030 ∷ sp ∷
          1072 ∷ 1073 ∷ 1074 ∷ 1075 ∷ 1076 ∷ 1077 ∷ 1078 ∷ 1079 ∷ 9999 ∷ [];
      stack = record { base = 1; bytes = replicate 55 170 };
      frames = [];
    }

-- sp is far above the stack: 8 * 65535 above 28 hexadecimal
abbrev pub start : Machine
start = start_at 0x8_0020

-- the events of two frames
abbrev pub in_wrapped : List Labelled
in_wrapped =
    -- `edge`, with the CFA 8_0020: far above the stack
    does (Call 0 1 0) ∷
    against (Spill 19 65536) ∷  -- past the last slot, though its place is free
    does (Spill 19 65535) ∷  -- the last slot
    does (Spill 30 65534) ∷
    does (Change 19 119) ∷
    does (Move 0x20) ∷
    against (Call 0 0 0x1_0000_0000_0000) ∷  -- a return address of 49 bits, in `edge`
    -- `wrapped`, with the CFA 20: returns to the greatest address of 48 bits
    does (Call 0 0 0xffff_ffff_ffff) ∷
    does (Spill 30 1) ∷
    does (Spill 29 2) ∷
    does (Change 29 0xffff_ffff_ffff_fff8) ∷  -- fp + 28 hexadecimal is past 2^64
    []

-- then the call of `flat`
abbrev pub into_flat : List Labelled
into_flat =
    does (Move 0) ∷
    against (Call 0 2 0xffff_ffff_ffc0) ∷  -- a CFA of 0
    does (Move 1) ∷
    -- `flat`, with the CFA 1
    does (Call 0 2 0xffff_ffff_ffc0) ∷
    []

-- or of `leaf`
abbrev pub into_leaf : List Labelled
into_leaf =
    does (Move 1) ∷
    does (Call 1 0 0xffff_ffff_ffc0) ∷
    []

-- a scenario from there
abbrev pub from : List Labelled → Throw → Searched → List LandingPad → Scenario
from labelled throw answer landings = record { machine = start; labelled = labelled; throw = throw; answer = answer; landings = landings }

-- a throw at a pc of 49 bits, where the CFA of `wrapped` is a sum that wraps
abbrev pub wraps : Scenario
wraps =
    from (in_wrapped ++ into_flat) (throw_at 0x1_0000_0000_0060) (Chosen 2 0x20) (
    landing 1 1 0xffff_ffff_ffd0 (119 ∷ 1020 ∷ 1021 ∷ 1022 ∷ 1023 ∷ 1024 ∷ 1025 ∷ 1026 ∷ 1027 ∷ 1028 ∷ 0xffff_ffff_ffff_fff8 ∷ 0xffff_ffff_ffc0 ∷ 1072 ∷ 1073 ∷ 1074 ∷ 1075 ∷ 1076 ∷ 1077 ∷ 1078 ∷ 1079 ∷ []) ∷
    landing 2 32 0xffff_ffff_fff0 (119 ∷ 1020 ∷ 1021 ∷ 1022 ∷ 1023 ∷ 1024 ∷ 1025 ∷ 1026 ∷ 1027 ∷ 1028 ∷ 1029 ∷ 0xffff_ffff_ffff ∷ 1072 ∷ 1073 ∷ 1074 ∷ 1075 ∷ 1076 ∷ 1077 ∷ 1078 ∷ 1079 ∷ []) ∷
    [])

-- an interrupt in `leaf`, whose table has no rows
abbrev pub rowless : Scenario
rowless =
    from (in_wrapped ++ into_leaf) (interrupt_at 0x1_0000_0000_009f) (Chosen 2 0x20) (
    landing 1 1 0xffff_ffff_ffd0 (119 ∷ 1020 ∷ 1021 ∷ 1022 ∷ 1023 ∷ 1024 ∷ 1025 ∷ 1026 ∷ 1027 ∷ 1028 ∷ 0xffff_ffff_ffff_fff8 ∷ 0xffff_ffff_ffc0 ∷ 1072 ∷ 1073 ∷ 1074 ∷ 1075 ∷ 1076 ∷ 1077 ∷ 1078 ∷ 1079 ∷ []) ∷
    landing 2 32 0xffff_ffff_fff0 (119 ∷ 1020 ∷ 1021 ∷ 1022 ∷ 1023 ∷ 1024 ∷ 1025 ∷ 1026 ∷ 1027 ∷ 1028 ∷ 1029 ∷ 0xffff_ffff_ffff ∷ 1072 ∷ 1073 ∷ 1074 ∷ 1075 ∷ 1076 ∷ 1077 ∷ 1078 ∷ 1079 ∷ []) ∷
    [])

-- from an sp of 30: `wrapped` with the least fp that is good
abbrev pub least_fp : List Labelled
least_fp =
    does (Call 0 0 0) ∷
    does (Spill 30 1) ∷
    does (Spill 29 2) ∷
    does (Change 29 8) ∷
    does (Move 1) ∷
    does (Call 0 2 0xffff_ffff_ffc0) ∷
    []

-- from an sp of 28: with an fp of 0, which is not, though it gives the CFA
abbrev pub no_fp : List Labelled
no_fp =
    does (Call 0 0 0) ∷
    does (Spill 30 1) ∷
    does (Spill 29 2) ∷
    does (Change 29 0) ∷
    does (Move 1) ∷
    against (Call 0 2 0xffff_ffff_ffc0) ∷
    []

-- from an sp of 2f: with one that is no multiple of 8
abbrev pub odd_fp : List Labelled
odd_fp =
    does (Call 0 0 0) ∷
    does (Spill 30 1) ∷
    does (Spill 29 2) ∷
    does (Change 29 7) ∷
    does (Move 1) ∷
    against (Call 0 2 0xffff_ffff_ffc0) ∷
    []

-- from an sp of 1: the least CFA; then from 0
abbrev pub least_cfa : List Labelled
least_cfa = does (Call 0 2 0) ∷ []

abbrev pub no_cfa : List Labelled
no_cfa = against (Call 0 2 0) ∷ []
