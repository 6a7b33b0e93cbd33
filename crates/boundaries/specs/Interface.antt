-- The C interface: what each struct holds for an answer, for none and for a refusal. A refusal hands back the file or state that came in.
use Rattle.std.specs.Prelude.{true, false, List, [], ◌∷◌, ◌++◌, ℕ, ◌-◌, ◌^◌, eqb, replicate, if◌then◌else◌}
use Rattle.state.specs.declared.State.{State}
use Rattle.answers.specs.declared.Number.{Number}
use Rattle.answers.specs.declared.File.{File}
use Rattle.answers.specs.declared.Function.{Function}
use Rattle.answers.specs.declared.Read.{Read}
use Rattle.answers.specs.declared.Changed.{Changed}
use Rattle.answers.specs.declared.Ended.{Ended}
use Rattle.answers.specs.declared.Decided.{Decided}
use Rattle.answers.specs.declared.RowFound.{RowFound}
use Rattle.boundaries.specs.Row.{Row, ◌gives◌, Right}
use Rattle.boundaries.specs.Lending.{Target, x86_1, x86_2, aarch64_2, Lending, lending, faulty, plain, rowed, file_with, file}
use Rattle.boundaries.specs.Structs.{number, file_is, function, read, changed, ended, row, decided, no_record, state, counting}
use Rattle.boundaries.specs.Functions.{eko_strip_pac, eko_get, eko_fp, eko_sp, eko_set, eko_set_sp, eko_lookup, eko_read_uleb, eko_slot, eko_save, eko_restore, eko_run, eko_apply, eko_step, eko_handler, eko_handler2, eko_personality}

-- a file of each architecture
abbrev pub ours : Target → List ℕ
ours t = file t 0x8010 0x8000 0x7777 0x4018

-- `eko_strip_pac`: "the address modulo 2^48 on aarch64 and changes nothing on x86-64"
abbrev pub stripped : List (Row Number)
stripped =
    eko_strip_pac 1 (2 ^ 48 - 1) gives number 0 (2 ^ 48 - 1) ∷
    eko_strip_pac 1 (2 ^ 48) gives number 0 0 ∷
    eko_strip_pac 1 (2 ^ 64 - 1) gives number 0 (2 ^ 48 - 1) ∷
    eko_strip_pac 2 (2 ^ 48) gives number 0 (2 ^ 48) ∷
    eko_strip_pac 2 (2 ^ 64 - 1) gives number 0 (2 ^ 64 - 1) ∷ []

-- `eko_get`, `eko_fp`, `eko_sp`: "x86-64: DWARF registers 0 to 15, and 16, which is pc; sp 7, fp 6. aarch64: 0 to 30, sp 31, 72 to 79, pc aside;
-- fp 29. Other numbers get 11"
abbrev pub gets : List (Row Number)
gets =
    eko_get 2 (ours x86_2) 0 gives number 0 100 ∷
    eko_get 2 (ours x86_2) 15 gives number 0 115 ∷
    eko_get 2 (ours x86_2) 16 gives number 0 0x4018 ∷
    eko_get 2 (ours x86_2) 17 gives number 11 0 ∷
    eko_get 2 (ours x86_2) 40 gives number 11 0 ∷
    eko_get 2 (ours x86_2) 72 gives number 11 0 ∷
    eko_get 2 (ours x86_2) 65535 gives number 11 0 ∷
    eko_fp 2 (ours x86_2) gives number 0 0x8010 ∷
    eko_get 2 (ours x86_2) 6 gives number 0 0x8010 ∷
    eko_sp 2 (ours x86_2) gives number 0 0x8000 ∷
    eko_get 2 (ours x86_2) 7 gives number 0 0x8000 ∷
    eko_get 1 (ours aarch64_2) 0 gives number 0 100 ∷
    eko_get 1 (ours aarch64_2) 16 gives number 0 116 ∷
    eko_get 1 (ours aarch64_2) 30 gives number 0 0x7777 ∷
    eko_get 1 (ours aarch64_2) 31 gives number 0 0x8000 ∷
    eko_get 1 (ours aarch64_2) 32 gives number 11 0 ∷
    eko_get 1 (ours aarch64_2) 71 gives number 11 0 ∷
    eko_get 1 (ours aarch64_2) 72 gives number 0 132 ∷
    eko_get 1 (ours aarch64_2) 79 gives number 0 139 ∷
    eko_get 1 (ours aarch64_2) 80 gives number 11 0 ∷
    eko_fp 1 (ours aarch64_2) gives number 0 0x8010 ∷
    eko_get 1 (ours aarch64_2) 29 gives number 0 0x8010 ∷
    eko_sp 1 (ours aarch64_2) gives number 0 0x8000 ∷ []

-- `eko_set`, `eko_set_sp`
abbrev pub sets : List (Row File)
sets =
    eko_set 2 (ours x86_2) 0 7 gives file_is 0 (file_with x86_2 7 101 0x8010 0x8000 0x7777 0x4018) ∷
    eko_set 2 (ours x86_2) 16 7 gives file_is 0 (file x86_2 0x8010 0x8000 0x7777 7) ∷
    eko_set 2 (ours x86_2) 17 7 gives file_is 11 (ours x86_2) ∷
    eko_set 2 (ours x86_2) 40 7 gives file_is 11 (ours x86_2) ∷
    eko_set 2 (ours x86_2) 65535 7 gives file_is 11 (ours x86_2) ∷
    eko_set_sp 2 (ours x86_2) 7 gives file_is 0 (file x86_2 0x8010 7 0x7777 0x4018) ∷
    eko_set 1 (ours aarch64_2) 30 7 gives file_is 0 (file aarch64_2 0x8010 0x8000 7 0x4018) ∷
    eko_set 1 (ours aarch64_2) 31 7 gives file_is 0 (file aarch64_2 0x8010 7 0x7777 0x4018) ∷
    eko_set 1 (ours aarch64_2) 32 7 gives file_is 11 (ours aarch64_2) ∷
    eko_set 1 (ours aarch64_2) 71 7 gives file_is 11 (ours aarch64_2) ∷
    eko_set 1 (ours aarch64_2) 72 132 gives file_is 0 (ours aarch64_2) ∷
    eko_set 1 (ours aarch64_2) 79 139 gives file_is 0 (ours aarch64_2) ∷
    eko_set 1 (ours aarch64_2) 80 7 gives file_is 11 (ours aarch64_2) ∷
    eko_set_sp 1 (ours aarch64_2) 7 gives file_is 0 (file aarch64_2 0x8010 7 0x7777 0x4018) ∷ []

-- what the rows below are lent, in version 2 and 1
abbrev pub lent2 : Lending
lent2 = lending x86_2 0x4014 0x4018

abbrev pub lent1 : Lending
lent1 = lending x86_1 0x4014 0x4018

-- `eko_lookup`: pc itself is looked up
abbrev pub lookups : List (Row Function)
lookups =
    eko_lookup lent2 2 0x3fff gives function 1 no_record ∷
    eko_lookup lent2 2 0x4000 gives function 0 (plain x86_2) ∷
    eko_lookup lent2 2 0x400f gives function 0 (plain x86_2) ∷
    eko_lookup lent2 2 0x4010 gives function 0 (rowed x86_2) ∷
    eko_lookup lent2 2 0x403f gives function 0 (rowed x86_2) ∷
    eko_lookup lent2 2 0x4040 gives function 1 no_record ∷
    eko_lookup lent1 2 0x4010 gives function 0 (rowed x86_1) ∷
    eko_lookup lent1 2 0x4040 gives function 1 no_record ∷
    eko_lookup lent2 1 0x4000 gives function 17 no_record ∷
    eko_lookup (faulty x86_2) 2 0x4000 gives function 17 no_record ∷ []

-- `eko_read_uleb`: the number at a position, and the address after it
abbrev pub ulebs : List (Row Read)
ulebs =
    eko_read_uleb lent2 0x103c 0x1048 gives read 0 144 0x103e ∷
    eko_read_uleb lent2 0x103c 0x103e gives read 0 144 0x103e ∷
    eko_read_uleb lent2 0x103c 0x103d gives read 30 0 0 ∷
    eko_read_uleb lent2 0x103c 0x103c gives read 30 0 0 ∷
    eko_read_uleb lent2 0x1047 0x1048 gives read 0 0 0x1048 ∷
    eko_read_uleb lent2 0x1048 0x1049 gives read 27 0 0 ∷
    eko_read_uleb lent2 0x805f 0x8060 gives read 0 0 0x8060 ∷
    eko_read_uleb lent2 0x8060 0x8061 gives read 27 0 0 ∷ []

-- `eko_slot`: none for a register that is not saved; 32 pairs, and 33
abbrev pub slots : List (Row Number)
slots =
    eko_slot (state true 2 2 (16 ∷ 6 ∷ []) (1 ∷ 2 ∷ [])) 6 gives number 0 2 ∷
    eko_slot (state true 2 2 (16 ∷ 6 ∷ []) (1 ∷ 2 ∷ [])) 3 gives number 1 0 ∷
    eko_slot (state true 2 1 (16 ∷ 6 ∷ []) (1 ∷ 2 ∷ [])) 6 gives number 1 0 ∷
    eko_slot (counting 32) 5 gives number 0 1 ∷
    eko_slot (counting 32) 6 gives number 1 0 ∷
    eko_slot (counting 33) 5 gives number 28 0 ∷
    eko_slot (counting 33) 6 gives number 28 0 ∷ []

-- the entry states
abbrev pub entry_of : Target → State
entry_of t = if eqb t.arch 1 then state false 0 0 [] [] else state false 1 1 (16 ∷ []) (1 ∷ [])

-- `eko_save`: "A save of slot 0 or above 65535, of a register above 65535 .. 18"; "32 a 33rd register is saved; .. a save's other 18 before
-- 32" (document 02 (c)); 33 pairs are 28, first
abbrev pub saves : List (Row Changed)
saves =
    eko_save (entry_of x86_2) 3 2 gives changed 0 (state false 1 2 (16 ∷ 3 ∷ []) (1 ∷ 2 ∷ [])) ∷
    eko_save (entry_of x86_2) 16 3 gives changed 0 (state false 1 1 (16 ∷ []) (3 ∷ [])) ∷
    eko_save (entry_of x86_2) 3 0 gives changed 18 (entry_of x86_2) ∷
    eko_save (entry_of x86_2) 3 1 gives changed 0 (state false 1 2 (16 ∷ 3 ∷ []) (1 ∷ 1 ∷ [])) ∷
    eko_save (entry_of x86_2) 3 65535 gives changed 0 (state false 1 2 (16 ∷ 3 ∷ []) (1 ∷ 65535 ∷ [])) ∷
    eko_save (entry_of x86_2) 3 65536 gives changed 18 (entry_of x86_2) ∷
    eko_save (entry_of x86_2) 65535 2 gives changed 0 (state false 1 2 (16 ∷ 65535 ∷ []) (1 ∷ 2 ∷ [])) ∷
    eko_save (entry_of x86_2) 65536 2 gives changed 18 (entry_of x86_2) ∷
    eko_save (counting 31) 6 2 gives changed 0 (record {
      cfa_fp = false;
      cfa_units = 4;
      count = 32;
      regs = replicate 31 5 ++ (6 ∷ []);
      slots = replicate 31 1 ++ (2 ∷ []);
    }) ∷
    eko_save (counting 32) 6 2 gives changed 32 (counting 32) ∷
    eko_save (counting 32) 6 0 gives changed 18 (counting 32) ∷
    eko_save (counting 32) 6 65536 gives changed 18 (counting 32) ∷
    eko_save (counting 32) 65535 2 gives changed 32 (counting 32) ∷
    eko_save (counting 32) 65536 2 gives changed 18 (counting 32) ∷
    eko_save (counting 32) 5 0 gives changed 18 (counting 32) ∷
    eko_save (counting 32) 5 1 gives changed 0 (counting 32) ∷
    eko_save (counting 33) 5 1 gives changed 28 (counting 33) ∷
    eko_save (counting 33) 6 0 gives changed 28 (counting 33) ∷ []

-- `eko_restore`: "Restore removes the pair, if any, .. and on x86-64 then saves 16 at slot 1 if 16 was named"
abbrev pub restores : List (Row Changed)
restores =
    eko_restore 2 (state false 1 1 (16 ∷ []) (3 ∷ [])) 16 gives changed 0 (entry_of x86_2) ∷
    eko_restore 1 (state false 1 1 (16 ∷ []) (3 ∷ [])) 16 gives changed 0 (state false 1 0 (16 ∷ []) (3 ∷ [])) ∷
    eko_restore 2 (state false 1 2 (16 ∷ 3 ∷ []) (1 ∷ 2 ∷ [])) 3 gives changed 0 (state false 1 1 (16 ∷ 3 ∷ []) (1 ∷ 2 ∷ [])) ∷
    eko_restore 2 (entry_of x86_2) 3 gives changed 0 (entry_of x86_2) ∷
    eko_restore 2 (counting 32) 5 gives changed 0 (counting 31) ∷
    eko_restore 2 (counting 32) 16 gives changed 32 (counting 32) ∷
    eko_restore 1 (counting 32) 16 gives changed 0 (counting 32) ∷
    eko_restore 1 (counting 32) 30 gives changed 0 (counting 32) ∷
    eko_restore 2 (counting 33) 5 gives changed 28 (counting 33) ∷
    eko_restore 1 (counting 32) 6 gives changed 0 (counting 32) ∷
    eko_restore 1 (counting 33) 6 gives changed 28 (counting 33) ∷ []

-- `eko_run`: only END gives an after-address; a refusal hands back the entry state and 0
abbrev pub ran : List (Row Ended)
ran =
    eko_run lent2 2 0 0 0 gives ended 0 (entry_of x86_2) 0 ∷
    eko_run lent2 2 0x1036 0x1048 0x1f gives ended 0 (state true 2 2 (16 ∷ 6 ∷ []) (1 ∷ 2 ∷ [])) 0 ∷
    eko_run lent2 2 0x1036 0x1048 0x20 gives ended 0 (state true 4 2 (16 ∷ 6 ∷ []) (1 ∷ 2 ∷ [])) 0x103a ∷
    eko_run lent2 2 0x1036 0x103a 0x20 gives ended 0 (state true 4 2 (16 ∷ 6 ∷ []) (1 ∷ 2 ∷ [])) 0x103a ∷
    eko_run lent2 2 0x1036 0x1039 0x20 gives ended 30 (entry_of x86_2) 0 ∷
    eko_run lent2 2 0x1036 0x1036 0 gives ended 30 (entry_of x86_2) 0 ∷
    eko_run lent2 2 0x2000 0x2001 0 gives ended 27 (entry_of x86_2) 0 ∷
    eko_run lent2 1 0x1034 0x1048 0 gives ended 0 (state true 2 2 (29 ∷ 30 ∷ []) (2 ∷ 1 ∷ [])) 0x1036 ∷
    eko_run lent2 1 0x1036 0x1036 0 gives ended 30 (entry_of aarch64_2) 0 ∷ []

-- `eko_apply`: a refusal hands back the file that came in; 32 pairs, and 33
abbrev pub applies : List (Row File)
applies =
    eko_apply lent2 2 (state true 2 2 (16 ∷ 6 ∷ []) (1 ∷ 2 ∷ [])) (ours x86_2) gives file_is 0 (file x86_2 0x8030 0x8020 0x7777 0x4014) ∷
    eko_apply lent2 2 (state true 2 2 (16 ∷ 6 ∷ []) (1 ∷ 7 ∷ [])) (ours x86_2) gives file_is 27 (ours x86_2) ∷
    eko_apply lent2 2 (state true 2 2 (16 ∷ 17 ∷ []) (1 ∷ 2 ∷ [])) (ours x86_2) gives file_is 11 (ours x86_2) ∷
    eko_apply lent2 2 (state true 2 1 (16 ∷ []) (1 ∷ [])) (file x86_2 4 0x8000 0 0) gives file_is 23 (file x86_2 4 0x8000 0 0) ∷
    eko_apply lent2 2 (state false 0 0 [] []) (file x86_2 4 0 0 0) gives file_is 12 (file x86_2 4 0 0 0) ∷
    eko_apply lent2 2 (state false 0 0 [] []) (file x86_2 4 1 0 9) gives file_is 0 (file x86_2 4 1 0 9) ∷
    eko_apply lent2 2 (counting 33) (ours x86_2) gives file_is 28 (ours x86_2) ∷
    eko_apply lent2 1 (state true 2 2 (29 ∷ 30 ∷ []) (2 ∷ 1 ∷ [])) (ours aarch64_2) gives
    file_is 0 (file aarch64_2 0x8030 0x8020 0x4014 0x4014) ∷
    eko_apply lent2 1 (state true 2 2 (29 ∷ 32 ∷ []) (2 ∷ 1 ∷ [])) (ours aarch64_2) gives file_is 11 (ours aarch64_2) ∷ []

-- 32 pairs, all of register 5, in slot 1 below sp + 32: the return address stays where it is
abbrev pub applies_full : List (Row Number)
applies_full =
    eko_get 2 (eko_apply lent2 2 (counting 32) (ours x86_2)).regs.r 5 gives number 0 0x4014 ∷ []

-- `eko_step`
abbrev pub steps : List (Row File)
steps =
    eko_step lent2 2 1 false (ours x86_2) gives file_is 0 (file x86_2 0x8030 0x8020 0x7777 0x4014) ∷
    eko_step lent2 2 1 true (ours x86_2) gives file_is 25 (ours x86_2) ∷
    eko_step lent2 2 3 false (ours x86_2) gives file_is 18 (ours x86_2) ∷
    eko_step lent2 2 0 false (ours x86_2) gives file_is 18 (ours x86_2) ∷
    eko_step lent2 2 0 true (file x86_2 0 0x8018 0 0) gives file_is 0 (file x86_2 0 0x8020 0 0x4014) ∷
    eko_step lent2 2 1 false (file x86_2 4 0x8000 0 0) gives file_is 23 (file x86_2 4 0x8000 0 0) ∷
    eko_step lent2 2 1 false (file x86_2 0x9000 0x8000 0 0) gives file_is 27 (file x86_2 0x9000 0x8000 0 0) ∷
    eko_step lent2 1 1 false (ours aarch64_2) gives file_is 0 (file aarch64_2 0x8030 0x8020 0x4014 0x4014) ∷
    eko_step lent2 1 1 true (ours aarch64_2) gives file_is 25 (ours aarch64_2) ∷ []

-- `eko_handler`, `eko_handler2`: none has status 1
abbrev pub rows : List (Row RowFound)
rows =
    eko_handler lent1 0x1040 3 gives row 1 0 0 ∷
    eko_handler lent1 0x1040 4 gives row 0 0x24 0 ∷
    eko_handler lent1 0x1040 5 gives row 1 0 0 ∷
    eko_handler lent1 0x1040 8 gives row 0 0x28 1 ∷
    eko_handler lent1 0x1040 12 gives row 0 0 2 ∷
    eko_handler lent1 0x1040 16 gives row 18 0 0 ∷
    eko_handler lent1 0x1040 20 gives row 1 0 0 ∷
    eko_handler lent1 0x1074 4 gives row 27 0 0 ∷
    eko_handler2 lent2 0x103a 0x1048 3 gives row 1 0 0 ∷
    eko_handler2 lent2 0x103a 0x1048 4 gives row 0 0x24 0 ∷
    eko_handler2 lent2 0x103a 0x1048 5 gives row 1 0 0 ∷
    eko_handler2 lent2 0x103a 0x1048 8 gives row 0 0x28 1 ∷
    eko_handler2 lent2 0x103a 0x1048 12 gives row 0 0 2 ∷
    eko_handler2 lent2 0x103a 0x1048 16 gives row 18 0 0 ∷
    eko_handler2 lent2 0x103a 0x1048 20 gives row 1 0 0 ∷
    eko_handler2 lent2 0x103a 0x103a 4 gives row 30 0 0 ∷
    eko_handler2 lent2 0x2000 0x2001 4 gives row 27 0 0 ∷ []

-- a file at a pc, and the same at a landing pad for the exception 0xe0
abbrev pub at : Target → ℕ → List ℕ
at t pc = file t 0x8010 0x8000 0x7777 pc

abbrev pub landed : Target → ℕ → List ℕ
landed t pad = file_with t 0xe0 0 0x8010 0x8000 0x7777 pad

-- `eko_personality`: "Search: 8 for none or cleanup, 6 catch, 3 terminate. Cleanup phase: 8 none; 7 with register 0 the exception, 1 zero, pc
-- start + pad; 2 terminate"; a refusal has reason 0
abbrev pub reasons : Target → List (Row Decided)
reasons t =
    eko_personality (lending t 0 0) t.arch false 0xe0 false (rowed t) (at t 0x4015) gives decided 0 8 (at t 0x4015) ∷
    eko_personality (lending t 0 0) t.arch false 0xe0 false (rowed t) (at t 0x4014) gives decided 0 8 (at t 0x4014) ∷
    eko_personality (lending t 0 0) t.arch false 0xe0 false (rowed t) (at t 0x4018) gives decided 0 6 (at t 0x4018) ∷
    eko_personality (lending t 0 0) t.arch false 0xe0 false (rowed t) (at t 0x401c) gives decided 0 3 (at t 0x401c) ∷
    eko_personality (lending t 0 0) t.arch false 0xe0 false (rowed t) (at t 0x4020) gives decided 18 0 (at t 0x4020) ∷
    eko_personality (lending t 0 0) t.arch false 0xe0 true (rowed t) (at t 0x4018) gives decided 0 8 (at t 0x4018) ∷
    eko_personality (lending t 0 0) t.arch false 0xe0 false (plain t) (at t 0x4008) gives decided 0 8 (at t 0x4008) ∷
    eko_personality (lending t 0 0) t.arch true 0xe0 false (rowed t) (at t 0x4015) gives decided 0 8 (at t 0x4015) ∷
    eko_personality (lending t 0 0) t.arch true 0xe0 false (rowed t) (at t 0x4014) gives decided 0 7 (landed t 0x4034) ∷
    eko_personality (lending t 0 0) t.arch true 0xe0 false (rowed t) (at t 0x4018) gives decided 0 7 (landed t 0x4038) ∷
    eko_personality (lending t 0 0) t.arch true 0xe0 false (rowed t) (at t 0x401c) gives decided 0 2 (at t 0x401c) ∷
    eko_personality (lending t 0 0) t.arch true 0xe0 false (rowed t) (at t 0x4020) gives decided 18 0 (at t 0x4020) ∷
    eko_personality (lending t 0 0) t.arch true 0xe0 true (rowed t) (at t 0x4018) gives decided 0 8 (at t 0x4018) ∷ []

-- the rows are right
abbrev pub Structs : Type 0
Structs =
    Right stripped × Right gets × Right sets × Right lookups × Right ulebs × Right slots × Right saves × Right restores × Right ran ×
    Right applies × Right applies_full × Right steps × Right rows

abbrev pub Personalities : Target → Type 0
Personalities t = Right (reasons t)
