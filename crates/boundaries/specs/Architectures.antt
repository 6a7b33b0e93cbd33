-- "28 opening broken, architecture not 1 or 2": in every function that hosts call, and what it hands back.
use Rattle.std.specs.Prelude.{true, false, List, [], ◌∷◌, ◌++◌, ℕ, ◌+◌, ◌^◌}
use Rattle.model.specs.declared.Unwinding.{Unwinding}
use Rattle.failure.specs.Outcome.{Outcome, Refused, Answer}
use Rattle.model.specs.Search.{Searched, Chosen}
use Rattle.unwind.specs.declared.ResumeAnswer.{ResumeAnswer}
use Rattle.unwind.specs.declared.ResumeAnswer.TheVariants as resume
use Rattle.unwind.specs.Answers.{Called}
use Rattle.answers.specs.declared.Number.{Number}
use Rattle.answers.specs.declared.File.{File}
use Rattle.answers.specs.declared.Function.{Function}
use Rattle.answers.specs.declared.Read.{Read}
use Rattle.answers.specs.declared.Changed.{Changed}
use Rattle.answers.specs.declared.Ended.{Ended}
use Rattle.answers.specs.declared.Decided.{Decided}
use Rattle.answers.specs.declared.Stepped.{Stepped}
use Rattle.answers.specs.declared.Batch.{Batch}
use Rattle.answers.specs.declared.Raised.{Raised}
use Rattle.answers.specs.declared.Resumed.{Resumed}
use Rattle.answers.specs.declared.RowFound.{RowFound}
use Rattle.boundaries.specs.Row.{Row, ◌gives◌, Right}
use Rattle.boundaries.specs.Lending.{Target, x86_1, Lending, based, lending, rowed, file_with, file, unwinding}
use Rattle.boundaries.specs.Structs.{number, file_is, function, read, changed, ended, row, decided, stepped, batch, raised, resumed, no_record, frames, state}
use Rattle.boundaries.specs.Functions.{eko_strip_pac, eko_get, eko_fp, eko_sp, eko_set, eko_set_sp, eko_lookup, eko_read_uleb, eko_entry, eko_restore, eko_run, eko_apply, eko_step, eko_handler, eko_handler2, eko_personality, eko_next_frame, eko_walk, eko_raise, eko_resume, unwind}

-- architectures 0, 1, 2, 3 and 255: one answer for those that are not known, and one for each of the others
abbrev pub by_architecture : {A : Type 0} → (ℕ → A) → A → A → A → List (Row A)
by_architecture f refused one two =
    f 0 gives refused ∷ f 1 gives one ∷ f 2 gives two ∷ f 3 gives refused ∷ f 255 gives refused ∷ []

-- an opening that is broken, in the section's base, in the stack's, by shared addresses (all of them, then one), and one that is not
abbrev pub by_opening : {A : Type 0} → (Lending → A) → Lending → A → A → List (Row A)
by_opening f g refused accepted =
    f (based 0 0x8000 g) gives refused ∷
    f (based (2 ^ 62 + 1) 0x8000 g) gives refused ∷
    f (based 0x1000 0 g) gives refused ∷
    f (based 0x1000 (2 ^ 62 + 1) g) gives refused ∷
    f (based 0x1000 0x1000 g) gives refused ∷
    f (based 0x1000 0xfa1 g) gives refused ∷
    f g gives accepted ∷ []

-- the tables of version 2 of an architecture; those that are not known have the files of x86-64 here
abbrev pub version2 : ℕ → Target
version2 arch = record { arch = arch; version = 2 }

-- a file at a pc with fp 0x8010 and sp 0x8000, that of its caller, and that of an architecture which is not known
abbrev pub at : ℕ → ℕ → List ℕ
at arch pc = file (version2 arch) 0x8010 0x8000 0x7777 pc

abbrev pub first : ℕ → ℕ → List ℕ
first arch pc = file (version2 arch) 0x8030 0x8020 pc pc

abbrev pub given : List ℕ
given = at 3 0x4014

-- what is lent: frame 1 catches, and frame 2
abbrev pub lent_to : ℕ → Lending
lent_to arch = lending (version2 arch) 0x4018 0x4018

abbrev pub lent_version1 : Lending
lent_version1 = lending x86_1 0x4018 0x4018

-- numbers
abbrev pub numbers : List (Row Number)
numbers =
    by_architecture (λ arch. eko_strip_pac arch (2 ^ 48 + 5)) (number 28 0) (number 0 5) (number 0 (2 ^ 48 + 5)) ++
    by_architecture (λ arch. eko_get arch (at arch 0x4014) 0) (number 28 0) (number 0 100) (number 0 100) ++
    -- 28 before 11
    by_architecture (λ arch. eko_get arch (at arch 0x4014) 80) (number 28 0) (number 11 0) (number 11 0) ++
    by_architecture (λ arch. eko_fp arch (at arch 0x4014)) (number 28 0) (number 0 0x8010) (number 0 0x8010) ++
    by_architecture (λ arch. eko_sp arch (at arch 0x4014)) (number 28 0) (number 0 0x8000) (number 0 0x8000)

-- register files: that which came in is handed back
abbrev pub sets : List (Row File)
sets =
    by_architecture (λ arch. eko_set arch (at arch 0x4014) 0 7) (file_is 28 given)
    (file_is 0 (file_with (version2 1) 7 101 0x8010 0x8000 0x7777 0x4014))
    (file_is 0 (file_with (version2 2) 7 101 0x8010 0x8000 0x7777 0x4014)) ++
    by_architecture (λ arch. eko_set arch (at arch 0x4014) 80 7) (file_is 28 given) (file_is 11 (at 1 0x4014)) (file_is 11 (at 2 0x4014)) ++
    by_architecture (λ arch. eko_set_sp arch (at arch 0x4014) 7) (file_is 28 given)
    (file_is 0 (file (version2 1) 0x8010 7 0x7777 0x4014))
    (file_is 0 (file (version2 2) 0x8010 7 0x7777 0x4014))

-- lookup
abbrev pub lookups : List (Row Function)
lookups =
    by_architecture (λ arch. eko_lookup (lent_to arch) arch 0x4014) (function 28 no_record)
    (function 0 (rowed (version2 1))) (function 0 (rowed (version2 2))) ++
    by_architecture (λ arch. eko_lookup (lent_to arch) arch 0x3000) (function 28 no_record) (function 1 no_record) (function 1 no_record) ++
    by_opening (λ g. eko_lookup g 2 0x4014) (lent_to 2) (function 28 no_record) (function 0 (rowed (version2 2)))

-- numbers of what is lent
abbrev pub ulebs : List (Row Read)
ulebs = by_opening (λ g. eko_read_uleb g 0x103c 0x1048) (lent_to 2) (read 28 0 0) (read 0 144 0x103e)

-- states: for `eko_entry` and `eko_run` the entry state of x86-64 is handed back, for `eko_restore` that which came in
abbrev pub changes : List (Row Changed)
changes =
    by_architecture eko_entry (changed 28 (state false 1 1 (16 ∷ []) (1 ∷ [])))
    (changed 0 (state false 0 0 [] [])) (changed 0 (state false 1 1 (16 ∷ []) (1 ∷ []))) ++
    by_architecture (λ arch. eko_restore arch (state true 9 2 (16 ∷ 3 ∷ []) (5 ∷ 6 ∷ [])) 3)
    (changed 28 (state true 9 2 (16 ∷ 3 ∷ []) (5 ∷ 6 ∷ [])))
    (changed 0 (state true 9 1 (16 ∷ 3 ∷ []) (5 ∷ 6 ∷ []))) (changed 0 (state true 9 1 (16 ∷ 3 ∷ []) (5 ∷ 6 ∷ [])))

abbrev pub ran : List (Row Ended)
ran =
    by_architecture (λ arch. eko_run (lent_to arch) arch 0x1034 0x1048 0) (ended 28 (state false 1 1 (16 ∷ []) (1 ∷ [])) 0)
    (ended 0 (state true 2 2 (29 ∷ 30 ∷ []) (2 ∷ 1 ∷ [])) 0x1036) (ended 0 (state true 2 2 (16 ∷ 6 ∷ []) (1 ∷ 2 ∷ [])) 0x1036) ++
    by_opening (λ g. eko_run g 2 0x1034 0x1048 0) (lent_to 2) (ended 28 (state false 1 1 (16 ∷ []) (1 ∷ [])) 0)
    (ended 0 (state true 2 2 (16 ∷ 6 ∷ []) (1 ∷ 2 ∷ [])) 0x1036) ++
    -- of aarch64 the entry state of aarch64
    by_opening (λ g. eko_run g 1 0 0 0) (lent_to 1) (ended 28 (state false 0 0 [] []) 0) (ended 0 (state false 0 0 [] []) 0)

-- caller registers; without pairs the return address is still in register 30, or pc
abbrev pub frame_steps : List (Row File)
frame_steps =
    by_architecture (λ arch. eko_apply (lent_to arch) arch (state false 4 0 [] []) (at arch 0x4014)) (file_is 28 given)
    (file_is 0 (file (version2 1) 0x8010 0x8020 0x7777 0x7777)) (file_is 0 (file (version2 2) 0x8010 0x8020 0x7777 0x4014)) ++
    by_opening (λ g. eko_apply g 2 (state true 2 2 (16 ∷ 6 ∷ []) (1 ∷ 2 ∷ [])) (at 2 0x4014)) (lent_to 2) (file_is 28 (at 2 0x4014))
    (file_is 0 (first 2 0x4018)) ++
    by_architecture (λ arch. eko_step (lent_to arch) arch 1 false (at arch 0x4014)) (file_is 28 given)
    (file_is 0 (first 1 0x4018)) (file_is 0 (first 2 0x4018)) ++
    -- 28 before 18
    by_architecture (λ arch. eko_step (lent_to arch) arch 3 false (at arch 0x4014)) (file_is 28 given)
    (file_is 18 (at 1 0x4014)) (file_is 18 (at 2 0x4014)) ++
    by_opening (λ g. eko_step g 2 1 false (at 2 0x4014)) (lent_to 2) (file_is 28 (at 2 0x4014)) (file_is 0 (first 2 0x4018))

-- rows and reasons
abbrev pub rows : List (Row RowFound)
rows =
    by_opening (λ g. eko_handler g 0x1040 4) lent_version1 (row 28 0 0) (row 0 0x24 0) ++
    by_opening (λ g. eko_handler2 g 0x103a 0x1048 4) (lent_to 2) (row 28 0 0) (row 0 0x24 0)

abbrev pub reasons : List (Row Decided)
reasons =
    by_architecture (λ arch. eko_personality (lent_to arch) arch true 0xe0 false (rowed (version2 arch)) (at arch 0x4014))
    (decided 28 0 given)
    (decided 0 7 (file_with (version2 1) 0xe0 0 0x8010 0x8000 0x7777 0x4034))
    (decided 0 7 (file_with (version2 2) 0xe0 0 0x8010 0x8000 0x7777 0x4034)) ++
    -- also where there is no row to look for
    by_architecture (λ arch. eko_personality (lent_to arch) arch false 0xe0 true (rowed (version2 arch)) (at arch 0x4014))
    (decided 28 0 given) (decided 0 8 (at 1 0x4014)) (decided 0 8 (at 2 0x4014)) ++
    by_opening (λ g. eko_personality g 2 false 0xe0 false (rowed (version2 2)) (at 2 0x4018)) (lent_to 2)
    (decided 28 0 (at 2 0x4018)) (decided 0 6 (at 2 0x4018))

-- walk: the frame that came in is handed back, also where the walk would end
abbrev pub next_frames : List (Row Stepped)
next_frames =
    by_architecture (λ arch. eko_next_frame (lent_to arch) arch 5 false (at arch 0x4014)) (stepped 28 no_record 5 false given)
    (stepped 0 (rowed (version2 1)) 6 false (first 1 0x4018)) (stepped 0 (rowed (version2 2)) 6 false (first 2 0x4018)) ++
    by_architecture (λ arch. eko_next_frame (lent_to arch) arch 5 true (at arch 0)) (stepped 28 no_record 5 true (at 3 0))
    (stepped 1 no_record 5 true (at 1 0)) (stepped 1 no_record 5 true (at 2 0)) ++
    -- 28 before 29
    by_architecture (λ arch. eko_next_frame (lent_to arch) arch 1024 false (at arch 0x4014)) (stepped 28 no_record 1024 false given)
    (stepped 29 no_record 1024 false (at 1 0x4014)) (stepped 29 no_record 1024 false (at 2 0x4014)) ++
    by_opening (λ g. eko_next_frame g 2 5 false (at 2 0x4014)) (lent_to 2) (stepped 28 no_record 5 false (at 2 0x4014))
    (stepped 0 (rowed (version2 2)) 6 false (first 2 0x4018)) ++
    by_opening (λ g. eko_next_frame g 2 5 false (at 2 0)) (lent_to 2) (stepped 28 no_record 5 false (at 2 0)) (stepped 1 no_record 5 false (at 2 0))

abbrev pub walks : List (Row Batch)
walks =
    by_architecture (λ arch. eko_walk (lending (version2 arch) 0 0) arch 5 false (at arch 0x4014)) (batch 28 (frames 0 [] [] []) 5 false given)
    (batch 1 (frames 1 (0x4010 ∷ []) (0x4014 ∷ []) (0x8000 ∷ [])) 5 false (at 1 0x4014))
    (batch 1 (frames 1 (0x4010 ∷ []) (0x4014 ∷ []) (0x8000 ∷ [])) 5 false (at 2 0x4014)) ++
    by_architecture (λ arch. eko_walk (lent_to arch) arch 5 true (at arch 0)) (batch 28 (frames 0 [] [] []) 5 true (at 3 0))
    (batch 1 (frames 0 [] [] []) 5 true (at 1 0)) (batch 1 (frames 0 [] [] []) 5 true (at 2 0)) ++
    by_opening (λ g. eko_walk g 2 5 false (at 2 0)) (lent_to 2) (batch 28 (frames 0 [] [] []) 5 false (at 2 0))
    (batch 1 (frames 0 [] [] []) 5 false (at 2 0))

-- throw: where it is refused the file is the one that came in
abbrev pub raises : List (Row Raised)
raises =
    by_architecture (λ arch. eko_raise (lent_to arch) arch (at arch 0x9999) 0x4014 false 0xe0)
    (raised 28 0 0 0 (unwinding 0 false (at 3 0x9999) false 0 0))
    (raised 0 6 1 0x8020 (unwinding 0 false (at 1 0x4014) true 1 0x8020))
    (raised 0 6 1 0x8020 (unwinding 0 false (at 2 0x4014) true 1 0x8020)) ++
    by_architecture (λ arch. eko_raise (lent_to arch) arch (at arch 0) 0 true 0xe0)
    (raised 28 0 0 0 (unwinding 0 true (at 3 0) false 0 0))
    (raised 0 5 0 0 (unwinding 0 true (at 1 0) false 0 0))
    (raised 0 5 0 0 (unwinding 0 true (at 2 0) false 0 0)) ++
    by_opening (λ g. eko_raise g 2 (at 2 0x9999) 0x4018 false 0xe0) (lent_to 2)
    (raised 28 0 0 0 (unwinding 0 false (at 2 0x9999) false 0 0))
    (raised 0 6 0 0x8000 (unwinding 0 false (at 2 0x4018) true 0 0x8000))

-- sweep: also where it would be finished
abbrev pub resumes : List (Row Resumed)
resumes =
    by_architecture (λ arch. eko_resume (lent_to arch) arch (unwinding 0 false (at arch 0x4014) true 1 0x8020))
    (resumed 28 0 0 given (unwinding 0 false given true 1 0x8020))
    (resumed 0 7 0 (file_with (version2 1) 0xe0 0 0x8010 0x8000 0x7777 0x4034) (unwinding 1 false (first 1 0x4018) true 1 0x8020))
    (resumed 0 7 0 (file_with (version2 2) 0xe0 0 0x8010 0x8000 0x7777 0x4034) (unwinding 1 false (first 2 0x4018) true 1 0x8020)) ++
    by_architecture (λ arch. eko_resume (lent_to arch) arch (unwinding 7 true (at arch 0x4014) false 0 0))
    (resumed 28 0 0 given (unwinding 7 true given false 0 0))
    (resumed 1 0 0 (at 1 0x4014) (unwinding 7 true (at 1 0x4014) false 0 0))
    (resumed 1 0 0 (at 2 0x4014) (unwinding 7 true (at 2 0x4014) false 0 0)) ++
    by_opening (λ g. eko_resume g 2 (unwinding 0 false (at 2 0x4014) true 1 0x8020)) (lent_to 2)
    (resumed 28 0 0 (at 2 0x4014) (unwinding 0 false (at 2 0x4014) true 1 0x8020))
    (resumed 0 7 0 (file_with (version2 2) 0xe0 0 0x8010 0x8000 0x7777 0x4034) (unwinding 1 false (first 2 0x4018) true 1 0x8020)) ++
    by_opening (λ g. eko_resume g 2 (unwinding 7 true (at 2 0x4014) false 0 0)) (lent_to 2)
    (resumed 28 0 0 (at 2 0x4014) (unwinding 7 true (at 2 0x4014) false 0 0))
    (resumed 1 0 0 (at 2 0x4014) (unwinding 7 true (at 2 0x4014) false 0 0))

-- a throw and a sweep call
abbrev pub unwound : Outcome Searched → Outcome ResumeAnswer → List ℕ → Unwinding → Called
unwound r answer file u = record { raised = r; resumed = record { answer = answer; state = record { file = file; unwinding = u } } }

-- `unwind`: frame 0 catches, and its landing is due; then the sweep is finished
abbrev pub unwinds : List (Row Called)
unwinds =
    by_architecture (λ arch. unwind (lent_to arch) arch (at arch 0x4018) 0x4018 false 0xe0 0)
    (unwound (Refused 28) (Refused 28) (at 3 0x4018) (unwinding 0 false (at 3 0x4018) false 0 0))
    (unwound (Answer (Chosen 0 0x8000)) (Answer (resume.Install 0)) (file_with (version2 1) 0xe0 0 0x8010 0x8000 0x7777 0x4038)
    (unwinding 1 false (first 1 0x4018) true 0 0x8000))
    (unwound (Answer (Chosen 0 0x8000)) (Answer (resume.Install 0)) (file_with (version2 2) 0xe0 0 0x8010 0x8000 0x7777 0x4038)
    (unwinding 1 false (first 2 0x4018) true 0 0x8000)) ++
    by_opening (λ g. unwind g 2 (at 2 0x4018) 0x4018 false 0xe0 0) (lent_to 2)
    (unwound (Refused 28) (Refused 28) (at 2 0x4018) (unwinding 0 false (at 2 0x4018) false 0 0))
    (unwound (Answer (Chosen 0 0x8000)) (Answer (resume.Install 0)) (file_with (version2 2) 0xe0 0 0x8010 0x8000 0x7777 0x4038)
    (unwinding 1 false (first 2 0x4018) true 0 0x8000))

abbrev pub unwinds_next : List (Row Called)
unwinds_next =
    by_architecture (λ arch. unwind (lent_to arch) arch (at arch 0x4018) 0x4018 false 0xe0 1)
    (unwound (Refused 28) (Refused 28) (at 3 0x4018) (unwinding 0 false (at 3 0x4018) false 0 0))
    (unwound (Answer (Chosen 0 0x8000)) (Answer resume.Finished) (first 1 0x4018) (unwinding 1 false (first 1 0x4018) true 0 0x8000))
    (unwound (Answer (Chosen 0 0x8000)) (Answer resume.Finished) (first 2 0x4018) (unwinding 1 false (first 2 0x4018) true 0 0x8000))

-- the rows are right
abbrev pub Refused28 : Type 0
Refused28 =
    Right numbers × Right sets × Right lookups × Right ulebs × Right changes × Right ran × Right frame_steps × Right rows ×
    Right reasons × Right next_frames × Right walks × Right raises × Right resumes × Right unwinds × Right unwinds_next
