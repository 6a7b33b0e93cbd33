-- The C interface of walk, throw and sweep: what each struct holds, and what is handed back, field by field.
use Rattle.std.specs.Prelude.{Bool, true, false, List, [], ◌∷◌, ℕ}
use Rattle.model.specs.declared.Unwinding.{Unwinding}
use Rattle.answers.specs.declared.Stepped.{Stepped}
use Rattle.answers.specs.declared.Batch.{Batch}
use Rattle.answers.specs.declared.Raised.{Raised}
use Rattle.answers.specs.declared.Resumed.{Resumed}
use Rattle.boundaries.specs.Row.{Row, ◌gives◌, Right}
use Rattle.boundaries.specs.Lending.{Target, based, lending, faulty, plain, file_with, file, unwinding}
use Rattle.boundaries.specs.Structs.{stepped, batch, raised, resumed, no_record, frames}
use Rattle.boundaries.specs.Functions.{eko_next_frame, eko_walk, eko_raise, eko_resume}

-- a file at a pc, with fp 0x8010 and sp 0x8000; those of frames 1, 2 and after them
abbrev pub at : Target → ℕ → List ℕ
at t pc = file t 0x8010 0x8000 0x7777 pc

abbrev pub first : Target → ℕ → List ℕ
first t pc = file t 0x8030 0x8020 pc pc

abbrev pub second : Target → ℕ → List ℕ
second t pc = file t 0x8050 0x8040 pc pc

-- `eko_next_frame`: past the frame its record and the caller; at the end and for a refusal no record, and the frame that came in
abbrev pub next_frames : Target → List (Row Stepped)
next_frames t =
    eko_next_frame (lending t 0x4014 0x4018) t.arch 5 false (at t 0x4008) gives stepped 0 (plain t) 6 false (first t 0x4014) ∷
    -- the end
    eko_next_frame (lending t 0x4014 0x4018) t.arch 5 false (at t 0) gives stepped 1 no_record 5 false (at t 0) ∷
    eko_next_frame (lending t 0x4014 0x4018) t.arch 0 true (at t 0) gives stepped 1 no_record 0 true (at t 0) ∷
    eko_next_frame (lending t 0x4014 0x4018) t.arch 7 true (at t 0x3000) gives stepped 1 no_record 7 true (at t 0x3000) ∷
    eko_next_frame (lending t 0x4014 0x4018) t.arch 1024 false (at t 0) gives stepped 1 no_record 1024 false (at t 0) ∷
    -- refusals
    eko_next_frame (lending t 0x4014 0x4018) t.arch 1024 true (at t 0x4008) gives stepped 29 no_record 1024 true (at t 0x4008) ∷
    eko_next_frame (faulty t) t.arch 7 false (at t 0x4008) gives stepped 17 no_record 7 false (at t 0x4008) ∷
    eko_next_frame (lending t 0x4014 0x4018) t.arch 7 false (file t 4 0x8000 0 0x4008) gives
    stepped 23 no_record 7 false (file t 4 0x8000 0 0x4008) ∷
    eko_next_frame (lending t 0x4014 0x4018) t.arch 7 false (file t 0x8010 0x8020 0 0x4008) gives
    stepped 20 no_record 7 false (file t 0x8010 0x8020 0 0x4008) ∷ []

-- `eko_walk`: frames 0 to 2, then the end; at the end and for a refusal the frames so far, and the frame that came in
abbrev pub walks : Target → List (Row Batch)
walks t =
    eko_walk (lending t 0x4014 0x4018) t.arch 0 false (at t 0x4008) gives
    batch 1 (frames 3 (0x4000 ∷ 0x4010 ∷ 0x4010 ∷ []) (0x4008 ∷ 0x4014 ∷ 0x4018 ∷ []) (0x8000 ∷ 0x8020 ∷ 0x8040 ∷ []))
    0 false (at t 0x4008) ∷
    eko_walk (lending t 0x4014 0x4018) t.arch 7 true (at t 0) gives batch 1 (frames 0 [] [] []) 7 true (at t 0) ∷
    eko_walk (lending t 0x4014 0x3000) t.arch 9 false (at t 0x4008) gives
    batch 1 (frames 2 (0x4000 ∷ 0x4010 ∷ []) (0x4008 ∷ 0x4014 ∷ []) (0x8000 ∷ 0x8020 ∷ [])) 9 false (at t 0x4008) ∷
    -- rows are not asked for
    eko_walk (lending t 0x4020 0) t.arch 9 false (at t 0x4020) gives
    batch 1 (frames 2 (0x4010 ∷ 0x4010 ∷ []) (0x4020 ∷ 0x4020 ∷ []) (0x8000 ∷ 0x8020 ∷ [])) 9 false (at t 0x4020) ∷
    -- refusals
    eko_walk (lending t 0x4014 0x4018) t.arch 1023 false (at t 0x4008) gives
    batch 29 (frames 1 (0x4000 ∷ []) (0x4008 ∷ []) (0x8000 ∷ [])) 1023 false (at t 0x4008) ∷
    eko_walk (lending t 0x4014 0x4018) t.arch 1024 true (at t 0x4008) gives batch 29 (frames 0 [] [] []) 1024 true (at t 0x4008) ∷
    eko_walk (lending t 0 0x4018) t.arch 1023 false (at t 0x4008) gives
    batch 1 (frames 1 (0x4000 ∷ []) (0x4008 ∷ []) (0x8000 ∷ [])) 1023 false (at t 0x4008) ∷
    eko_walk (lending t 0x4014 0x4018) t.arch 1 false (file t 0x8010 0x8020 0 0x4008) gives
    batch 20 (frames 0 [] [] []) 1 false (file t 0x8010 0x8020 0 0x4008) ∷ []

-- the unwinding at frame 0 that a throw hands back, where nothing is chosen; where a frame is
abbrev pub unchosen : Bool → List ℕ → Unwinding
unchosen interrupted file = unwinding 0 interrupted file false 0 0

abbrev pub choosing : Bool → List ℕ → ℕ → ℕ → Unwinding
choosing interrupted file number sp = unwinding 0 interrupted file true number sp

-- `eko_raise`: 6 with the chosen number and sp, 3 and 5 with 0 for both; the unwinding is at frame 0, whose pc is the throw's
abbrev pub raises : Target → List (Row Raised)
raises t =
    eko_raise (lending t 0x4018 0x4018) t.arch (at t 0x9999) 0x4014 false 0xe0 gives
    raised 0 6 1 0x8020 (choosing false (at t 0x4014) 1 0x8020) ∷
    eko_raise (lending t 0x4018 0x4018) t.arch (at t 0x9999) 0x4018 false 0xe0 gives
    raised 0 6 0 0x8000 (choosing false (at t 0x4018) 0 0x8000) ∷
    eko_raise (lending t 0x401c 0x4018) t.arch (at t 0x9999) 0x4014 false 0xe0 gives raised 0 3 0 0 (unchosen false (at t 0x4014)) ∷
    eko_raise (lending t 0x4024 0x4024) t.arch (at t 0x9999) 0x4014 false 0xe0 gives raised 0 5 0 0 (unchosen false (at t 0x4014)) ∷
    eko_raise (lending t 0x4018 0x4018) t.arch (at t 0x9999) 0 true 0xe0 gives raised 0 5 0 0 (unchosen true (at t 0)) ∷
    -- refusals: reason, number and sp are 0, and the file is the one that came in, its own pc in it
    eko_raise (lending t 0x4020 0x4018) t.arch (at t 0x9999) 0x4014 false 0xe0 gives raised 18 0 0 0 (unchosen false (at t 0x9999)) ∷
    eko_raise (faulty t) t.arch (at t 0x9999) 0x4014 true 0xe0 gives raised 17 0 0 0 (unchosen true (at t 0x9999)) ∷
    eko_raise (based 0 0x8000 (lending t 0x4018 0x4018)) t.arch (at t 9) 5 false 0xe0 gives
    raised 28 0 0 0 (unchosen false (at t 9)) ∷ []

-- `eko_resume`: a landing has reason 7, its number and file, and the unwinding is past its frame; for 2, finished and refusals the file and
-- the unwinding are those that came in
abbrev pub resumes : Target → List (Row Resumed)
resumes t =
    eko_resume (lending t 0x4018 0x4024) t.arch (choosing false (at t 0x4014) 1 0x8020) gives
    resumed 0 7 0 (file_with t 0xe0 0 0x8010 0x8000 0x7777 0x4034) (unwinding 1 false (first t 0x4018) true 1 0x8020) ∷
    eko_resume (lending t 0x4018 0x4024) t.arch (choosing false (at t 0x4024) 1 0x8020) gives
    resumed 0 7 1 (file_with t 0xe0 0 0x8030 0x8020 0x4018 0x4038) (unwinding 2 false (second t 0x4024) true 1 0x8020) ∷
    eko_resume (lending t 0x4018 0x4024) t.arch (choosing false (at t 0x401c) 1 0x8020) gives
    resumed 0 2 0 (at t 0x401c) (choosing false (at t 0x401c) 1 0x8020) ∷
    eko_resume (lending t 0x401c 0x4024) t.arch (choosing false (at t 0x4024) 2 0x8040) gives
    resumed 0 2 0 (at t 0x4024) (choosing false (at t 0x4024) 2 0x8040) ∷
    -- finished: status 1, reason 0
    eko_resume (lending t 0x4018 0x4024) t.arch (unchosen true (at t 0x4014)) gives
    resumed 1 0 0 (at t 0x4014) (unchosen true (at t 0x4014)) ∷
    eko_resume (lending t 0x4018 0x4024) t.arch (unwinding 2 false (second t 0x4014) true 1 0x8020) gives
    resumed 1 0 0 (second t 0x4014) (unwinding 2 false (second t 0x4014) true 1 0x8020) ∷
    -- refusals: 22 of frame 0 and of frame 1, 18 of frame 1, 20, 29
    eko_resume (lending t 0x4018 0x4024) t.arch (choosing false (at t 0x4018) 1 0x8020) gives
    resumed 22 0 0 (at t 0x4018) (choosing false (at t 0x4018) 1 0x8020) ∷
    eko_resume (lending t 0x4018 0x4024) t.arch (choosing false (at t 0x4024) 1 0x8021) gives
    resumed 22 0 0 (at t 0x4024) (choosing false (at t 0x4024) 1 0x8021) ∷
    eko_resume (lending t 0x4020 0x4024) t.arch (choosing false (at t 0x4024) 1 0x8020) gives
    resumed 18 0 0 (at t 0x4024) (choosing false (at t 0x4024) 1 0x8020) ∷
    eko_resume (lending t 0x4018 0x4024) t.arch (choosing false (file t 0x8010 0x8021 0 0x4018) 0 0x8021) gives
    resumed 20 0 0 (file t 0x8010 0x8021 0 0x4018) (choosing false (file t 0x8010 0x8021 0 0x4018) 0 0x8021) ∷
    eko_resume (lending t 0x4018 0x4024) t.arch (unwinding 1024 true (at t 0x4018) true 1024 0x8000) gives
    resumed 29 0 0 (at t 0x4018) (unwinding 1024 true (at t 0x4018) true 1024 0x8000) ∷ []

-- the rows are right
abbrev pub Calls : Target → Type 0
Calls t =
    Right (next_frames t) × Right (walks t) × Right (raises t) × Right (resumes t)
