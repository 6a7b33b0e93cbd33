-- Sweep (document 01, "Walk, throw and call machine"): what a sweep call answers.
use Rattle.std.specs.Prelude.{Bool, true, false, List, [], ◌∷◌, ℕ, ◌+◌, ◌-◌, ◌^◌}
use Rattle.failure.specs.Outcome.{Outcome, Refused, Answer}
use Rattle.model.specs.Cleanup.{Cleaned, Install, Fatal, Finished, reason_of}
use Rattle.model.specs.Unwinding.{resume}
use Rattle.boundaries.specs.Row.{Row, ◌gives◌, Right}
use Rattle.boundaries.specs.Lending.{Target, lent_by, linked, lending, faulty, file_with, file, frame, exception, unwinding}

-- a sweep call at frame 0 with a pc, where fp is 0x8010 and sp 0x8000, and frames 1 and 2 have these pcs; then the chosen number and sp
abbrev pub sweep : Target → ℕ → ℕ → ℕ → ℕ → ℕ → Outcome Cleaned
sweep t pc first second chosenNumber chosenSp =
    resume (lent_by (lending t first second)) t.arch
    (unwinding 0 false (file t 0x8010 0x8000 0x7777 pc) true chosenNumber chosenSp)

-- of an interrupted frame 0
abbrev pub interrupted : Target → ℕ → ℕ → ℕ → ℕ → ℕ → Outcome Cleaned
interrupted t pc first second chosenNumber chosenSp =
    resume (lent_by (lending t first second)) t.arch
    (unwinding 0 true (file t 0x8010 0x8000 0x7777 pc) true chosenNumber chosenSp)

-- at a frame with a number
abbrev pub sweep_from : Target → ℕ → Bool → ℕ → ℕ → ℕ → Outcome Cleaned
sweep_from t number chosen pc chosenNumber chosenSp =
    resume (lent_by (lending t 0x4018 0x4018)) t.arch
    (unwinding number false (file t 0x8010 0x8000 0x7777 pc) chosen chosenNumber chosenSp)

-- the landing of the frame with this number at fp 0x8010 and sp 0x8000, whose caller has this pc: register 0 is the exception, 1 is 0; the
-- walk goes on from the frame's own file
abbrev pub lands : Target → ℕ → ℕ → ℕ → Outcome Cleaned
lands t number pad callerPc =
    Answer (Install number (file_with t exception 0 0x8010 0x8000 0x7777 pad)
    (frame (number + 1) false (file t 0x8030 0x8020 callerPc callerPc)))

-- the landing of frame 1, which has this pc, at a pad; frame 2 has this pc
abbrev pub lands_next : Target → ℕ → ℕ → ℕ → Outcome Cleaned
lands_next t pad pc callerPc =
    Answer (Install 1 (file_with t exception 0 0x8030 0x8020 pc pad)
    (frame 2 false (file t 0x8050 0x8040 callerPc callerPc)))

-- "each sweep call gives the next landing up to the chosen one"
abbrev pub landings : Target → List (Row (Outcome Cleaned))
landings t =
    -- a cleanup below the chosen one
    sweep t 0x4014 0x4018 0x4024 1 0x8020 gives lands t 0 0x4034 0x4018 ∷
    -- the chosen one
    sweep t 0x4018 0x4024 0x4024 0 0x8000 gives lands t 0 0x4038 0x4024 ∷
    -- frames without row and without table are passed over
    sweep t 0x4024 0x4014 0x4018 2 0x8040 gives lands_next t 0x4034 0x4014 0x4018 ∷
    sweep t 0x4008 0x4018 0x4024 1 0x8020 gives lands_next t 0x4038 0x4018 0x4024 ∷ []

-- "after which, or where none was chosen, it answers finished"
abbrev pub finished : Target → List (Row (Outcome Cleaned))
finished t =
    -- none was chosen: wherever the walk stands
    sweep_from t 0 false 0x4014 0 0 gives Answer Finished ∷
    sweep_from t 0 false 0x4018 5 0x8000 gives Answer Finished ∷
    sweep_from t 0 false 0 0 0 gives Answer Finished ∷
    sweep_from t 0 false 0x4020 0 0x8000 gives Answer Finished ∷
    sweep_from t 1024 false 0x4018 1024 0x8000 gives Answer Finished ∷
    -- past the chosen number, at it, below it
    sweep_from t 1 true 0x4018 0 0x8000 gives Answer Finished ∷
    sweep_from t 1 true 0x4018 1 0x8000 gives lands t 1 0x4038 0x4018 ∷
    sweep_from t 1 true 0x4014 2 0x8020 gives lands t 1 0x4034 0x4018 ∷
    sweep_from t 7 true 0 6 0x8000 gives Answer Finished ∷
    sweep_from t 7 true 0x4020 6 0x8000 gives Answer Finished ∷
    sweep_from t 7 true 0x4018 7 0x8000 gives lands t 7 0x4038 0x4018 ∷
    sweep_from t 1024 true 0x4018 1023 0x8000 gives Answer Finished ∷ []

-- "A catch below the chosen number .. 22"
abbrev pub catch_below : Target → List (Row (Outcome Cleaned))
catch_below t =
    sweep t 0x4018 0x4018 0x4018 1 0x8020 gives Refused 22 ∷
    sweep t 0x4018 0x4018 0x4018 1 0x8000 gives Refused 22 ∷
    sweep t 0x4024 0x4018 0x4018 2 0x8040 gives Refused 22 ∷
    sweep t 0x4018 0x4018 0x4018 (2 ^ 64 - 1) 0x8000 gives Refused 22 ∷ []

-- "the chosen one with another sp .. 22"
abbrev pub other_sp : Target → List (Row (Outcome Cleaned))
other_sp t =
    sweep t 0x4018 0x4018 0x4018 0 0x7fff gives Refused 22 ∷
    sweep t 0x4018 0x4018 0x4018 0 0x8000 gives lands t 0 0x4038 0x4018 ∷
    sweep t 0x4018 0x4018 0x4018 0 0x8001 gives Refused 22 ∷
    -- the caller's, none
    sweep t 0x4018 0x4018 0x4018 0 0x8020 gives Refused 22 ∷
    sweep t 0x4018 0x4018 0x4018 0 0 gives Refused 22 ∷
    sweep t 0x4024 0x4018 0x4018 1 0x801f gives Refused 22 ∷
    sweep t 0x4024 0x4018 0x4018 1 0x8020 gives lands_next t 0x4038 0x4018 0x4018 ∷
    sweep t 0x4024 0x4018 0x4018 1 0x8021 gives Refused 22 ∷ []

-- ".. or without catch .. 22": no row, no table, a cleanup row, a terminate row
abbrev pub without_catch : Target → List (Row (Outcome Cleaned))
without_catch t =
    sweep t 0x4024 0x4018 0x4018 0 0x8000 gives Refused 22 ∷
    sweep t 0x4008 0x4018 0x4018 0 0x8000 gives Refused 22 ∷
    sweep t 0x4014 0x4018 0x4018 0 0x8000 gives Refused 22 ∷
    sweep t 0x401c 0x4018 0x4018 0 0x8000 gives Refused 22 ∷
    -- with another sp too
    sweep t 0x4024 0x4018 0x4018 0 0x8001 gives Refused 22 ∷
    sweep t 0x4014 0x4018 0x4018 0 0x8001 gives Refused 22 ∷
    sweep t 0x401c 0x4018 0x4018 0 0x8001 gives Refused 22 ∷
    -- after a frame that is passed over
    sweep t 0x4024 0x4024 0x4018 1 0x8020 gives Refused 22 ∷
    sweep t 0x4024 0x4014 0x4018 1 0x8020 gives Refused 22 ∷
    sweep t 0x4024 0x401c 0x4018 1 0x8020 gives Refused 22 ∷ []

-- ".. or an end before it: 22": at pc 0, outside every record, after frame 2
abbrev pub end_before : Target → List (Row (Outcome Cleaned))
end_before t =
    sweep t 0 0x4018 0x4018 0 0x8000 gives Refused 22 ∷
    sweep t 0 0x4018 0x4018 1 0x8020 gives Refused 22 ∷
    sweep t 0x3000 0x4018 0x4018 0 0x8000 gives Refused 22 ∷
    sweep t 0x3000 0x4018 0x4018 1 0x8020 gives Refused 22 ∷
    sweep t 0x4024 0 0x4018 1 0x8020 gives Refused 22 ∷
    sweep t 0x4024 0x3000 0x4018 2 0x8040 gives Refused 22 ∷
    sweep t 0x4024 0x4024 0x4024 3 0x8060 gives Refused 22 ∷
    -- at number 1024 the end comes before 29
    sweep_from t 1024 true 0 1024 0x8000 gives Refused 22 ∷ []

-- "A terminate row below the chosen number answers 2"
abbrev pub terminates : Target → List (Row (Outcome Cleaned))
terminates t =
    sweep t 0x401c 0x4018 0x4018 1 0x8020 gives Answer Fatal ∷
    sweep t 0x4024 0x401c 0x4018 2 0x8040 gives Answer Fatal ∷
    sweep t 0x401c 0x4018 0x4018 (2 ^ 64 - 1) 0 gives Answer Fatal ∷ []

-- the reasons; finished has none
abbrev pub reasons : List (Row ℕ)
reasons =
    reason_of (Install 1 [] (frame 2 false [])) gives 7 ∷
    reason_of Fatal gives 2 ∷
    reason_of Finished gives 0 ∷ []

-- a sweep call at frame 0 where fp and sp are these
abbrev pub sweep_on : Target → ℕ → ℕ → ℕ → ℕ → ℕ → Outcome Cleaned
sweep_on t fp sp pc chosenNumber chosenSp =
    resume (lent_by (lending t 0x4018 0x4018)) t.arch
    (unwinding 0 false (file t fp sp 0x7777 pc) true chosenNumber chosenSp)

-- one where frame 0 is passed over and frame 1, whose sp is 0x8020, has this fp and pc
abbrev pub sweep_to : Target → ℕ → ℕ → ℕ → ℕ → Outcome Cleaned
sweep_to t link first chosenNumber chosenSp =
    resume (lent_by (linked t link first 0x4018)) t.arch
    (unwinding 0 false (file t 0x8010 0x8000 0x7777 0x4024) true chosenNumber chosenSp)

-- "22, after the refusals of that frame's step and row"
abbrev pub refusals_first : Target → List (Row (Outcome Cleaned))
refusals_first t =
    -- a row that is refused: below, at the chosen number, and there with another sp
    sweep t 0x4020 0x4018 0x4018 1 0x8020 gives Refused 18 ∷
    sweep t 0x4020 0x4018 0x4018 0 0x8000 gives Refused 18 ∷
    sweep t 0x4020 0x4018 0x4018 0 0x8001 gives Refused 18 ∷
    -- a step that is refused: beside such a row, a catch below, the chosen one with another sp, without catch, a terminate row
    sweep_on t 0x9000 0x8000 0x4020 0 0x8000 gives Refused 27 ∷
    sweep_on t 0x9000 0x8000 0x4018 1 0x8020 gives Refused 27 ∷
    sweep_on t 0x9000 0x8000 0x4018 0 0x8001 gives Refused 27 ∷
    sweep_on t 0x9000 0x8000 0x4024 0 0x8000 gives Refused 27 ∷
    sweep_on t 0x9000 0x8000 0x401c 1 0x8020 gives Refused 27 ∷
    sweep_on t 0x9000 0x8000 0x4014 1 0x8020 gives Refused 27 ∷
    -- 20 beside the same; where sp is equal frame 0 goes on
    sweep_on t 0x8010 0x8021 0x4020 0 0x8021 gives Refused 20 ∷
    sweep_on t 0x8010 0x8020 0x4020 0 0x8020 gives Refused 18 ∷
    sweep_on t 0x8010 0x8021 0x4018 1 0x8020 gives Refused 20 ∷
    sweep_on t 0x8010 0x8020 0x4018 1 0x8020 gives Refused 22 ∷
    sweep_on t 0x8010 0x8021 0x4018 0 0x8000 gives Refused 20 ∷
    sweep_on t 0x8010 0x8021 0x4018 0 0x8021 gives Refused 20 ∷
    sweep_on t 0x8010 0x8021 0x4024 0 0x8000 gives Refused 20 ∷
    sweep_on t 0x8010 0x8021 0x401c 1 0x8020 gives Refused 20 ∷
    -- frame 1: sp higher, equal, lower
    sweep_to t 0x8018 0x4020 1 0x8020 gives Refused 18 ∷
    sweep_to t 0x8010 0x4020 1 0x8020 gives Refused 20 ∷
    sweep_to t 0x8008 0x4020 1 0x8020 gives Refused 20 ∷
    sweep_to t 0x8018 0x4018 2 0x8020 gives Refused 22 ∷
    sweep_to t 0x8010 0x4018 2 0x8020 gives Refused 20 ∷
    sweep_to t 0x9000 0x4020 1 0x8020 gives Refused 27 ∷
    -- 29
    sweep_from t 1023 true 0x4018 1023 0x8000 gives lands t 1023 0x4038 0x4018 ∷
    sweep_from t 1024 true 0x4018 1024 0x8000 gives Refused 29 ∷
    sweep_from t 1024 true 0x4018 1025 0x8000 gives Refused 29 ∷
    sweep_from t 1024 true 0x3000 1024 0x8000 gives Refused 29 ∷
    -- lookup's
    resume (lent_by (faulty t)) t.arch (unwinding 0 false (file t 0x8010 0x8000 0x7777 0x4018) true 0 0x8000) gives Refused 17 ∷
    resume (lent_by (faulty t)) t.arch (unwinding 0 false (file t 0x8010 0x8000 0x7777 0) true 0 0x8000) gives Refused 22 ∷
    resume (lent_by (faulty t)) t.arch (unwinding 1 false (file t 0x8010 0x8000 0x7777 0x4018) true 0 0x8000) gives
    Answer Finished ∷ []

-- an interrupted frame has no row: below the chosen number it is passed over, at it that is 22. Of version 2
abbrev pub interrupts : Target → List (Row (Outcome Cleaned))
interrupts t =
    interrupted t 0x4014 0x4018 0x4024 1 0x8020 gives lands_next t 0x4038 0x4018 0x4024 ∷
    interrupted t 0x4018 0x4018 0x4024 1 0x8020 gives lands_next t 0x4038 0x4018 0x4024 ∷
    interrupted t 0x401c 0x4018 0x4024 1 0x8020 gives lands_next t 0x4038 0x4018 0x4024 ∷
    interrupted t 0x4020 0x4018 0x4024 1 0x8020 gives lands_next t 0x4038 0x4018 0x4024 ∷
    interrupted t 0x4018 0x4018 0x4024 0 0x8000 gives Refused 22 ∷
    interrupted t 0x4020 0x4018 0x4024 0 0x8000 gives Refused 22 ∷ []

-- the rows are right
abbrev pub Sweeps : Target → Type 0
Sweeps t =
    Right (landings t) × Right (finished t) × Right (catch_below t) × Right (other_sp t) × Right (without_catch t) × Right (end_before t) ×
    Right (terminates t) × Right (refusals_first t)

abbrev pub SweepsInterrupted : Target → Type 0
SweepsInterrupted t = Right (interrupts t)
