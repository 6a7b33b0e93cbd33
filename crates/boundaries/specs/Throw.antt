-- Throw (document 01, "Walk, throw and call machine"): what the search comes to.
use Rattle.std.specs.Prelude.{true, false, List, [], ◌∷◌, ℕ}
use Rattle.failure.specs.Outcome.{Outcome, Refused, Answer}
use Rattle.model.specs.Search.{Searched, Chosen, Stopped, Ended, reason_of}
use Rattle.model.specs.Unwinding.{raise}
use Rattle.boundaries.specs.Row.{Row, ◌gives◌, Right}
use Rattle.boundaries.specs.Lending.{Target, lent_by, linked, lending, faulty, file}

-- the throw at a pc, where fp is 0x8010 and sp 0x8000, and frames 1 and 2 have these pcs
abbrev pub throw : Target → ℕ → ℕ → ℕ → Outcome Searched
throw t at first second =
    raise (lent_by (lending t first second)) t.arch (file t 0x8010 0x8000 0x7777 0x9999) at false

-- an interrupt
abbrev pub interrupt : Target → ℕ → ℕ → ℕ → Outcome Searched
interrupt t at first second =
    raise (lent_by (lending t first second)) t.arch (file t 0x8010 0x8000 0x7777 0x9999) at true

-- "search each frame from number 0; 6 chooses its number and sp"
abbrev pub chooses : Target → List (Row (Outcome Searched))
chooses t =
    throw t 0x4018 0x4024 0x4024 gives Answer (Chosen 0 0x8000) ∷
    throw t 0x4024 0x4018 0x4024 gives Answer (Chosen 1 0x8020) ∷
    throw t 0x4024 0x4024 0x4018 gives Answer (Chosen 2 0x8040) ∷
    -- the first of several; a cleanup, or a frame without rows, before it
    throw t 0x4018 0x4018 0x4018 gives Answer (Chosen 0 0x8000) ∷
    throw t 0x4014 0x4018 0x4018 gives Answer (Chosen 1 0x8020) ∷
    throw t 0x4008 0x4014 0x4018 gives Answer (Chosen 2 0x8040) ∷ []

-- "3 stops"
abbrev pub stops : Target → List (Row (Outcome Searched))
stops t =
    throw t 0x401c 0x4018 0x4018 gives Answer Stopped ∷
    throw t 0x4024 0x401c 0x4018 gives Answer Stopped ∷
    throw t 0x4014 0x4024 0x401c gives Answer Stopped ∷
    throw t 0x4018 0x401c 0x401c gives Answer (Chosen 0 0x8000) ∷
    throw t 0x4024 0x4018 0x401c gives Answer (Chosen 1 0x8020) ∷ []

-- "the end answers 5"
abbrev pub ends : Target → List (Row (Outcome Searched))
ends t =
    throw t 0x4024 0x4024 0x4024 gives Answer Ended ∷
    throw t 0x4014 0x4014 0x4014 gives Answer Ended ∷
    throw t 0x4008 0x4008 0x4008 gives Answer Ended ∷
    -- one beside the row of a catch
    throw t 0x4017 0x4019 0x4024 gives Answer Ended ∷
    -- pc 0, and a pc outside every record: the frames after it are not searched
    throw t 0 0x4018 0x4018 gives Answer Ended ∷
    throw t 0x3000 0x4018 0x4018 gives Answer Ended ∷
    throw t 0x4024 0 0x4018 gives Answer Ended ∷
    throw t 0x4024 0x3000 0x4018 gives Answer Ended ∷ []

-- the reasons
abbrev pub reasons : List (Row ℕ)
reasons =
    reason_of (Chosen 1 0x8020) gives 6 ∷
    reason_of Stopped gives 3 ∷
    reason_of Ended gives 5 ∷ []

-- the throw at a pc where fp and sp are these
abbrev pub throw_on : Target → ℕ → ℕ → ℕ → Outcome Searched
throw_on t fp sp at = raise (lent_by (lending t 0x4018 0x4018)) t.arch (file t fp sp 0x7777 0x9999) at false

-- the throw at a pc where frame 1 has this fp and pc
abbrev pub throw_to : Target → ℕ → ℕ → ℕ → Outcome Searched
throw_to t at link first = raise (lent_by (linked t link first 0x4018)) t.arch (file t 0x8010 0x8000 0x7777 0x9999) at false

-- refusals: of a row, of a step, of lookup; a frame after the one that is chosen is not looked at
abbrev pub refusals : Target → List (Row (Outcome Searched))
refusals t =
    throw t 0x4020 0x4018 0x4018 gives Refused 18 ∷
    throw t 0x4024 0x4020 0x4018 gives Refused 18 ∷
    throw t 0x4018 0x4020 0x4020 gives Answer (Chosen 0 0x8000) ∷
    throw t 0x4024 0x4018 0x4020 gives Answer (Chosen 1 0x8020) ∷
    throw t 0x401c 0x4020 0x4020 gives Answer Stopped ∷
    throw_to t 0x4024 0x9000 0x4024 gives Refused 27 ∷
    throw_to t 0x4018 0x9000 0x4024 gives Answer (Chosen 0 0x8000) ∷
    raise (lent_by (faulty t)) t.arch (file t 0x8010 0x8000 0x7777 0x9999) 0x4018 false gives Refused 17 ∷
    raise (lent_by (faulty t)) t.arch (file t 0x8010 0x8000 0x7777 0x9999) 0 false gives Answer Ended ∷ []

-- "In throw and sweep a frame's whole step, caller registers and 20 included, comes before its row": the step's refusal beside a row that
-- is refused, that catches, that terminates
abbrev pub step_first : Target → List (Row (Outcome Searched))
step_first t =
    -- 23 and 27 of frame 0
    throw_on t 4 0x8000 0x4020 gives Refused 23 ∷
    throw_on t 0x9000 0x8000 0x4020 gives Refused 27 ∷
    throw_on t 0x9000 0x8000 0x4018 gives Refused 27 ∷
    throw_on t 0x9000 0x8000 0x401c gives Refused 27 ∷
    -- 20 of frame 0, where sp is equal and where it is lower
    throw_on t 0x8010 0x8020 0x4020 gives Refused 18 ∷
    throw_on t 0x8010 0x8021 0x4020 gives Refused 20 ∷
    throw_on t 0x8010 0x8020 0x4018 gives Answer (Chosen 0 0x8020) ∷
    throw_on t 0x8010 0x8021 0x4018 gives Refused 20 ∷
    throw_on t 0x8010 0x8021 0x401c gives Refused 20 ∷
    -- 23 and 27 of frame 1
    throw_to t 0x4024 4 0x4020 gives Refused 23 ∷
    throw_to t 0x4024 0x9000 0x4020 gives Refused 27 ∷
    throw_to t 0x4024 0x9000 0x4018 gives Refused 27 ∷
    -- 20 of frame 1, whose sp is 0x8020: higher, equal, lower
    throw_to t 0x4024 0x8018 0x4020 gives Refused 18 ∷
    throw_to t 0x4024 0x8010 0x4020 gives Refused 20 ∷
    throw_to t 0x4024 0x8008 0x4020 gives Refused 20 ∷
    throw_to t 0x4024 0x8018 0x4018 gives Answer (Chosen 1 0x8020) ∷
    throw_to t 0x4024 0x8010 0x4018 gives Refused 20 ∷
    throw_to t 0x4024 0x8008 0x4018 gives Refused 20 ∷ []

-- an interrupted frame has no row: whatever its table has for its pc, the frames after it are searched. Of version 2
abbrev pub interrupts : Target → List (Row (Outcome Searched))
interrupts t =
    interrupt t 0x4018 0x4024 0x4018 gives Answer (Chosen 2 0x8040) ∷
    interrupt t 0x4018 0x4024 0x4024 gives Answer Ended ∷
    interrupt t 0x401c 0x4018 0x4024 gives Answer (Chosen 1 0x8020) ∷
    interrupt t 0x4020 0x4018 0x4024 gives Answer (Chosen 1 0x8020) ∷
    -- frame 1 is not interrupted
    interrupt t 0x4018 0x4020 0x4018 gives Refused 18 ∷
    interrupt t 0x4018 0x401c 0x4018 gives Answer Stopped ∷
    interrupt t 0x4040 0x4018 0x4018 gives Answer Ended ∷ []

-- the rows are right
abbrev pub Throws : Target → Type 0
Throws t =
    Right (chooses t) × Right (stops t) × Right (ends t) × Right (refusals t) × Right (step_first t)

abbrev pub ThrowsInterrupted : Target → Type 0
ThrowsInterrupted t = Right (interrupts t)
