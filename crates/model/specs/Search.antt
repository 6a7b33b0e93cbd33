-- The search phase of a throw (document 01, "Walk, throw and call machine").
use Rattle.std.specs.Prelude.{List, [], ◌∷◌, ℕ, zero, suc, eqb, if◌then◌else◌}
use Rattle.failure.specs.Outcome.{Outcome, Refused, Answer, ◌>>=◌}
use Rattle.failure.specs.Failure.{TooManyFrames}
use Rattle.mem.specs.Memory.{Lent}
use Rattle.arch.specs.Arch.{Arch, numbers}
use Rattle.arch.specs.File.{sp, pc}
use Rattle.rows.specs.Row.{Found, None, Pad}
use Rattle.personality.specs.Reason.{row_of, handler_found, fatal_phase1, continue_unwind, searched_code}
use Rattle.model.specs.FrameStep.{Frame, Step, End, Past, frame_step}

-- what the search comes to: 6 chooses a frame by its number and sp, 3 stops it, and the end answers 5
pub data Searched : Type 0 where
  Chosen : (number sp : ℕ) → Searched
  Stopped Ended : Searched

-- the end of the stack (Itanium C++ ABI: _URC_END_OF_STACK)
abbrev pub end_of_stack : ℕ
end_of_stack = 5

-- document 01's number for each case
abbrev pub reason_of : Searched → ℕ
reason_of (Chosen number sp) = handler_found
reason_of Stopped = fatal_phase1
reason_of Ended = end_of_stack

-- an answer as document 01 gives it: its number, and the values that go with it
pub record Coded : Type 0 where
  pub code : ℕ
  pub values : List ℕ

-- by both
abbrev pub coded : ℕ → List ℕ → Coded
coded code values = record { code = code; values = values }

-- the chosen frame's number and sp go with 6, nothing with 3 and 5
abbrev pub values_of : Searched → List ℕ
values_of (Chosen number sp) = number ∷ sp ∷ []
values_of Stopped = []
values_of Ended = []

-- document 01's number and values for each case
abbrev pub told : Searched → Coded
told x = coded (reason_of x) (values_of x)

-- the same of what a throw comes to
abbrev pub told_by : Outcome Searched → Outcome Coded
told_by (Refused n) = Refused n
told_by (Answer x) = Answer (told x)

-- the code of a row in the search phase: 8 for none or cleanup, 6 catch, 3 terminate
abbrev pub search_code : Found → ℕ
search_code None = continue_unwind
search_code (Pad pad action) = searched_code action

-- what a frame's code says; `rest` is what the frames after it come to
abbrev pub by_code : Arch → Frame → ℕ → Outcome Searched → Outcome Searched
by_code a f code rest =
    if eqb code handler_found then Answer (Chosen f.number (sp a f.file))
    else if eqb code fatal_phase1 then Answer Stopped
    else rest

-- a frame after its step: its row is found, and its code followed
abbrev pub search_at : ℕ → Lent → Frame → (Frame → Outcome Searched) → Step → Outcome Searched
search_at arch l f rest End = Answer Ended
search_at arch l f rest (Past r next) = do
  row ← row_of (numbers arch) l.regions f.interrupted r (pc f.file)
  by_code (numbers arch) f (search_code row) (rest next)

-- the search from a frame on; the first number is how many frames at most. With 1,025 or more of them the line for 0 is never met
abbrev pub search_from : ℕ → ℕ → Lent → Frame → Outcome Searched
search_from zero arch l f = Refused TooManyFrames
search_from (suc n) arch l f = frame_step arch l f >>= search_at arch l f (λ next. search_from n arch l next)

-- the search from a frame on: after 1,024 frames the step itself ends or refuses
unfoldable pub search : ℕ → Lent → Frame → Outcome Searched
search arch l f = search_from 1025 arch l f
