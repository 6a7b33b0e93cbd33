-- The cleanup phase: the next landing of an unwinding (document 01, "Walk, throw and call machine": a sweep call).
use Rattle.std.specs.Prelude.{◌&&◌, List, [], ◌∷◌, ℕ, zero, suc, eqb, ltb, if◌then◌else◌}
use Rattle.failure.specs.Outcome.{Outcome, Refused, Answer, ◌>>=◌}
use Rattle.failure.specs.Failure.{TooManyFrames, HandlerFrameMissed}
use Rattle.mem.specs.Memory.{Lent}
use Rattle.arch.specs.Arch.{Arch, numbers}
use Rattle.arch.specs.File.{sp, pc}
use Rattle.lookup.specs.declared.Record.{Record}
use Rattle.rows.specs.Row.{Found, None, Pad, cleanup, catch}
use Rattle.personality.specs.Reason.{row_of, installed, install_context, fatal_phase2}
use Rattle.model.specs.FrameStep.{Frame, Step, End, Past, frame_step}
use Rattle.model.specs.Search.{Coded, coded}

-- the frame that the search chose
pub record Choice : Type 0 where
  pub number : ℕ
  pub sp : ℕ

-- what a sweep call answers: the landing of a frame, by its number and the file at its pad, with the frame to go on from; or 2; or
-- finished
pub data Cleaned : Type 0 where
  Install : (number : ℕ) (file : List ℕ) (next : Frame) → Cleaned
  Fatal Finished : Cleaned

-- document 01's number for each case; finished has none there, and is 0 here
abbrev pub reason_of : Cleaned → ℕ
reason_of (Install number file next) = install_context
reason_of Fatal = fatal_phase2
reason_of Finished = 0

-- the frame's number and the file at its pad go with 7
abbrev pub values_of : Cleaned → List ℕ
values_of (Install number file next) = number ∷ file
values_of Fatal = []
values_of Finished = []

-- document 01's number and values for what a sweep call comes to
abbrev pub told_by : Outcome Cleaned → Outcome Coded
told_by (Refused n) = Refused n
told_by (Answer x) = Answer (coded (reason_of x) (values_of x))

-- the landing of a frame; the walk goes on from its caller
unfoldable pub install_pad : Arch → ℕ → Frame → Record → ℕ → Frame → Outcome Cleaned
install_pad a exception f r pad next = do
  reason ← installed a exception r.start pad f.file
  Answer (Install f.number reason.file next)

-- a row below the chosen number: none goes on, a cleanup lands, a catch is 22, terminate answers 2
abbrev pub below : Arch → ℕ → Frame → Record → Frame → Outcome Cleaned → Found → Outcome Cleaned
below a exception f r next rest None = rest
below a exception f r next rest (Pad pad action) =
    if eqb action cleanup then install_pad a exception f r pad next
    else if eqb action catch then Refused HandlerFrameMissed
    else Answer Fatal

-- a row at the chosen number: a catch lands if sp is the chosen one; all else is 22
abbrev pub chosen : Arch → ℕ → Choice → Frame → Record → Frame → Found → Outcome Cleaned
chosen a exception c f r next None = Refused HandlerFrameMissed
chosen a exception c f r next (Pad pad action) =
    if eqb action catch && eqb (sp a f.file) c.sp then install_pad a exception f r pad next else Refused HandlerFrameMissed

-- a frame's row
abbrev pub by_row : Arch → ℕ → Choice → Frame → Record → Frame → Outcome Cleaned → Found → Outcome Cleaned
by_row a exception c f r next rest row =
    if ltb f.number c.number then below a exception f r next rest row else chosen a exception c f r next row

-- a frame after its step: an end before the chosen one is 22; then its row
abbrev pub clean_at : ℕ → Lent → ℕ → Choice → Frame → (Frame → Outcome Cleaned) → Step → Outcome Cleaned
clean_at arch l exception c f rest End = Refused HandlerFrameMissed
clean_at arch l exception c f rest (Past r next) = do
  row ← row_of (numbers arch) l.regions f.interrupted r (pc f.file)
  by_row (numbers arch) exception c f r next (rest next) row

-- the next landing from a frame on; the first number is how many frames at most. With 1,025 or more of them the line for 0 is never
-- met
abbrev pub clean_from : ℕ → ℕ → Lent → ℕ → Choice → Frame → Outcome Cleaned
clean_from zero arch l exception c f = Refused TooManyFrames
clean_from (suc n) arch l exception c f =
    frame_step arch l f >>= clean_at arch l exception c f (λ next. clean_from n arch l exception c next)

-- the next landing: finished where the chosen frame has landed
unfoldable pub clean : ℕ → Lent → ℕ → Choice → Frame → Outcome Cleaned
clean arch l exception c f =
    if ltb c.number f.number then Answer Finished else clean_from 1025 arch l exception c f
