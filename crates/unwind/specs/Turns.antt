-- What a turn of a loop comes to: no definition of the model goes through these.
use Rattle.std.specs.Prelude.{◌≡◌, Bool, not, ◌&&◌, ◌||◌, List, ℕ, eqb, ltb, Result, Option, Some, None, if◌then◌else◌}
use Rattle.std.specs.declared.ops.ControlFlow.{ControlFlow}
use Rattle.std.specs.declared.ops.ControlFlow.TheVariants as flow
use Rattle.failure.specs.Outcome.{Outcome, Refused, Answer, outcome, map, ◌>>=◌}
use Rattle.failure.specs.Failure.{number, StackNotAdvancing, TooManyFrames, HandlerFrameMissed}
use Rattle.failure.specs.declared.Failure.{Failure}
use Rattle.mem.specs.Memory.{Memory, Lent, lent}
use Rattle.arch.specs.Arch.{Arch, numbers}
use Rattle.arch.specs.File.{pc}
use Rattle.rows.specs.Row.{Found, number_of, cleanup, catch}
use Rattle.rows.specs.declared.Row.{Row}
use Rattle.lookup.specs.declared.Record.{Record}
use Rattle.personality.specs.Reason.{row_of, installed, searched_code, handler_found, fatal_phase1}
use Rattle.program.specs.Run.{run}
use Rattle.frame.specs.Layout.{layout}
use Rattle.frame.specs.Apply.{apply}
use Rattle.model.specs.FrameStep as Walk
use Rattle.model.specs.FrameStep.{Frame, Step, looked_up, max_frames, caller_of, find, past, frame_step}
use Rattle.model.specs.Search as Search
use Rattle.model.specs.Search.{Searched}
use Rattle.model.specs.Cleanup as Cleanup
use Rattle.model.specs.Cleanup.{Cleaned}
use Rattle.unwind.specs.Answers.{searched_as}
use Rattle.unwind.specs.declared.RaiseAnswer.{RaiseAnswer}
use Rattle.unwind.specs.declared.Met.{Met}
use Rattle.unwind.specs.declared.cleanup.Cleaning.{Cleaning}
use Rattle.unwind.specs.declared.cleanup.Cleaning.TheVariants as cleaning

-- the outcome that a status tells of, beside the file as it is then
abbrev pub file_told : Result (Unit {0}) Failure → List ℕ → Outcome (List ℕ)
file_told r file = map (λ a. file) (outcome r)

-- version 2: the program is run to an offset, and its state applied
unfoldable pub caller_by_run : Arch → Memory → ℕ → ℕ → ℕ → List ℕ → Outcome (List ℕ)
caller_by_run a m program limit off file = do
  ran ← run m a program limit off
  apply a m (layout ran.state) file

-- 20: sp is lower than before, or equal past the first frame
abbrev pub advanced : ℕ → ℕ → ℕ → Outcome (Unit {0})
advanced number before after =
    if ltb after before || (not (eqb number 0) && eqb after before) then Refused StackNotAdvancing else Answer tt

-- a result tells the step of a frame with this record, where the caller has this file
abbrev pub Passes : Arch → Lent → Frame → Record → List ℕ → Result (Unit {0}) Failure → Type 0
Passes a l f r file s = map (λ x. Walk.Past r (caller_of l f file)) (outcome s) ≡ past a l f r

-- a frame's record, none where the walk ends: pc 0 ends it; 1,024 frames given, 29; then lookup
unfoldable pub record_of : Lent → ℕ → ℕ → Bool → ℕ → Outcome (Option Record)
record_of l arch number interrupted at =
    if eqb at 0 then Answer None
    else if not (ltb number max_frames) then Refused TooManyFrames
    else find l arch (looked_up interrupted at)

-- a frame's record is told, whatever the stack is
abbrev pub Locates : List ℕ → ℕ → ℕ → ℕ → Bool → ℕ → Result (Option Record) Failure → Type 0
Locates section base arch number interrupted at x =
    (stack : List ℕ) (stack_base : ℕ) → outcome x ≡ record_of (lent section base stack stack_base) arch number interrupted at

-- what a frame's step and row come to: the end; the record, the caller and the row, none where no row is found or asked for
pub data Seen : Type 0 where
  End : Seen
  Past : Record → Frame → Found → Seen

-- the row is found, with the record and the caller at hand
abbrev pub row_seen : ℕ → Lent → Frame → Record → Frame → Outcome Seen
row_seen arch l f r next = do
  row ← row_of (numbers arch) l.regions f.interrupted r (pc f.file)
  Answer (Past r next row)

-- a frame after its step: its row, if rows are asked for
abbrev pub seen_at : Bool → ℕ → Lent → Frame → Step → Outcome Seen
seen_at rows arch l f Walk.End = Answer End
seen_at rows arch l f (Walk.Past r next) = if rows then row_seen arch l f r next else Answer (Past r next Found.None)

-- a frame's step, then its row if rows are asked for
unfoldable pub seen : Bool → ℕ → Lent → Frame → Outcome Seen
seen rows arch l f = frame_step arch l f >>= seen_at rows arch l f

-- a row as a table holds it
abbrev pub row_as : Option Row → Found
row_as None = Found.None
row_as (Some row) = Found.Pad row.pad (number_of row.action)

-- a row that was found, with its record
abbrev pub met_row : Record → Option Row → Met
met_row r row = record { «record» = r; row = row }

-- what a frame that was met comes to, where the caller has this file
abbrev pub seen_by : Lent → Frame → List ℕ → Met → Seen
seen_by l f file w = Past w.«record» (caller_of l f file) (row_as w.row)

abbrev pub seen_any : Lent → Frame → List ℕ → Option Met → Seen
seen_any l f file None = End
seen_any l f file (Some w) = seen_by l f file w

-- a frame with a record was met: its step, then its row if rows are asked for, where the caller has this file
abbrev pub Meets : Bool → ℕ → Lent → Frame → List ℕ → Result Met Failure → Type 0
Meets rows arch l f file x = map (seen_by l f file) (outcome x) ≡ seen rows arch l f

-- the same of a frame where the walk may end
abbrev pub MeetsAny : Bool → ℕ → Lent → Frame → List ℕ → Result (Option Met) Failure → Type 0
MeetsAny rows arch l f file x = map (seen_any l f file) (outcome x) ≡ seen rows arch l f

-- a turn of the search, where the frames after it come to `rest`
abbrev pub search_or : ControlFlow RaiseAnswer (Unit {0}) → Outcome Searched → Outcome Searched
search_or (flow.Continue x) rest = rest
search_or (flow.Break r) rest = Answer (searched_as r)

-- what a row's action says of the frame with this number and sp; `rest` is what the frames after it come to
abbrev pub by_action : ℕ → ℕ → ℕ → Outcome Searched → Outcome Searched
by_action number sp action rest =
    if eqb (searched_code action) handler_found then Answer (Search.Chosen number sp)
    else if eqb (searched_code action) fatal_phase1 then Answer Search.Stopped
    else rest

-- the same of a row that may be none
abbrev pub search_row : ℕ → ℕ → Option Row → Outcome Searched → Outcome Searched
search_row number sp None rest = rest
search_row number sp (Some row) rest = by_action number sp (number_of row.action) rest

-- what a frame that was met says; `rest` is what the frames after it come to
abbrev pub search_met : ℕ → ℕ → Option Met → Outcome Searched → Outcome Searched
search_met number sp None rest = Answer Search.Ended
search_met number sp (Some w) rest = search_row number sp w.row rest

-- the turn is that of a frame that was met
abbrev pub SearchTurn : ℕ → ℕ → Option Met → ControlFlow RaiseAnswer (Unit {0}) → Type 0
SearchTurn number sp w t = (rest : Outcome Searched) → search_or t rest ≡ search_met number sp w rest

-- a row's pad and action in the cleanup phase: below the chosen number a cleanup lands, a catch is 22, any other action answers 2; at it
-- a catch lands if sp is the chosen one, and all else is 22
abbrev pub clean_pad : Bool → Bool → ℕ → ℕ → ℕ → Outcome Cleaning
clean_pad below same start pad action =
    if below then
    (if eqb action cleanup then Answer (cleaning.Install start pad)
    else if eqb action catch then Refused HandlerFrameMissed
    else Answer cleaning.Fatal)
    else (if eqb action catch && same then Answer (cleaning.Install start pad) else Refused HandlerFrameMissed)

-- the same of a row
unfoldable pub clean_row : Bool → Bool → ℕ → Row → Outcome Cleaning
clean_row below same start row = clean_pad below same start row.pad (number_of row.action)

-- the same of a row that may be none: none goes on below the chosen number and is 22 at it
abbrev pub clean_past : Bool → Bool → ℕ → Option Row → Outcome Cleaning
clean_past below same start None = if below then Answer cleaning.On else Refused HandlerFrameMissed
clean_past below same start (Some row) = clean_row below same start row

-- a frame that was met, in the cleanup phase
abbrev pub clean_met : Bool → Bool → Option Met → Outcome Cleaning
clean_met below same None = Refused HandlerFrameMissed
clean_met below same (Some w) = clean_past below same w.«record».start w.row

-- the same of a frame whose meeting may be refused
abbrev pub clean_by : Bool → Bool → Outcome (Option Met) → Outcome Cleaning
clean_by below same o = o >>= clean_met below same

-- a landing at a frame with this number and file; the walk goes on from its caller
unfoldable pub install_at : Arch → ℕ → ℕ → ℕ → ℕ → List ℕ → Frame → Outcome Cleaned
install_at a exception number start pad file next = do
  reason ← installed a exception start pad file
  Answer (Cleanup.Install number reason.file next)

-- a turn of the sweep at a frame, where the frames after it come to `rest`
abbrev pub clean_or : Arch → ℕ → Frame → Frame → Outcome Cleaning → Outcome Cleaned → Outcome Cleaned
clean_or a exception f next (Answer cleaning.On) rest = rest
clean_or a exception f next (Answer (cleaning.Install start pad)) rest = install_at a exception f.number start pad f.file next
clean_or a exception f next (Answer cleaning.Fatal) rest = Answer Cleanup.Fatal
clean_or a exception f next (Refused n) rest = Refused n
