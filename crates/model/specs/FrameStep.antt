-- The frame step: from a frame to its caller's (document 01, "Walk, throw and call machine").
use Rattle.std.specs.Prelude.{Option, None, Some}
use Rattle.std.specs.Prelude.{Bool, false, not, ◌&&◌, ◌||◌, List, [], ◌∷◌, ℕ, ◌+◌, ◌-◌, eqb, ltb, if◌then◌else◌}
use Rattle.failure.specs.Outcome.{Outcome, Refused, Answer, ◌>>=◌}
use Rattle.failure.specs.Failure.{StackNotAdvancing, TooManyFrames}
use Rattle.mem.specs.Memory.{Region, Memory, Lent}
use Rattle.arch.specs.Arch.{Arch, numbers}
use Rattle.arch.specs.File.{sp, pc}
use Rattle.lookup.specs.declared.Record.{Record}
use Rattle.lookup.specs.declared.Found.{Found}
use Rattle.lookup.specs.Lookup.{lookup}
use Rattle.program.specs.Run.{run}
use Rattle.frame.specs.Layout.{layout}
use Rattle.frame.specs.Apply.{apply}
use Rattle.frame.specs.Step.{step}

-- a frame of a walk: its number, whether it is interrupted, and its registers
pub record Frame : Type 0 where
  pub number : ℕ
  pub interrupted : Bool
  pub file : List ℕ

-- a frame step: the walk ends, or the frame has this record and its caller is that frame
pub data Step : Type 0 where
  End : Step
  Past : Record → Frame → Step

-- the most frames that a walk gives
abbrev pub max_frames : ℕ
max_frames = 1024

-- the section is the first region
abbrev pub section_of : Memory → Region
section_of [] = record { base = 0; bytes = [] }
section_of (r ∷ m) = r

-- looked up is pc - 1, or pc for an interrupted frame
abbrev pub looked_up : Bool → ℕ → ℕ
looked_up interrupted at = if interrupted then at else at - 1

-- the caller's registers: version 2 by run, then apply; version 1 by step
unfoldable pub caller_file : Arch → Memory → Bool → Record → ℕ → List ℕ → Outcome (List ℕ)
caller_file a m interrupted r at file =
    if eqb r.version 2 then (do
      ran ← run m a r.program r.limit (at - r.start)
      apply a m (layout ran.state) file)
    else step a m r.frame interrupted file

-- sp lower than before, or equal past the first frame, which is 20
unfoldable pub not_advancing : Arch → ℕ → List ℕ → List ℕ → Bool
not_advancing a number file next = ltb (sp a next) (sp a file) || (not (eqb number 0) && eqb (sp a next) (sp a file))

-- the caller of a frame is interrupted: never; only the first frame can be
unfoldable pub next_interrupted : Lent → Frame → Bool
next_interrupted l f = false

-- the caller as a frame
abbrev pub caller_of : Lent → Frame → List ℕ → Frame
caller_of l f next = record { number = f.number + 1; interrupted = next_interrupted l f; file = next }

-- what lookup found, by its record
abbrev pub function_of : Option Found → Option Record
function_of None = None
function_of (Some x) = Some x.function

-- what describes the frame that is looked up at an address: a record of the section, or none
unfoldable pub find : Lent → ℕ → ℕ → Outcome (Option Record)
find l arch at = do
  found ← lookup (section_of l.regions).bytes (section_of l.regions).base at arch
  Answer (function_of found)

-- with the record of the frame: caller registers, then 20
unfoldable pub past : Arch → Lent → Frame → Record → Outcome Step
past a l f r = do
  next ← caller_file a l.regions f.interrupted r (looked_up f.interrupted (pc f.file)) f.file
  if not_advancing a f.number f.file next then Refused StackNotAdvancing else Answer (Past r (caller_of l f next))

-- what was found: none ends the walk
abbrev pub past_found : Arch → Lent → Frame → Option Record → Outcome Step
past_found a l f None = Answer End
past_found a l f (Some r) = past a l f r

-- in order: pc 0 ends; 1,024 frames given, 29; lookup; then the rest
unfoldable pub frame_step : ℕ → Lent → Frame → Outcome Step
frame_step arch l f =
    if eqb (pc f.file) 0 then Answer End
    else if not (ltb f.number max_frames) then Refused TooManyFrames
    else (do
      found ← find l arch (looked_up f.interrupted (pc f.file))
      past_found (numbers arch) l f found)
