-- Document 01's answers as the C interface hands them over: a status, which is 0 for values, 1 for none and the number of a
-- refusal otherwise, and beside it the values. Where there are none they are 0, and a file or a state is the one that the
-- function hands back.
use Rattle.std.specs.Prelude.{Bool, true, false, List, ℕ, Option, Some, None}
use Rattle.failure.specs.Outcome.{Outcome, Refused, Answer, Beside}
use Rattle.arch.specs.Answers.{file_after}
use Rattle.state.specs.declared.State.{State}
use Rattle.state.specs.Save as Save
use Rattle.state.specs.Answers as StateAnswers
use Rattle.program.specs.Answers as ProgramAnswers
use Rattle.personality.specs.Reason as Reason
use Rattle.personality.specs.Answers as PersonalityAnswers
use Rattle.personality.specs.declared.Phase.{Phase}
use Rattle.personality.specs.declared.Phase.TheVariants.{Search, Cleanup}
use Rattle.lookup.specs.declared.Record.{Record}
use Rattle.lookup.specs.declared.Found as Lookup
use Rattle.model.specs.declared.Unwinding.{Unwinding}
use Rattle.model.specs.FrameStep.{Frame}
use Rattle.model.specs.Search as search-phase
use Rattle.model.specs.Search.{Searched}
use Rattle.unwind.specs.declared.WalkAnswer.{WalkAnswer}
use Rattle.unwind.specs.declared.WalkAnswer.TheVariants as walk
use Rattle.unwind.specs.declared.ResumeAnswer.{ResumeAnswer}
use Rattle.unwind.specs.declared.ResumeAnswer.TheVariants as resume
use Rattle.unwind.specs.Answers.{Handed}
use Rattle.unwind.specs.Batches.{Given}
use Rattle.leb.specs.Reader as Reader
use Rattle.rows.specs.Row as Row
use Rattle.rows.specs.Row.{Pad}
use Rattle.answers.specs.declared.Number.{Number}
use Rattle.answers.specs.declared.File.{File}
use Rattle.answers.specs.declared.Function.{Function}
use Rattle.answers.specs.declared.Read.{Read}
use Rattle.answers.specs.declared.Changed.{Changed}
use Rattle.answers.specs.declared.Ended.{Ended}
use Rattle.answers.specs.declared.Decided.{Decided}
use Rattle.answers.specs.declared.Stepped.{Stepped}
use Rattle.answers.specs.declared.Batch.{Batch}
use Rattle.answers.specs.declared.Raised.{Raised}
use Rattle.answers.specs.declared.Resumed.{Resumed}
use Rattle.answers.specs.declared.RowFound.{RowFound}

-- the status of an answer that has values
abbrev pub status : {A : Type 0} → Outcome A → ℕ
status (Refused n) = n
status (Answer a) = 0

-- a number
abbrev pub number : Outcome ℕ → Number
number (Refused n) = record { status = n; value = 0 }
number (Answer v) = record { status = 0; value = v }

-- a register file; for a refusal the one that came in
abbrev pub file : List ℕ → Outcome (List ℕ) → File
file old o = record { status = status o; regs = record { r = file_after old o } }

-- what stands for a record where there is none
abbrev pub no_record : Record
no_record = record { start = 0; end = 0; frame = 0; handlers = 0; program = 0; limit = 0; version = 0 }

-- an answer without a record
abbrev pub recordless : ℕ → Function
recordless n = record { status = n; found = no_record }

-- the record of a pc
abbrev pub function : Outcome (Option Lookup.Found) → Function
function (Refused n) = recordless n
function (Answer None) = recordless 1
function (Answer (Some f)) = record { status = 0; found = f.function }

-- a number of what is lent and the address after it
abbrev pub read : Outcome Reader.Read → Read
read (Refused n) = record { status = n; value = 0; next = 0 }
read (Answer x) = record { status = 0; value = x.value; next = x.next }

-- a state; for a refusal the one that came in
abbrev pub changed : State → Save.Change → Changed
changed st x = record { status = status (StateAnswers.changed x); state = StateAnswers.handed_back st (StateAnswers.changed x) }

-- the slot of a register
abbrev pub slot : Outcome (Option ℕ) → Number
slot (Refused n) = record { status = n; value = 0 }
slot (Answer None) = record { status = 1; value = 0 }
slot (Answer (Some s)) = record { status = 0; value = s }

-- a run: the state at the offset and the address after END, 0 where it was not read
abbrev pub ended : ProgramAnswers.Given → Ended
ended g = record { status = status g.status; state = g.state; after = g.after }

-- a row: none has status 1
abbrev pub row : Outcome Row.Found → RowFound
row (Refused n) = record { status = n; pad = 0; action = 0 }
row (Answer Row.None) = record { status = 1; pad = 0; action = 0 }
row (Answer (Pad pad action)) = record { status = 0; pad = pad; action = action }

-- the phase: cleanup or search
abbrev pub phase : Bool → Phase
phase true = Cleanup
phase false = Search

-- a reason, 0 for a refusal
abbrev pub reason : Outcome ℕ → ℕ
reason (Refused n) = 0
reason (Answer code) = code

-- a reason with its register file
abbrev pub decided : PersonalityAnswers.Given → Decided
decided g = record { status = status g.code; reason = reason g.code; regs = g.regs }

-- a frame step without a record: a status, and the frame that came in
abbrev pub unstepped : ℕ → Frame → Stepped
unstepped n f = record { status = n; function = no_record; number = f.number; interrupted = f.interrupted; regs = record { r = f.file } }

-- a frame step, by its answer and the frame that it hands back: past the frame its record; at the end and for a refusal none
abbrev pub stepped_by : Outcome (Option Record) → Frame → Stepped
stepped_by (Refused n) f = unstepped n f
stepped_by (Answer None) f = unstepped 1 f
stepped_by (Answer (Some r)) f =
    record { status = 0; function = r; number = f.number; interrupted = f.interrupted; regs = record { r = f.file } }

-- a frame step
abbrev pub stepped : Beside (Option Record) Frame → Stepped
stepped s = stepped_by s.answer s.state

-- the status of a walk: an answer where there may be more frames, none at its end
abbrev pub walk_status : Outcome WalkAnswer → ℕ
walk_status (Answer walk.More) = 0
walk_status (Answer walk.End) = 1
walk_status (Refused n) = n

-- frames of a walk
abbrev pub batch : Beside WalkAnswer Given → Batch
batch b =
    record {
      status = walk_status b.answer;
      frames = b.state.frames;
      number = b.state.frame.number;
      interrupted = b.state.frame.interrupted;
      regs = record { r = b.state.frame.file };
    }

-- the reason of a throw: 6, 3 or 5; 0 for a refusal
abbrev pub raise_reason : Outcome Searched → ℕ
raise_reason (Answer x) = search-phase.reason_of x
raise_reason (Refused n) = 0

-- the number and the sp of the chosen frame, else 0 and 0
abbrev pub raise_chosen : Outcome Searched → ℕ × ℕ
raise_chosen (Answer (search-phase.Chosen number sp)) = (number, sp)
raise_chosen (Answer search-phase.Stopped) = (0, 0)
raise_chosen (Answer search-phase.Ended) = (0, 0)
raise_chosen (Refused n) = (0, 0)

-- a throw
abbrev pub raised : Beside Searched Unwinding → Raised
raised r =
    record {
      status = status r.answer;
      reason = raise_reason r.answer;
      number = (raise_chosen r.answer).0;
      sp = (raise_chosen r.answer).1;
      unwinding = r.state;
    }

-- the status of a sweep call: none where it is finished
abbrev pub resume_status : Outcome ResumeAnswer → ℕ
resume_status (Answer (resume.Install number)) = 0
resume_status (Answer resume.Fatal) = 0
resume_status (Answer resume.Finished) = 1
resume_status (Refused n) = n

-- its reason: 7 for a landing, 2 for terminate; 0 where it has none
abbrev pub resume_reason : Outcome ResumeAnswer → ℕ
resume_reason (Answer (resume.Install number)) = Reason.install_context
resume_reason (Answer resume.Fatal) = Reason.fatal_phase2
resume_reason (Answer resume.Finished) = 0
resume_reason (Refused n) = 0

-- the frame number of a landing, else 0
abbrev pub resume_number : Outcome ResumeAnswer → ℕ
resume_number (Answer (resume.Install number)) = number
resume_number (Answer resume.Fatal) = 0
resume_number (Answer resume.Finished) = 0
resume_number (Refused n) = 0

-- a sweep call
abbrev pub resumed : Beside ResumeAnswer Handed → Resumed
resumed r =
    record {
      status = resume_status r.answer;
      reason = resume_reason r.answer;
      number = resume_number r.answer;
      regs = record { r = r.state.file };
      unwinding = r.state.unwinding;
    }
