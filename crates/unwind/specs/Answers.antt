-- Document 01's number and values for each case of this crate's answers.
use Rattle.std.specs.Prelude.{Bool, true, false, List, [], ◌∷◌, ℕ, Result, Option, Some, None}
use Rattle.failure.specs.Outcome.{Outcome, Refused, Answer, Beside, outcome, map, settled}
use Rattle.failure.specs.declared.Failure.{Failure}
use Rattle.mem.specs.Memory.{Lent}
use Rattle.frame.specs.Public as Public
use Rattle.lookup.specs.declared.Record.{Record}
use Rattle.model.specs.declared.Unwinding.{Unwinding}
use Rattle.model.specs.FrameStep as Walk
use Rattle.model.specs.FrameStep.{Frame, Step}
use Rattle.model.specs.Search as Search
use Rattle.model.specs.Search.{Searched, Coded, coded}
use Rattle.model.specs.Cleanup as Cleanup
use Rattle.model.specs.Cleanup.{Cleaned}
use Rattle.model.specs.Unwinding as Unwinding
use Rattle.model.specs.Unwinding.{raised, resumed}
use Rattle.model.specs.Demand.{ResumeCall}
use Rattle.model.specs.Call.{after}
use Rattle.unwind.specs.declared.Frame as code
use Rattle.unwind.specs.declared.Stepped.{Stepped}
use Rattle.unwind.specs.declared.RaiseAnswer.{RaiseAnswer}
use Rattle.unwind.specs.declared.RaiseAnswer.TheVariants as raise
use Rattle.unwind.specs.declared.Raised.{Raised}
use Rattle.unwind.specs.declared.ResumeAnswer.{ResumeAnswer}
use Rattle.unwind.specs.declared.ResumeAnswer.TheVariants as resume
use Rattle.unwind.specs.declared.Resumed.{Resumed}
use Rattle.unwind.specs.declared.Unwound.{Unwound}

-- 28 unless what is lent is accepted and the architecture known
abbrev pub accepts : Lent → ℕ → Outcome (Unit {0})
accepts l arch = settled (Public.opened l arch)

-- a frame with these values
abbrev pub frame_with : ℕ → Bool → List ℕ → Frame
frame_with number interrupted file = record { number = number; interrupted = interrupted; file = file }

-- a frame as the code takes it
abbrev pub frame_at : code.Frame → Frame
frame_at f = frame_with f.number f.interrupted f.regs.r

-- an answer beside the frame that came in
abbrev pub staying : Outcome (Option Record) → Frame → Beside (Option Record) Frame
staying o f = record { answer = o; state = f }

-- a step: past the frame its record and the caller's, otherwise the frame that came in
abbrev pub stepped : Frame → Outcome Step → Beside (Option Record) Frame
stepped f (Refused n) = staying (Refused n) f
stepped f (Answer Walk.End) = staying (Answer None) f
stepped f (Answer (Walk.Past r next)) = record { answer = Answer (Some r); state = next }

-- the same as the code hands it back
abbrev pub step_handed : Stepped → Beside (Option Record) Frame
step_handed s = record { answer = outcome s.answer; state = frame_at s.frame }

-- what a search comes to
abbrev pub searched_as : RaiseAnswer → Searched
searched_as (raise.Chosen number sp) = Search.Chosen number sp
searched_as raise.Stopped = Search.Stopped
searched_as raise.Ended = Search.Ended

abbrev pub searched : Result RaiseAnswer Failure → Outcome Searched
searched r = map searched_as (outcome r)

-- what a search comes to, as the code's answer
abbrev pub raise_as : Searched → RaiseAnswer
raise_as (Search.Chosen number sp) = raise.Chosen number sp
raise_as Search.Stopped = raise.Stopped
raise_as Search.Ended = raise.Ended

-- the papers' number and values for each case: 6 with the chosen frame's number and sp, 3, 5, or a refusal's number
abbrev pub raise_coded : Outcome RaiseAnswer → Outcome Coded
raise_coded (Answer (raise.Chosen number sp)) = Answer (coded 6 (number ∷ sp ∷ []))
raise_coded (Answer raise.Stopped) = Answer (coded 3 [])
raise_coded (Answer raise.Ended) = Answer (coded 5 [])
raise_coded (Refused n) = Refused n

-- the same of what the code answers
abbrev pub raise_told : Result RaiseAnswer Failure → Outcome Coded
raise_told r = raise_coded (outcome r)

-- a throw, with the unwinding that it hands back
abbrev pub raised_by : List ℕ → ℕ → Bool → ℕ → Outcome Searched → Beside Searched Unwinding
raised_by file pc interrupted exception o = record { answer = o; state = raised file pc interrupted exception o }

-- the same as the code hands it back
abbrev pub raise_handed : Raised → Beside Searched Unwinding
raise_handed r = record { answer = searched r.answer; state = r.unwinding }

-- what a sweep call comes to, without the file and the frame
abbrev pub resume_as : Cleaned → ResumeAnswer
resume_as (Cleanup.Install number file next) = resume.Install number
resume_as Cleanup.Fatal = resume.Fatal
resume_as Cleanup.Finished = resume.Finished

-- the papers' number and values for each case, with the file beside it: 7 with the frame's number and the file at its pad, 2, finished,
-- which has no number there and is 0 here, or a refusal's number
abbrev pub resume_coded : Outcome ResumeAnswer → List ℕ → Outcome Coded
resume_coded (Answer (resume.Install number)) file = Answer (coded 7 (number ∷ file))
resume_coded (Answer resume.Fatal) file = Answer (coded 2 [])
resume_coded (Answer resume.Finished) file = Answer (coded 0 [])
resume_coded (Refused n) file = Refused n

-- the same of what the code answers
abbrev pub resume_told : Result ResumeAnswer Failure → List ℕ → Outcome Coded
resume_told r file = resume_coded (outcome r) file

-- the file at the landing's pad; otherwise the one that came in
abbrev pub file_of : List ℕ → Outcome Cleaned → List ℕ
file_of old (Refused n) = old
file_of old (Answer (Cleanup.Install number file next)) = file
file_of old (Answer Cleanup.Fatal) = old
file_of old (Answer Cleanup.Finished) = old

-- a register file and an unwinding
pub record Handed : Type 0 where
  pub file : List ℕ
  pub unwinding : Unwinding

-- a sweep call of an unwinding, with the file and the unwinding that it hands back
abbrev pub resumed_by : Unwinding → Outcome Cleaned → Beside ResumeAnswer Handed
resumed_by u o = record { answer = map resume_as o; state = record { file = file_of u.regs.r o; unwinding = resumed u o } }

-- the same as the code hands it back
abbrev pub resume_handed : Resumed → Beside ResumeAnswer Handed
resume_handed r = record { answer = outcome r.answer; state = record { file = r.regs.r; unwinding = r.unwinding } }

-- an answer beside the unwinding that came in
abbrev pub unmoved : Outcome ResumeAnswer → Unwinding → Beside ResumeAnswer Handed
unmoved o u = record { answer = o; state = record { file = u.regs.r; unwinding = u } }

-- the outcome of an answer: for a landing with the file at the pad and the frame that the unwinding goes on from
abbrev pub cleaned_as : Outcome ResumeAnswer → List ℕ → Frame → Outcome Cleaned
cleaned_as (Answer (resume.Install number)) file next = Answer (Cleanup.Install number file next)
cleaned_as (Answer resume.Fatal) file next = Answer Cleanup.Fatal
cleaned_as (Answer resume.Finished) file next = Answer Cleanup.Finished
cleaned_as (Refused n) file next = Refused n

-- the outcome of what `resume` returns
abbrev pub cleaned : Resumed → Outcome Cleaned
cleaned r = cleaned_as (outcome r.answer) r.regs.r (Unwinding.frame_of r.unwinding)

-- a sweep call, by what it is given
abbrev pub call_with : Lent → ℕ → Unwinding → ResumeCall
call_with l arch u = record { arch = arch; lent = l; unwinding = u }

-- an answer is a landing
abbrev pub is_landing : Outcome ResumeAnswer → Bool
is_landing (Answer (resume.Install number)) = true
is_landing (Answer resume.Fatal) = false
is_landing (Answer resume.Finished) = false
is_landing (Refused n) = false

-- call number n of resume, counted from 0
abbrev pub call_number : ℕ → Lent → ℕ → Unwinding → Beside ResumeAnswer Handed
call_number n l arch u = resumed_by (after n l arch u) (Unwinding.resume l arch (after n l arch u))

-- what a throw comes to, and call number n after it
pub record Called : Type 0 where
  pub raised : Outcome Searched
  pub resumed : Beside ResumeAnswer Handed

-- a throw, and call number n after it
abbrev pub unwound_by : ℕ → Lent → ℕ → List ℕ → ℕ → Bool → ℕ → Called
unwound_by n l arch file pc interrupted exception =
    record {
      raised = Unwinding.raise l arch file pc interrupted;
      resumed =
          call_number n l arch (raised file pc interrupted exception (Unwinding.raise l arch file pc interrupted));
    }

-- the same as the code hands it back
abbrev pub unwound_handed : Unwound → Called
unwound_handed u = record { raised = searched u.raised; resumed = resume_handed u.resumed }
