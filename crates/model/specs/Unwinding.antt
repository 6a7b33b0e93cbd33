-- `raise` and `resume` (document 01: throw and sweep), and the unwinding that goes from call to call.
use Rattle.std.specs.Prelude.{Bool, true, false, List, ℕ, if◌then◌else◌}
use Rattle.failure.specs.Outcome.{Outcome, Refused, Answer}
use Rattle.failure.specs.Failure.{BadOpening}
use Rattle.mem.specs.Memory.{Lent}
use Rattle.mem.specs.Opening.{opens}
use Rattle.arch.specs.Arch.{is_known}
use Rattle.arch.specs.File.{set_pc}
use Rattle.model.specs.declared.Unwinding.{Unwinding}
use Rattle.model.specs.FrameStep.{Frame, Step, frame_step}
use Rattle.model.specs.Search.{Searched, Chosen, Stopped, Ended, search}
use Rattle.model.specs.Cleanup.{Choice, Cleaned, Install, Fatal, Finished, clean}

-- 28 first: for what is lent, then for an architecture other than 1 and 2
unfoldable pub opened : {A : Type 0} → Lent → ℕ → Outcome A → Outcome A
opened l arch o = if opens l then (if is_known arch then o else Refused BadOpening) else Refused BadOpening

-- the frame step in what is lent (document 01: walk)
unfoldable pub next_frame : Lent → ℕ → Frame → Outcome Step
next_frame l arch f = opened l arch (frame_step arch l f)

-- frame 0: the registers with the pc of the throw
abbrev pub frame0 : List ℕ → ℕ → Bool → Frame
frame0 file at interrupted = record { number = 0; interrupted = interrupted; file = set_pc file at }

-- `raise`: what the search from frame 0 on comes to
unfoldable pub raise : Lent → ℕ → List ℕ → ℕ → Bool → Outcome Searched
raise l arch file at interrupted = opened l arch (search arch l (frame0 file at interrupted))

-- an unwinding at a frame, with nothing chosen
abbrev pub unchosen : Frame → ℕ → Unwinding
unchosen f exception =
    record {
      regs = record { r = f.file };
      number = f.number;
      interrupted = f.interrupted;
      exception = exception;
      chosen = false;
      chosen_number = 0;
      chosen_sp = 0;
    }

-- an unwinding at a frame, with a frame chosen by its number and sp
abbrev pub choosing : Frame → ℕ → ℕ → ℕ → Unwinding
choosing f exception number sp =
    record {
      regs = record { r = f.file };
      number = f.number;
      interrupted = f.interrupted;
      exception = exception;
      chosen = true;
      chosen_number = number;
      chosen_sp = sp;
    }

-- frame 0 with the registers that came in
abbrev pub given : List ℕ → Bool → Frame
given file interrupted = record { number = 0; interrupted = interrupted; file = file }

-- the unwinding that `raise` hands back: at frame 0, with the chosen frame if one was chosen; for a refusal with the file that came in
abbrev pub raised : List ℕ → ℕ → Bool → ℕ → Outcome Searched → Unwinding
raised file at interrupted exception (Refused n) = unchosen (given file interrupted) exception
raised file at interrupted exception (Answer (Chosen number sp)) = choosing (frame0 file at interrupted) exception number sp
raised file at interrupted exception (Answer Stopped) = unchosen (frame0 file at interrupted) exception
raised file at interrupted exception (Answer Ended) = unchosen (frame0 file at interrupted) exception

-- the frame that comes next
abbrev pub frame_of : Unwinding → Frame
frame_of u = record { number = u.number; interrupted = u.interrupted; file = u.regs.r }

-- the chosen frame
abbrev pub choice_of : Unwinding → Choice
choice_of u = record { number = u.chosen_number; sp = u.chosen_sp }

-- `resume`: finished where nothing is chosen or the chosen frame has landed, else the next landing
unfoldable pub resume : Lent → ℕ → Unwinding → Outcome Cleaned
resume l arch u =
    opened l arch (if u.chosen then clean arch l u.exception (choice_of u) (frame_of u) else Answer Finished)

-- an unwinding that goes on from a frame
abbrev pub going_on : Unwinding → Frame → Unwinding
going_on u f =
    record {
      regs = record { r = f.file };
      number = f.number;
      interrupted = f.interrupted;
      exception = u.exception;
      chosen = u.chosen;
      chosen_number = u.chosen_number;
      chosen_sp = u.chosen_sp;
    }

-- the unwinding that `resume` hands back: past the frame that landed; otherwise the one that came in
abbrev pub resumed : Unwinding → Outcome Cleaned → Unwinding
resumed u (Refused n) = u
resumed u (Answer (Install number file next)) = going_on u next
resumed u (Answer Fatal) = u
resumed u (Answer Finished) = u
