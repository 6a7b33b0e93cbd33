-- Up to 16 frames of a walk at once.
use Rattle.std.specs.Prelude.{◌&&◌, List, ℕ, zero, suc, ◌+◌, set, replicate, Result, Option, Some, None, if◌then◌else◌}
use Rattle.failure.specs.Outcome.{Outcome, Refused, Answer, Beside, outcome, map, ◌>>=◌}
use Rattle.failure.specs.Failure.{BadOpening}
use Rattle.failure.specs.declared.Failure.{Failure}
use Rattle.mem.specs.Memory.{Lent}
use Rattle.mem.specs.Opening.{opens}
use Rattle.arch.specs.Arch.{numbers, is_known}
use Rattle.arch.specs.File.{sp, pc}
use Rattle.model.specs.FrameStep as Walk
use Rattle.model.specs.FrameStep.{Frame, Step, caller_of, frame_step}
use Rattle.unwind.specs.Answers.{frame_at}
use Rattle.unwind.specs.declared.Frames.{Frames}
use Rattle.unwind.specs.declared.Batch.{Batch}
use Rattle.unwind.specs.declared.WalkAnswer.{WalkAnswer}
use Rattle.unwind.specs.declared.WalkAnswer.TheVariants as ends

-- a frame of a walk: the walk ends; it is past the frame, with the start of its record and its caller
pub data Passed : Type 0 where
  End : Passed
  Past : (start : ℕ) → Frame → Passed

-- what a walk gives of a frame step: the start of the record and the caller
abbrev pub passed_as : Step → Passed
passed_as Walk.End = End
passed_as (Walk.Past r next) = Past r.start next

-- a frame's step, by what a walk gives
unfoldable pub given : ℕ → Lent → Frame → Outcome Passed
given arch l f = frame_step arch l f >>= λ s. Answer (passed_as s)

-- the same as the code tells it, where the caller has this file
abbrev pub passed_by : Lent → Frame → List ℕ → Option ℕ → Passed
passed_by l f file None = End
passed_by l f file (Some start) = Past start (caller_of l f file)

abbrev pub given_as : Lent → Frame → List ℕ → Result (Option ℕ) Failure → Outcome Passed
given_as l f file r = map (passed_by l f file) (outcome r)

-- no frames
abbrev pub no_frames : Frames
no_frames = record { count = 0; starts = replicate 16 0; pcs = replicate 16 0; sps = replicate 16 0 }

-- one more frame, with the start of its record
abbrev pub one_more : ℕ → ℕ → Frame → Frames → Frames
one_more arch start f w =
    record {
      count = w.count + 1;
      starts = set w.starts w.count start;
      pcs = set w.pcs w.count (pc f.file);
      sps = set w.sps w.count (sp (numbers arch) f.file);
    }

-- frames of a walk, and how it goes on: from this frame, not at all, or by a refusal
pub data Walking : Type 0 where
  More : Frames → Frame → Walking
  Over : Frames → Walking
  Broken : Frames → ℕ → Walking

-- the walk past a frame; `on` is what comes after it
abbrev pub walk_past : Frames → (ℕ → Frame → Walking) → Outcome Passed → Walking
walk_past w on (Refused n) = Broken w n
walk_past w on (Answer End) = Over w
walk_past w on (Answer (Past start next)) = on start next

-- so many frames at most, beside those that were given before
abbrev pub walk_from : ℕ → ℕ → Lent → Frame → Frames → Walking
walk_from zero arch l f w = More w f
walk_from (suc n) arch l f w = walk_past w (λ start next. walk_from n arch l next (one_more arch start f w)) (given arch l f)

-- a call of walk: 28 first, then up to 16 frames
unfoldable pub walking : Lent → ℕ → Frame → Walking
walking l arch f = if opens l && is_known arch then walk_from 16 arch l f no_frames else Broken no_frames BadOpening

-- the frames of a walk, and a frame
pub record Given : Type 0 where
  pub frames : Frames
  pub frame : Frame

-- what a call of walk hands back
abbrev pub walked_by : Frame → Walking → Beside WalkAnswer Given
walked_by f (More w next) = record { answer = Answer ends.More; state = record { frames = w; frame = next } }
walked_by f (Over w) = record { answer = Answer ends.End; state = record { frames = w; frame = f } }
walked_by f (Broken w n) = record { answer = Refused n; state = record { frames = w; frame = f } }

-- the same as the code hands it back
abbrev pub batch_handed : Batch → Beside WalkAnswer Given
batch_handed b = record { answer = outcome b.answer; state = record { frames = b.frames; frame = frame_at b.frame } }
