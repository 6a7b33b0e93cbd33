-- The interface between tables and phases: all that the phases of an unwinding use of lookup, states, rows and memory.
use mathlib.Core.Bool.{Bool, true}
use mathlib.Core.List.{List}
use mathlib.Core.Path.{◌≡◌}
use Prim.Native.Nat.{ℕ, ◌<◌}
use Rattle.failure.specs.Outcome.{Answer}
use Rattle.mem.specs.Memory.{Region}
use Rattle.arch.specs.Arch.{numbers}
use Rattle.arch.specs.File.{pc}
use Rattle.personality.specs.Reason as Reason
use Rattle.model.specs.FrameStep.{End, max_frames, frame_step}
use Rattle.model.specs.Machine.{Open, Tables, lending, memory_with}
use Rattle.model.specs.Throw.{Standing, row_of}
use Rattle.model.specs.Sound.{good_frame}
use Rattle.model.proofs.Chain.{FrameAt, Live, Agrees}
use Rattle.model.proofs.Stands.{frame, Goes}

-- an open frame with its registers at its call
abbrev pub stood : Bool → List ℕ → Open → Standing
stood interrupted file f = record { frame = f; file = file; interrupted = interrupted }

pub record Walks (ts : Tables) (stack : Region) : Type 0 where
  -- a frame step goes from a described frame to its caller
  pub goes :
      (n : ℕ) (first interrupted : Bool) (file file' : List ℕ) (f : Open) → n < max_frames → (first ≡ true → n ≡ 0) →
      FrameAt ts first interrupted file f → Live (numbers ts.arch) stack f → Agrees (numbers ts.arch) file' file →
      Goes ts stack n interrupted file' f
  -- and ends at pc 0
  pub ends :
      (n : ℕ) (interrupted : Bool) (file file' : List ℕ) → pc file ≡ 0 → Agrees (numbers ts.arch) file' file →
      frame_step ts.arch (lending ts stack) (frame n interrupted file') ≡ Answer End
  -- the row that is found is the machine's
  pub row :
      (first interrupted : Bool) (file : List ℕ) (f : Open) → FrameAt ts first interrupted file f →
      good_frame ts (stood interrupted file f) ≡ true →
      Reason.row_of (numbers ts.arch) (memory_with ts stack) interrupted f.entry.function (pc file)
      ≡ Answer (row_of ts (stood interrupted file f))
