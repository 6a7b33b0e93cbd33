-- Laws of a frame's step, as a walk makes it. Assumes nothing.
use Rattle.std.proofs.Common.{◌≡◌, false, List, ℕ, ◌<◌, Result, Option, None, refl, sym, ap, ◌∙◌}
use Rattle.failure.specs.Outcome.{Outcome, Refused, Answer, outcome, map, ◌>>=◌}
use Rattle.failure.specs.declared.Failure.{Failure}
use Rattle.mem.specs.Memory.{Lent}
use Rattle.lookup.specs.declared.Record.{Record}
use Rattle.model.specs.FrameStep as Walk
use Rattle.model.specs.FrameStep.{Frame, Step, frame_step}
use Rattle.unwind.specs.declared.Met.{Met}
use Rattle.unwind.specs.Answers.{staying, stepped}
use Rattle.rows.specs.Row.{Found}
use Rattle.unwind.specs.Turns.{Seen, End, Past, seen, seen_at, seen_any, MeetsAny}
use Rattle.unwind.proofs.Meeting.{seen_below}

-- the step that was seen
abbrev pub step_of : Seen → Step
step_of End = Walk.End
step_of (Past r next row) = Walk.Past r next

-- the frame step, by what a frame that was met without asking for its row comes to
pub step_met : (arch : ℕ) (l : Lent) (f : Frame) (file : List ℕ) (x v : Result (Option Met) Failure) →
    MeetsAny false arch l f file x → x ≡ v → map step_of (map (seen_any l f file) (outcome v)) ≡ frame_step arch l f
unfolding seen
step_met arch l f file x v e p =
    ap (λ (y : Result (Option Met) Failure). map step_of (map (seen_any l f file) (outcome y))) (sym p)
    ∙ ap (map step_of) e ∙ go (frame_step arch l f)
  where
    go : (o : Outcome Step) → map step_of (o >>= seen_at false arch l f) ≡ o
    go (Refused n) = refl
    go (Answer Walk.End) = refl
    go (Answer (Walk.Past r next)) = refl

-- fewer than 1,024 frames come before one that the walk is past
pub past_below : (arch : ℕ) (l : Lent) (f : Frame) (r : Record) (next : Frame) → Answer (Walk.Past r next) ≡ frame_step arch l f →
    f.number < 1024
unfolding seen
past_below arch l f r next e =
    seen_below false arch l f (Past r next Found.None) (ap (λ (o : Outcome Step). o >>= seen_at false arch l f) e) (λ q. absurd cc)

-- the end of the walk and a refusal hand back the frame that came in
pub stays : (f : Frame) (o : Outcome Step) → Answer Walk.End ≡ o → staying (Answer None) f ≡ stepped f o
stays f o e = ap (stepped f) e

pub stays_refused : (f : Frame) (o : Outcome Step) (n : ℕ) → Refused n ≡ o → staying (Refused n) f ≡ stepped f o
stays_refused f o n e = ap (stepped f) e
