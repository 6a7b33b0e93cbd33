-- Laws of a walk over many frames at once. Assumes nothing.
use Rattle.std.proofs.Common.{◌≡◌, Bool, true, false, List, ℕ, suc, ◌+◌, ◌-◌, ◌<◌, Result, Ok, Option, Some, refl, sym, ap, ◌∙◌, arith}
use Rattle.std.specs.Prelude.{set}
use lib.ListN.{get_or}
use Rattle.failure.specs.Outcome.{Outcome, Refused, Answer, outcome, map, ◌>>=◌}
use Rattle.failure.specs.declared.Failure.{Failure}
use Rattle.failure.proofs.Outcome.{answer_then}
use Rattle.mem.specs.Memory.{Lent}
use Rattle.mem.specs.Opening.{opens}
use Rattle.arch.specs.Arch.{numbers, known, is_known}
use Rattle.arch.specs.File.{pc}
use Rattle.model.specs.FrameStep as Walk
use Rattle.model.specs.FrameStep.{Frame, Step, caller_of, frame_step}
use Rattle.frame.specs.Public.{opened}
use Rattle.unwind.specs.Answers.{accepts}
use Rattle.unwind.specs.Turns.{seen_any, MeetsAny}
use Rattle.unwind.specs.Batches.{Past, passed_as, given, given_as, no_frames, Walking, More, Broken, one_more, walk_past, walk_from, walking}
use Rattle.unwind.specs.declared.Frames.{Frames}
use Rattle.unwind.specs.declared.Met.{Met}
use Rattle.unwind.proofs.Steps.{step_of, step_met, past_below}

-- a frame of a walk, by a frame that was met
pub given_met : (arch : ℕ) (l : Lent) (f : Frame) (file : List ℕ) (x v : Result (Option Met) Failure) →
    MeetsAny false arch l f file x → x ≡ v →
    (map step_of (map (seen_any l f file) (outcome v)) >>= λ s. Answer (passed_as s)) ≡ given arch l f
unfolding given
given_met arch l f file x v e p = ap (λ (o : Outcome Step). o >>= λ s. Answer (passed_as s)) (step_met arch l f file x v e p)

-- fewer than 1,024 frames come before one that a walk is past
pub given_below : (arch : ℕ) (l : Lent) (f : Frame) (start : ℕ) (next : Frame) → Answer (Past start next) ≡ given arch l f →
    f.number < 1024
unfolding given
given_below arch l f start next e =
    let x = answer_then (frame_step arch l f) (λ s. Answer (passed_as s)) (Past start next) (sym e) in
    go x.0 x.1 x.2
  where
    go : (s : Step) → frame_step arch l f ≡ Answer s → Answer (passed_as s) ≡ Answer (Past start next) → f.number < 1024
    go Walk.End p q = absurd cc
    go (Walk.Past r after) p q = past_below arch l f r after (sym p)

-- frames that were given so far, as the loop holds them
abbrev pub counted : ℕ → Frames → Frames
counted count w = record { count = count; starts = w.starts; pcs = w.pcs; sps = w.sps }

-- after so many frames the walk from a frame on has come to another
pub record Onward (arch : ℕ) (l : Lent) (f₀ f : Frame) (count : ℕ) (w : Frames) : Type 0 where
  pub left : walk_from 16 arch l f₀ no_frames ≡ walk_from (16 - count) arch l f (counted count w)

module _ (arch : ℕ) (l : Lent) (f₀ f : Frame) (count : ℕ) (w : Frames) (d : Onward arch l f₀ f count w) where
  -- no frames are left to give
  pub onward_over : count ≡ 16 → walk_from 16 arch l f₀ no_frames ≡ More (counted 16 w) f
  onward_over h =
      d.left ∙ ap (λ (n : ℕ). walk_from (16 - n) arch l f (counted n w)) h

  module _ (less : count < 16) (file : List ℕ) (x v : Result (Option ℕ) Failure) (g : given_as l f file x ≡ given arch l f)
      (p : x ≡ v) where
    -- what is left after a frame
    abbrev pub after : ℕ → Frame → Walking
    after start next = walk_from (16 - (count + 1)) arch l next (one_more arch start f (counted count w))

    -- the frame, and what is left after it; no more where it is the end or refused
    pub onward_by : walk_from 16 arch l f₀ no_frames ≡ walk_past (counted count w) after (given_as l f file v)
    onward_by =
        let e : 16 - count ≡ suc (16 - (count + 1)) = omega arith in
        d.left
        ∙ ap (λ (n : ℕ). walk_from n arch l f (counted count w)) e
        ∙ ap (walk_past (counted count w) after) (sym g ∙ ap (given_as l f file) p)

  -- one frame more
  pub onward_on : count < 16 → (file : List ℕ) (x : Result (Option ℕ) Failure) (start : ℕ) → given_as l f file x ≡ given arch l f →
      x ≡ Ok (Some start) → (k : ℕ) → k ≡ (numbers arch).sp →
      Onward arch l f₀ (caller_of l f file) (count + 1)
      (record {
        count = w.count;
        starts = set w.starts count start;
        pcs = set w.pcs count (pc f.file);
        sps = set w.sps count (get_or f.file k 0);
      })
  onward_on less file x start g p k h = record { left = onward_by less file x (Ok (Some start)) g p ∙ rw h refl }

module _ (l : Lent) (arch : ℕ) (f : Frame) where
  -- what a call of walk comes to, by the test for 28
  abbrev pub walking_of : Outcome (Unit {0}) → Walking
  walking_of (Refused n) = Broken no_frames n
  walking_of (Answer x) = walk_from 16 arch l f no_frames

  pub walking_by : (o : Outcome (Unit {0})) → o ≡ accepts l arch → walking_of o ≡ walking l arch f
  unfolding walking opened known
  walking_by o e = ap walking_of e ∙ go (opens l) (is_known arch) refl refl
    where
      go : (s t : Bool) → opens l ≡ s → is_known arch ≡ t → walking_of (accepts l arch) ≡ walking l arch f
      go true true p q = rw (p, q) refl
      go true false p q = rw (p, q) refl
      go false t p q = rw p refl
