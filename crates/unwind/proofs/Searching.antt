-- Laws of the search phase, turn by turn. Assumes nothing.
use mathlib.Core.Path.{◌≡◌, refl, sym, ◌∙◌, ap, subst}
use mathlib.Core.Bool.{Bool, true}
use mathlib.Core.List.{List}
use Prim.Native.Nat.{ℕ, zero, suc, ◌+◌, ◌≤◌, ◌<◌}
use native.Mathlib.Omega.{arith}
use lib.ListN.{get_or}
use Rattle.std.specs.Prelude.{Result, Ok, Err, Option, Some, None}
use Rattle.std.specs.declared.ops.ControlFlow.{ControlFlow}
use Rattle.std.specs.declared.ops.ControlFlow.TheVariants.{Continue, Break}
use Rattle.failure.specs.Outcome.{Outcome, Answer, outcome, map, ◌>>=◌}
use Rattle.failure.specs.Failure.{number}
use Rattle.failure.specs.declared.Failure.{Failure}
use Rattle.failure.proofs.Outcome.{answer-refused}
use Rattle.mem.specs.Memory.{Lent}
use Rattle.arch.specs.Arch.{numbers}
use Rattle.rows.specs.Row.{Found}
use Rattle.rows.specs.declared.Row.{Row}
use Rattle.lookup.specs.declared.Record.{Record}
use Rattle.model.specs.FrameStep.{Frame, next_interrupted, caller_of, frame_step}
use Rattle.model.specs.Search as Search
use Rattle.model.specs.Search.{Searched, search_code, by_code, search_at, search_from, search}
use Rattle.unwind.specs.Answers.{frame_with, searched}
use Rattle.unwind.specs.Turns.{Seen, row_as, seen, seen_any, MeetsAny, search_or, search_row, search_met, SearchTurn}
use Rattle.unwind.specs.declared.Met.{Met}
use Rattle.unwind.specs.declared.RaiseAnswer.{RaiseAnswer}
use Rattle.unwind.proofs.Meeting.{by_seen, seen_then, seen_below, caller_held}

-- the search has come to a frame; the fuel left is enough for the frames that may still be given
pub record Searching (arch : ℕ) (l : Lent) (whole : Outcome Searched) (f : Frame) : Type 0 where
  pub fuel : ℕ
  pub left : whole ≡ search_from (suc fuel) arch l f
  pub enough : 1024 ≤ fuel + f.number

module _ (arch : ℕ) (l : Lent) (f : Frame) where
  -- at first all of the search is left
  pub searching_begin : Searching arch l (search arch l f) f
  unfolding search
  searching_begin = record { fuel = 1024; left = refl; enough = omega arith }

  -- what a frame's row says
  abbrev by_row : (Frame → Outcome Searched) → Record → Frame → Found → Outcome Searched
  by_row rest r next row = by_code (numbers arch) f (search_code row) (rest next)

  -- the search by a frame's step and row
  by_frame : (rest : Frame → Outcome Searched) →
      (frame_step arch l f >>= search_at arch l f rest) ≡ (seen true arch l f >>= by_seen (Answer Search.Ended) (by_row rest))
  by_frame rest = seen_then arch l f (search_at arch l f rest) (by_row rest) (λ r next. refl)

  module _ (whole : Outcome Searched) (s : Searching arch l whole f) (file : List ℕ) (x : Result (Option Met) Failure)
      (e : MeetsAny true arch l f file x) where
    abbrev rest : Outcome Searched
    rest = search_from s.fuel arch l (caller_of l f file)

    -- what is left, by how the frame was met
    by_meeting : (v : Result (Option Met) Failure) → x ≡ v →
        whole ≡ (map (seen_any l f file) (outcome v) >>= by_seen (Answer Search.Ended) (by_row (λ h. search_from s.fuel arch l h)))
    by_meeting v p =
        s.left ∙ by_frame (λ h. search_from s.fuel arch l h)
        ∙ ap
        (λ (o : Outcome Seen). o >>= by_seen (Answer Search.Ended) (by_row (λ h. search_from s.fuel arch l h)))
        (sym e ∙ ap (λ (y : Result (Option Met) Failure). map (seen_any l f file) (outcome y)) p)

    -- a refusal is the search's
    pub searching_refused : (n : Failure) → x ≡ Err n → whole ≡ Outcome.Refused (number n)
    searching_refused n p = by_meeting (Err n) p

    module _ (w : Option Met) (p : x ≡ Ok w) (k : ℕ) (q : k ≡ (numbers arch).sp)
        (t : ControlFlow RaiseAnswer (Unit {0})) (g : SearchTurn f.number (get_or f.file k 0) w t) where
      -- what is left, by the turn
      by_turn : whole ≡ search_or t rest
      by_turn = by_meeting (Ok w) p ∙ go w ∙ sym (g rest)
        where
          told : (row : Option Row) →
              by_code (numbers arch) f (search_code (row_as row)) rest ≡ search_row f.number (get_or f.file k 0) row rest
          told None = refl
          told (Some row) = rw q refl

          go : (w : Option Met) →
              (Answer (seen_any l f file w) >>= by_seen (Answer Search.Ended) (by_row (λ h. search_from s.fuel arch l h)))
              ≡ search_met f.number (get_or f.file k 0) w rest
          go None = refl
          go (Some w) = told w.row

      -- a turn that goes on has passed the frame
      pub searching_below : (z : Unit {0}) → t ≡ Continue z → f.number < 1024
      searching_below z h = go w (sym (ap (λ (y : Result (Option Met) Failure). map (seen_any l f file) (outcome y)) p) ∙ e) (λ (x : Outcome Searched). ap (λ (y : ControlFlow RaiseAnswer (Unit {0})). search_or y x) (sym h) ∙ g x)
        where
          go : (w : Option Met) → Answer (seen_any l f file w) ≡ seen true arch l f →
              ((x : Outcome Searched) → x ≡ search_met f.number (get_or f.file k 0) w x) → f.number < 1024
          go None e on = answer-refused Search.Ended 0 (sym (on (Outcome.Refused 0)))
          go (Some w) e on = seen_below true arch l f _ e (λ q. absurd cc)

      -- the search goes on from the caller
      pub searching_on : (z : Unit {0}) → t ≡ Continue z → (b : Bool) → b ≡ next_interrupted l f → Searching arch l whole (frame_with (f.number + 1) b file)
      searching_on z h b i =
          subst (Searching arch l whole) (caller_held l f file b i)
          (go s.fuel s.enough (by_turn ∙ ap (λ (y : ControlFlow RaiseAnswer (Unit {0})). search_or y rest) h))
        where
          go : (n : ℕ) → 1024 ≤ n + f.number → whole ≡ search_from n arch l (caller_of l f file) → Searching arch l whole (caller_of l f file)
          go zero b q = let c = searching_below z h in absurd (omega (arith, c))
          go (suc n) b q = record { fuel = n; left = q; enough = omega arith }

      -- a turn that stops has the answer
      pub searching_stop : (r : RaiseAnswer) → t ≡ Break r → searched (Ok r) ≡ whole
      searching_stop r h = sym (by_turn ∙ ap (λ (y : ControlFlow RaiseAnswer (Unit {0})). search_or y rest) h)
