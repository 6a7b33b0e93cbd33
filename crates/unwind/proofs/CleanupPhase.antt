-- Laws of the cleanup phase, turn by turn, and of a call of resume. Assumes nothing.
use Rattle.std.specs.Prelude.{if◌then◌else◌, Result, Ok, Err, Option, Some, None}
use mathlib.Core.Path.{◌≡◌, refl, sym, ◌∙◌, ap, subst}
use mathlib.Core.Bool.{Bool, true, false}
use mathlib.Core.List.{List}
use Prim.Native.Nat.{ℕ, zero, suc, ◌+◌, ◌≤◌, ◌<◌}
use native.Mathlib.Omega.{arith}
use lib.Dec.{eqb, ltb}
use lib.ListN.{get_or, set}
use borrow.Author.Tests.{lt-ltb, le-ltb, ne_eqb}
use Rattle.failure.specs.Outcome.{Outcome, Answer, Beside, outcome, map, ◌>>=◌}
use Rattle.failure.specs.Failure.{number}
use Rattle.failure.specs.declared.Failure.{Failure}
use Rattle.failure.proofs.Outcome.{answer-refused}
use Rattle.mem.specs.Memory.{Lent}
use Rattle.mem.specs.Wrapping.{sum}
use Rattle.arch.specs.Arch.{numbers}
use Rattle.arch.specs.File.{sp, set_pc}
use Rattle.rows.specs.Row as Row
use Rattle.rows.specs.Row.{Found, number_of, catch}
use Rattle.rows.specs.declared.Action.{Action}
use Rattle.rows.specs.declared.Row as declared
use Rattle.rows.specs.declared.Action.TheVariants as action
use Rattle.rows.specs.contracts.Action.{the_type}
use denote.Enum.Bare.{sameb}
use Rattle.lookup.specs.declared.Record.{Record}
use Rattle.personality.proofs.Reasons.{install}
use Rattle.model.specs.declared.Unwinding.{Unwinding}
use Rattle.model.specs.FrameStep.{Frame, next_interrupted, caller_of, frame_step}
use Rattle.model.specs.Cleanup as Cleanup
use Rattle.model.specs.Cleanup.{Choice, Cleaned, install_pad, by_row, clean_at, clean_from, clean}
use Rattle.model.specs.Unwinding.{frame_of, choice_of, going_on, resume}
use Rattle.unwind.specs.Answers.{accepts, frame_with, Handed, unmoved, resumed_by}
use Rattle.unwind.specs.Turns.{Seen, row_as, seen_any, MeetsAny, clean_pad, clean_row, clean_past, clean_by, install_at, clean_or}
use Rattle.unwind.specs.declared.Met.{Met}
use Rattle.unwind.specs.declared.ResumeAnswer.{ResumeAnswer}
use Rattle.unwind.specs.declared.ResumeAnswer.TheVariants as answer
use Rattle.unwind.specs.declared.cleanup.Cleaning.{Cleaning}
use Rattle.unwind.specs.declared.cleanup.Cleaning.TheVariants.{On, Install, Fatal}
use Rattle.unwind.proofs.Meeting.{by_seen, seen_then, seen_below, caller_held}
use Rattle.unwind.proofs.Opened.{opened_by}

-- what `==` says of an action and a catch
pub compared_catch : (a : Action) → eqb (number_of a) catch ≡ sameb the_type a action.Catch
compared_catch action.Cleanup = refl
compared_catch action.Catch = refl
compared_catch action.Terminate = refl

-- a landing, by the file at the pad
installs : (arch exception number start pad : ℕ) (file : List ℕ) (next : Frame) →
    install_at (numbers arch) exception number start pad file next
    ≡ Answer (Cleanup.Install number (set_pc (set (set file 0 exception) 1 0) (sum start pad)) next)
unfolding install_at
installs arch exception number start pad file next = rw (install arch exception start pad file)

-- what a frame's step and row say in the cleanup phase
module _ (arch : ℕ) (l : Lent) (exception : ℕ) (c : Choice) (f : Frame) where
  abbrev below : Bool
  below = ltb f.number c.number

  abbrev same : Bool
  same = eqb (sp (numbers arch) f.file) c.sp

  -- what a frame's row says
  abbrev by_found : (Frame → Outcome Cleaned) → Record → Frame → Found → Outcome Cleaned
  by_found rest r next row = by_row (numbers arch) exception c f r next (rest next) row

  -- a row, where it is known how the numbers and the action compare
  by_row_lem : (r : Record) (next : Frame) (rest : Outcome Cleaned) (pad action : ℕ) →
      by_row (numbers arch) exception c f r next rest (Row.Pad pad action)
      ≡ clean_or (numbers arch) exception f next (clean_pad below same r.start pad action) rest
  unfolding install_pad install_at
  by_row_lem r next rest pad action = go below refl (eqb action 0) refl (eqb action 1) refl same refl
    where
      go : (b : Bool) → below ≡ b → (z : Bool) → eqb action 0 ≡ z → (o : Bool) → eqb action 1 ≡ o → (s : Bool) → same ≡ s →
          by_row (numbers arch) exception c f r next rest (Row.Pad pad action)
          ≡ clean_or (numbers arch) exception f next (clean_pad below same r.start pad action) rest
      go true p true q o v s w = rw (p, q)
      go true p false q true v s w = rw (p, q, v)
      go true p false q false v s w = rw (p, q, v)
      go false p z q true v true w = rw (p, v, w)
      go false p z q true v false w = rw (p, v, w)
      go false p z q false v s w = rw (p, v)

  -- the same of a frame that was met
  by_met : (file : List ℕ) (x : Result (Option Met) Failure) → MeetsAny true arch l f file x → (rest : Frame → Outcome Cleaned) →
      (frame_step arch l f >>= clean_at arch l exception c f rest)
      ≡ clean_or (numbers arch) exception f (caller_of l f file) (clean_by below same (outcome x)) (rest (caller_of l f file))
  unfolding clean_row
  by_met file x e rest =
      seen_then arch l f (clean_at arch l exception c f rest) (by_found rest) (λ r next. refl)
      ∙ ap (λ (o : Outcome Seen). o >>= by_seen (Outcome.Refused 22) (by_found rest)) (sym e)
      ∙ go x
    where
      rowless : (b : Bool) →
          (if b then rest (caller_of l f file) else Outcome.Refused 22)
          ≡ clean_or (numbers arch) exception f (caller_of l f file) (if b then Answer On else Outcome.Refused 22) (rest (caller_of l f file))
      rowless true = refl
      rowless false = refl

      past : (r : Record) (row : Option declared.Row) →
          by_row (numbers arch) exception c f r (caller_of l f file) (rest (caller_of l f file)) (row_as row)
          ≡ clean_or (numbers arch) exception f (caller_of l f file) (clean_past below same r.start row) (rest (caller_of l f file))
      past r None = rowless below
      past r (Some row) = by_row_lem r (caller_of l f file) (rest (caller_of l f file)) row.pad (number_of row.action)

      go : (x : Result (Option Met) Failure) →
          (map (seen_any l f file) (outcome x) >>= by_seen (Outcome.Refused 22) (by_found rest))
          ≡ clean_or (numbers arch) exception f (caller_of l f file) (clean_by below same (outcome x)) (rest (caller_of l f file))
      go (Err n) = refl
      go (Ok None) = refl
      go (Ok (Some w)) = past w.«record» w.row

-- what a sweep from a frame on comes to, for an unwinding
abbrev pub cleaned_from : ℕ → ℕ → Lent → Unwinding → Frame → Outcome Cleaned
cleaned_from n arch l u f = clean_from n arch l u.exception (choice_of u) f

-- the sweep of an unwinding has come to a frame; the fuel left is enough for the frames that may still be given
pub record UnderWay (arch : ℕ) (l : Lent) (u : Unwinding) (f : Frame) : Type 0 where
  pub fuel : ℕ
  pub left : cleaned_from 1025 arch l u (frame_of u) ≡ cleaned_from (suc fuel) arch l u f
  pub enough : 1024 ≤ fuel + f.number

module _ (arch : ℕ) (l : Lent) (u : Unwinding) where
  -- at first all of the sweep is left
  pub cleaning_begin : UnderWay arch l u (frame_of u)
  cleaning_begin = record { fuel = 1024; left = refl; enough = omega arith }

  module _ (f : Frame) (file : List ℕ) (x : Result (Option Met) Failure) (e : MeetsAny true arch l f file x) (b s : Bool)
      (p : b ≡ ltb f.number u.chosen_number) (k : ℕ) (i : k ≡ (numbers arch).sp) (q : s ≡ eqb (get_or f.file k 0) u.chosen_sp)
      (t : Result Cleaning Failure)
      (g : outcome t ≡ clean_by b s (outcome x)) where
    -- a turn that is not refused has passed the frame
    pub cleaning_below : (v : Cleaning) → t ≡ Ok v → f.number < 1024
    cleaning_below v h = go x e (sym (ap (λ (y : Result Cleaning Failure). outcome y) h) ∙ g)
      where
        go : (x : Result (Option Met) Failure) → MeetsAny true arch l f file x → Answer v ≡ clean_by b s (outcome x) → f.number < 1024
        go (Err n) e z = answer-refused v _ z
        go (Ok None) e z = answer-refused v _ z
        go (Ok (Some w)) e z = seen_below true arch l f _ e (λ y. absurd cc)

    module _ (d : UnderWay arch l u f) where
      -- what is left, by the turn
      by_turn : (v : Result Cleaning Failure) → t ≡ v →
          cleaned_from 1025 arch l u (frame_of u)
          ≡ clean_or (numbers arch) u.exception f (caller_of l f file) (outcome v) (cleaned_from d.fuel arch l u (caller_of l f file))
      by_turn v h =
          d.left
          ∙ by_met arch l u.exception (choice_of u) f file x e (λ (y : Frame). cleaned_from d.fuel arch l u y)
          ∙ ap
          (λ (y : Outcome Cleaning).
          clean_or (numbers arch) u.exception f (caller_of l f file) y (cleaned_from d.fuel arch l u (caller_of l f file)))
          (ap (λ (y : Bool). clean_by y (eqb (sp (numbers arch) f.file) u.chosen_sp) (outcome x)) (sym p)
          ∙ ap (λ (y : Bool). clean_by b y (outcome x)) (sym (q ∙ ap (λ (y : ℕ). eqb (get_or f.file y 0) u.chosen_sp) i))
          ∙ sym g
          ∙ ap (λ (y : Result Cleaning Failure). outcome y) h)

      -- it goes on from the caller
      pub cleaning_on : t ≡ Ok On → (b : Bool) → b ≡ next_interrupted l f → UnderWay arch l u (frame_with (f.number + 1) b file)
      cleaning_on h b y = subst (UnderWay arch l u) (caller_held l f file b y) (go d.fuel d.enough (by_turn (Ok On) h))
        where
          go : (n : ℕ) → 1024 ≤ n + f.number →
              cleaned_from 1025 arch l u (frame_of u) ≡ cleaned_from n arch l u (caller_of l f file) → UnderWay arch l u (caller_of l f file)
          go zero i k =
              let c = cleaning_below On h in
              absurd (omega (arith, c))
          go (suc n) i k = record { fuel = n; left = k; enough = omega arith }

      -- a landing
      pub cleaning_lands : (start pad : ℕ) → t ≡ Ok (Install start pad) → (own : List ℕ) →
          own ≡ set_pc (set (set f.file 0 u.exception) 1 0) (sum start pad) → (b : Bool) → b ≡ next_interrupted l f →
          (v : Unwinding) → v ≡ going_on u (frame_with (f.number + 1) b file) →
          ◌≡◌ {A = Beside ResumeAnswer Handed}
          record { answer = Answer (answer.Install f.number); state = record { file = own; unwinding = v } }
          (resumed_by u (cleaned_from 1025 arch l u (frame_of u)))
      cleaning_lands start pad h own x b z v y =
          rw (x, y ∙ ap (going_on u) (sym (caller_held l f file b z)))
          (sym
          (ap (resumed_by u)
          (by_turn (Ok (Install start pad)) h ∙ installs arch u.exception f.number start pad f.file (caller_of l f file))))

      -- 2
      pub cleaning_fatal : t ≡ Ok Fatal → unmoved (Answer answer.Fatal) u ≡ resumed_by u (cleaned_from 1025 arch l u (frame_of u))
      cleaning_fatal h = sym (ap (resumed_by u) (by_turn (Ok Fatal) h))

      -- a refusal
      pub cleaning_refused : (n : Failure) → t ≡ Err n →
          unmoved (Outcome.Refused (number n)) u ≡ resumed_by u (cleaned_from 1025 arch l u (frame_of u))
      cleaning_refused n h = sym (ap (resumed_by u) (by_turn (Err n) h))

module _ (l : Lent) (arch : ℕ) (u : Unwinding) where
  -- not accepted
  pub resumed_28 : (n : ℕ) → Outcome.Refused n ≡ accepts l arch → unmoved (Outcome.Refused n) u ≡ resumed_by u (resume l arch u)
  unfolding resume
  resumed_28 n c = ap (resumed_by u) (opened_by l arch _ (Outcome.Refused n) c)

  module _ (x : Unit {0}) (c : Answer x ≡ accepts l arch) where
    -- accepted: by whether a frame is chosen
    by_chosen : (t : Bool) → u.chosen ≡ t →
        (if t then clean arch l u.exception (choice_of u) (frame_of u) else Answer Cleanup.Finished) ≡ resume l arch u
    unfolding resume
    by_chosen t e =
        ap
        (λ (x : Bool). if x then clean arch l u.exception (choice_of u) (frame_of u) else Answer Cleanup.Finished)
        (sym e)
        ∙ opened_by l arch
        (if u.chosen then clean arch l u.exception (choice_of u) (frame_of u) else Answer Cleanup.Finished) (Answer x) c

    -- nothing is chosen
    pub resumed-unchosen : u.chosen ≡ false → unmoved (Answer answer.Finished) u ≡ resumed_by u (resume l arch u)
    resumed-unchosen e = ap (resumed_by u) (by_chosen false e)

    module _ (e : u.chosen ≡ true) where
      -- the chosen frame has landed
      pub resumed-finished : u.chosen_number < u.number → unmoved (Answer answer.Finished) u ≡ resumed_by u (resume l arch u)
      unfolding clean
      resumed-finished h = ap (resumed_by u) (rw (lt-ltb u.chosen_number u.number h) at (by_chosen true e))

      -- the next landing
      pub resumed-on : u.number ≤ u.chosen_number →
          resumed_by u (cleaned_from 1025 arch l u (frame_of u)) ≡ resumed_by u (resume l arch u)
      unfolding clean
      resumed-on h = ap (resumed_by u) (rw (le-ltb u.chosen_number u.number h) at (by_chosen true e))

-- an action below the chosen number that is no cleanup and no catch is fatal
pub below-terminate : (start pad action : ℕ) → (action ≡ 0 → ⊥) → (action ≡ 1 → ⊥) →
    Answer Fatal ≡ clean_pad true false start pad action
below-terminate start pad action o e = rw (ne_eqb action 0 o, ne_eqb action 1 e) refl

-- so is a row with such an action
pub row-terminate : (start : ℕ) (row : declared.Row) → (number_of row.action ≡ 0 → ⊥) → (number_of row.action ≡ 1 → ⊥) →
    Answer Fatal ≡ clean_row true false start row
unfolding clean_row
row-terminate start row o e = below-terminate start row.pad (number_of row.action) o e
