-- Laws of a frame's step and row. Assumes nothing.
use Rattle.std.proofs.Common.{◌≡◌, ℕ, ◌+◌, ◌-◌, ◌^◌, ◌<◌, Bool, true, false, not, ◌&&◌, List, Ok, Option, None, Some, refl, sym, ap, ◌∙◌, arith}
use borrow.Author.Tests.{not-false, eq-eqb, ne_eqb}
use Rattle.failure.specs.Outcome.{Outcome, Refused, Answer, map, ◌>>=◌}
use Rattle.failure.proofs.Outcome.{answer-refused}
use Rattle.mem.specs.Memory.{Memory, Lent}
use Rattle.arch.specs.Arch.{Arch, numbers}
use Rattle.arch.specs.File.{pc}
use Rattle.rows.specs.Row.{Found, found}
use Rattle.rows.specs.declared.Row.{Row}
use Rattle.lookup.specs.declared.Record.{Record}
use Rattle.personality.specs.Reason.{rowless, offset_in, row_after, row_of}
use Rattle.personality.proofs.Reasons.{row_none, after_run, after_refused}
use Rattle.state.specs.declared.State.{State}
use Rattle.program.specs.Run.{Ran, run}
use Rattle.program.specs.Answers.{ended, Runs, through}
use Rattle.rows.specs.Handler.{handler}
use Rattle.rows.specs.Handler2.{handler2}
use Rattle.frame.specs.Layout.{layout}
use Rattle.frame.specs.Apply.{apply}
use Rattle.model.specs.FrameStep as Walk
use Rattle.model.specs.FrameStep.{Frame, Step, next_interrupted, caller_of, caller_file, past, past_found, frame_step}
use Rattle.unwind.specs.Answers.{frame_with}
use Rattle.unwind.specs.Turns.{record_of, Seen, End, Past, seen_at, seen, caller_by_run, row_as, met_row, seen_by}
use Rattle.unwind.specs.declared.Met.{Met}
use Rattle.unwind.proofs.Walks.{record_in, step_by_record, record_bounds, by_run, by_run_refused}

-- what a frame comes to, by what follows the end and what follows its row
abbrev pub by_seen : {A : Type 0} → Outcome A → (Record → Frame → Found → Outcome A) → Seen → Outcome A
by_seen end on End = end
by_seen end on (Past r next row) = on r next row

-- what follows a frame's step, where past the frame its row is looked for
pub seen_then : {A : Type 0} (arch : ℕ) (l : Lent) (f : Frame) (k : Step → Outcome A) (on : Record → Frame → Found → Outcome A) →
    ((r : Record) (next : Frame) → k (Walk.Past r next) ≡ (row_of (numbers arch) l.regions f.interrupted r (pc f.file) >>= on r next)) →
    (frame_step arch l f >>= k) ≡ (seen true arch l f >>= by_seen (k Walk.End) on)
unfolding seen
seen_then arch l f k on h = go (frame_step arch l f)
  where
    by_row : (r : Record) (next : Frame) (o : Outcome Found) →
        (o >>= on r next) ≡ ((o >>= λ row. Answer (Past r next row)) >>= by_seen (k Walk.End) on)
    by_row r next (Refused n) = refl
    by_row r next (Answer row) = refl

    go : (o : Outcome Step) → (o >>= k) ≡ ((o >>= seen_at true arch l f) >>= by_seen (k Walk.End) on)
    go (Refused n) = refl
    go (Answer Walk.End) = refl
    go (Answer (Walk.Past r next)) = h r next ∙ by_row r next (row_of (numbers arch) l.regions f.interrupted r (pc f.file))

-- a frame's step and row, by its record
pub seen-located : (arch : ℕ) (l : Lent) (f : Frame) (o : Outcome (Option Record)) → o ≡ record_in arch l f → (rows : Bool) →
    ((o >>= past_found (numbers arch) l f) >>= seen_at rows arch l f) ≡ seen rows arch l f
unfolding seen
seen-located arch l f o e rows = ap (λ (x : Outcome Step). x >>= seen_at rows arch l f) (step_by_record arch l f o e)

module _ (arch : ℕ) (l : Lent) (f : Frame) (r : Record) (at : ℕ) (q : at ≡ pc f.file)
    (e : Answer (Some r) ≡ record_of l arch f.number f.interrupted at) where
  -- a frame's step and row, by the step past its record
  by_past : (rows : Bool) (o : Outcome Step) → o ≡ past (numbers arch) l f r → (o >>= seen_at rows arch l f) ≡ seen rows arch l f
  unfolding seen
  by_past rows o p =
      ap (λ (x : Outcome Step). x >>= seen_at rows arch l f)
      (p
      ∙ step_by_record arch l f (Answer (Some r))
      (e ∙ ap (λ (k : ℕ). record_of l arch f.number f.interrupted k) q))

  -- the step is refused
  pub meets_refused : (rows : Bool) (n : ℕ) → Refused n ≡ past (numbers arch) l f r → Refused n ≡ seen rows arch l f
  meets_refused rows n p = by_past rows (Refused n) p

  module _ (rows : Bool) (file : List ℕ) (p : Answer (Walk.Past r (caller_of l f file)) ≡ past (numbers arch) l f r) where
    -- past the frame, where no row is asked for or it has none
    pub meets_unasked : (rows && not (rowless f.interrupted r at)) ≡ false →
        Answer (Past r (caller_of l f file) Found.None) ≡ seen rows arch l f
    meets_unasked h = go rows h ∙ by_past rows (Answer (Walk.Past r (caller_of l f file))) p
      where
        go : (s : Bool) → (s && not (rowless f.interrupted r at)) ≡ false →
            Answer (Past r (caller_of l f file) Found.None) ≡ seen_at s arch l f (Walk.Past r (caller_of l f file))
        go true e =
            ap (λ (o : Outcome Found). o >>= λ z. Answer (Past r (caller_of l f file) z))
            (row_none (numbers arch) l.regions f.interrupted r at (not-false _ e)
            ∙ ap (λ (k : ℕ). row_of (numbers arch) l.regions f.interrupted r k) q)
        go false e = refl

    module _ (k : rows ≡ true) where
      by_row : (o : Outcome Found) → o ≡ row_of (numbers arch) l.regions f.interrupted r at →
          (o >>= λ z. Answer (Past r (caller_of l f file) z)) ≡ seen rows arch l f
      by_row o g =
          ap (λ (x : Outcome Found). x >>= λ z. Answer (Past r (caller_of l f file) z))
          (g ∙ ap (λ (i : ℕ). row_of (numbers arch) l.regions f.interrupted r i) q)
          ∙ by_past true (Answer (Walk.Past r (caller_of l f file))) p
          ∙ ap (λ (b : Bool). seen b arch l f) (sym k)

      -- past the frame, by its row
      pub meets_row : (x : Option Row) → found (Ok x) ≡ row_of (numbers arch) l.regions f.interrupted r at → (w : Met) → w ≡ met_row r x →
          Answer (seen_by l f file w) ≡ seen rows arch l f
      meets_row x g w h = ap (λ (y : Met). Answer (seen_by l f file y)) h ∙ told x ∙ by_row (found (Ok x)) g
        where
          told : (x : Option Row) →
              Answer (Past r (caller_of l f file) (row_as x)) ≡ (found (Ok x) >>= λ z. Answer (Past r (caller_of l f file) z))
          told None = refl
          told (Some row) = refl

      -- the row is refused
      pub meets_rowless_refused : (n : ℕ) → Refused n ≡ row_of (numbers arch) l.regions f.interrupted r at → Refused n ≡ seen rows arch l f
      meets_rowless_refused n g = by_row (Refused n) g

-- the row of a frame that may have one: by its version
module _ (a : Arch) (m : Memory) (interrupted : Bool) (r : Record) (at : ℕ) (some : rowless interrupted r at ≡ false) where
  pub row_1 : (r.version ≡ 2 → ⊥) → (o : Outcome Found) → o ≡ handler m r.handlers (offset_in r at) → o ≡ row_of a m interrupted r at
  unfolding row_of
  row_1 v o p = rw (some, ne_eqb r.version 2 v) p

  pub row_2 : r.version ≡ 2 → (o : Outcome Found) → o ≡ row_after a m r (offset_in r at) → o ≡ row_of a m interrupted r at
  unfolding row_of
  row_2 v o p = rw (some, eq-eqb r.version 2 v) p

-- what two runs in one pass say
module _ (a : Arch) (m : Memory) (program limit off : ℕ) (entry : State) (second : Outcome Ran) (t : Runs) (file : List ℕ)
    (e : t ≡ through entry (run m a program limit off) second) where
  -- the caller's registers, by the state at the offset
  pub ran-applied : t.status ≡ Answer tt → apply a m (layout t.state) file ≡ caller_by_run a m program limit off file
  ran-applied p =
      ap (λ (x : Runs). apply a m (layout x.state) file) e
      ∙ go (run m a program limit off) refl (sym (ap (λ (x : Runs). x.status) e) ∙ p)
    where
      go : (x : Outcome Ran) → run m a program limit off ≡ x → (ended entry x).status ≡ Answer tt →
          apply a m (layout (ended entry x).state) file ≡ caller_by_run a m program limit off file
      go (Refused n) q k = answer-refused tt n (sym k)
      go (Answer ran) q k = by_run a m program limit off file ran q

  -- unless that run is refused
  pub ran_refused : (n : ℕ) → t.status ≡ Refused n → Refused n ≡ caller_by_run a m program limit off file
  ran_refused n p = go (run m a program limit off) refl (sym (ap (λ (x : Runs). x.status) e) ∙ p)
    where
      go : (x : Outcome Ran) → run m a program limit off ≡ x → (ended entry x).status ≡ Refused n →
          Refused n ≡ caller_by_run a m program limit off file
      go (Refused k) q h =
          let z : n ≡ k = cc in
          ap Refused z ∙ by_run_refused a m program limit off file k q
      go (Answer ran) q h = answer-refused tt n h

-- the row after the program's END
module _ (a : Arch) (m : Memory) (r : Record) (ret : ℕ) (second : Outcome Ran) (q : run m a r.program r.limit (2 ^ 64 - 1) ≡ second) (end : Outcome ℕ)
    (e : end ≡ map (λ (x : Ran). x.after) second) where
  pub end_row : (after : ℕ) → Answer after ≡ end → handler2 m after r.limit ret ≡ row_after a m r ret
  end_row after p = go second q (p ∙ e)
    where
      go : (y : Outcome Ran) → run m a r.program r.limit (2 ^ 64 - 1) ≡ y → Answer after ≡ map (λ (x : Ran). x.after) y →
          handler2 m after r.limit ret ≡ row_after a m r ret
      go (Refused n) k h = answer-refused after n h
      go (Answer ran) k h =
          let same : after ≡ ran.after = cc in
          ap (λ (x : ℕ). handler2 m x r.limit ret) same ∙ after_run a m r ret ran k (handler2 m ran.after r.limit ret) refl

  pub end_refused : (n : ℕ) → Refused n ≡ end → Refused n ≡ row_after a m r ret
  end_refused n p = go second q (p ∙ e)
    where
      go : (y : Outcome Ran) → run m a r.program r.limit (2 ^ 64 - 1) ≡ y → Refused n ≡ map (λ (x : Ran). x.after) y → Refused n ≡ row_after a m r ret
      go (Refused k) g h =
          let same : n ≡ k = cc in
          ap Refused same ∙ after_refused a m r ret k g
      go (Answer ran) g h = answer-refused ran.after n (sym h)

-- a row is asked for, and the frame may have one
pub asked-rows : (rows interrupted : Bool) (r : Record) (at : ℕ) (b : Bool) → b ≡ (rows && not (rowless interrupted r at)) → b ≡ true →
    (rows ≡ true) × (rowless interrupted r at ≡ false)
asked-rows rows interrupted r at b e p = go rows (rowless interrupted r at) (sym e ∙ p)
  where
    go : (s t : Bool) → (s && not t) ≡ true → (s ≡ true) × (t ≡ false)
    go true true e = let z : ◌≡◌ {A = ℕ} 0 1 = cc in absurd (omega arith)
    go true false e = (refl, refl)
    go false t e = let z : ◌≡◌ {A = ℕ} 0 1 = cc in absurd (omega arith)

-- so that its version is not 2, where those of version 2 have gone another way
pub not_both : (b : Bool) → b ≡ true → b ≡ false → ⊥
not_both b e f = let z : ◌≡◌ {A = ℕ} 0 1 = cc in absurd (omega arith)

pub seen-asked : (rows : Bool) (arch : ℕ) (l : Lent) (f : Frame) → rows ≡ true → (o : Outcome Seen) → o ≡ seen true arch l f →
    o ≡ seen rows arch l f
seen-asked rows arch l f h o e = e ∙ ap (λ (b : Bool). seen b arch l f) (sym h)

-- the code's flag is the walk's
pub never_interrupted : (l : Lent) (f : Frame) → false ≡ next_interrupted l f
unfolding next_interrupted
never_interrupted l f = refl

-- the caller as the code holds it
pub caller_held : (l : Lent) (f : Frame) (file : List ℕ) (b : Bool) → b ≡ next_interrupted l f →
    caller_of l f file ≡ frame_with (f.number + 1) b file
caller_held l f file b e = ap (λ (x : Bool). frame_with (f.number + 1) x file) (sym e)

-- a frame whose step is neither an end nor refused has a record, and fewer than 1,024 came before it
pub step-below : {A : Type 0} (arch : ℕ) (l : Lent) (f : Frame) (k : Step → Outcome A) (x : A) → Answer x ≡ (frame_step arch l f >>= k) →
    (Answer x ≡ k Walk.End → ⊥) → f.number < 1024
step-below {A = A} arch l f k x e h = go (record_in arch l f) refl
  where
    go : (o : Outcome (Option Record)) → o ≡ record_in arch l f → f.number < 1024
    go (Refused n) p =
        let s : Answer x ≡ Refused n = e ∙ sym (ap (λ (y : Outcome Step). y >>= k) (step_by_record arch l f (Refused n) p)) in
        let z : ◌≡◌ {A = ℕ} 0 1 = cc in
        absurd (omega arith)
    go (Answer None) p = absurd (h (e ∙ sym (ap (λ (y : Outcome Step). y >>= k) (step_by_record arch l f (Answer None) p))))
    go (Answer (Some r)) p = (record_bounds _ _ _ _ _ r p).1

pub seen_below : (rows : Bool) (arch : ℕ) (l : Lent) (f : Frame) (x : Seen) → Answer x ≡ seen rows arch l f → (x ≡ End → ⊥) →
    f.number < 1024
unfolding seen
seen_below rows arch l f x e h =
    step-below arch l f (seen_at rows arch l f) x e (λ (q : Answer x ≡ Answer End). let z : x ≡ End = cc in h z)
