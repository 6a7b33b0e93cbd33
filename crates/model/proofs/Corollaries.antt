-- What follows from demand 3: at most 1,024 landings, then finished; and stacks that agree on live slots give the same. The invariant
-- holds of every machine that events make of a fresh one (`Steps`). Assumes nothing.
use Rattle.std.specs.Prelude.{if◌then◌else◌}
use mathlib.Core.Bool.{Bool, true, false}
use mathlib.Core.List.Memᴰ
use mathlib.Core.List.{List, [], ◌∷◌}
use mathlib.Core.Logic.{inl}
use mathlib.Core.Option.{some}
use mathlib.Core.Path.{◌≡◌, refl, sym, ◌∙◌, ap, subst}
use Prim.Native.Nat.{ℕ, zero, suc, ◌+◌, ◌≤◌, ◌<◌}
use native.Mathlib.Omega.{arith}
use lib.Dec.{eqb}
use lib.ListN.{length, get_elem?}
use Rattle.failure.specs.Outcome.{Outcome, Refused, Answer}
use Rattle.mem.specs.Memory.{Region}
use Rattle.mem.specs.Opening.{opens}
use Rattle.arch.specs.Arch.{Arch, numbers}
use Rattle.rows.specs.Row.{Found, None, Pad, cleanup, catch}
use Rattle.model.specs.declared.Unwinding.{Unwinding}
use Rattle.model.specs.FrameStep.{max_frames}
use Rattle.model.specs.Search.{Searched, Chosen, Stopped, Ended}
use Rattle.model.specs.Cleanup.{Cleaned}
use Rattle.model.specs.Machine.{Open, Machine, lent_by, Tables, caller_interrupted, arch_of}
use Rattle.model.specs.Throw.{Throw, thrown, throwable, throw_allowed, Standing, standing, frames_at, row_of}
use Rattle.model.specs.Sound.{Sound}
use Rattle.model.specs.Expected.{LandingPad, Compared, Finished, pad_of, pads_by, pads_from, outcome, due, due_by, first_of}
use Rattle.model.specs.OtherStack.{SameLive, with_stack}
use Rattle.model.specs.Demand.{ResumeCall, Kind, answer_of, current, IsRefused, Admissible, Each, Served, unless_refused, answers, raised_by, unwinding_of, EveryLanding, Regular}
use Rattle.model.proofs.Chain.{AllLive, Inv}
use Rattle.model.proofs.Live.{same_live}
use Rattle.model.proofs.Theorem.{every_landing}

-- each landing is of a frame of its own
pads_length : (ts : Tables) (n : ℕ) (ss : List Standing) → length (pads_from ts n ss) ≤ length ss
pads_length ts n [] = omega arith
pads_length ts n (s ∷ ss) = go (row_of ts s) (pads_length ts (n + 1) ss)
  where
    rest : List LandingPad
    rest = pads_from ts (n + 1) ss

    acts : (l : LandingPad) (t u : Bool) → length rest ≤ length ss → length (if t then l ∷ rest else if u then l ∷ [] else []) ≤ suc (length ss)
    acts l true u h = omega arith
    acts l false true h = omega arith
    acts l false false h = omega arith

    go : (row : Found) → length rest ≤ length ss → length (pads_by (numbers ts.arch) n s row rest) ≤ suc (length ss)
    go None h = omega arith
    go (Pad pad action) h = acts (pad_of (numbers ts.arch) n s pad) (eqb action cleanup) (eqb action catch) h

-- and each frame an open one
standing-length : (interrupted : Bool) (file : List ℕ) (fs : List Open) → length (standing interrupted file fs) ≡ length fs
standing-length interrupted file [] = refl
standing-length interrupted file (f ∷ fs) = ap suc (standing-length (caller_interrupted f) f.kept fs)

-- at most 1,024 landings are due
pub due-few : (m : Machine) → Inv m → (t : Throw) → length (due m t) ≤ max_frames
unfolding due
due-few m i t = go (outcome m t)
  where
    ls : List LandingPad
    ls = pads_from m.tables 0 (frames_at m t)

    go : (o : Searched) → length (due_by o ls) ≤ max_frames
    go (Chosen k p) =
        let all = pads_length m.tables 0 (frames_at m t) in
        let frames = standing-length t.interrupted (thrown m t) m.frames in
        let few = i.few in
        omega arith
    go Stopped = omega arith
    go Ended = omega arith

-- past the landings, every answer is finished
first-finished : (n : ℕ) (ls : List LandingPad) (k : ℕ) → length ls ≤ k → k < n → get_elem? (first_of n ls) k ≡ some Finished
first-finished zero ls k past less = absurd (omega arith)
first-finished (suc n) [] zero past less = refl
first-finished (suc n) [] (suc k) past less = first-finished n [] k (omega arith) (omega arith)
first-finished (suc n) (l ∷ ls) zero past less = absurd (omega arith)
first-finished (suc n) (l ∷ ls) (suc k) past less = first-finished n ls k (omega arith) (omega arith)

-- after every landing that is due was given, each further call that is not refused answers finished
pub then_finished : (m : Machine) (t : Throw) (exception : ℕ) → EveryLanding (Regular m) m t exception → (cs : List ResumeCall) →
    Admissible (Regular m) (unwinding_of m t exception) cs → (k : ℕ) → length (due m t) ≤ k → k < length (answers (arch_of m) cs) →
    get_elem? (answers (arch_of m) cs) k ≡ some Finished
then_finished m t exception every cs admissible k past less =
    ap (λ (gs : List Compared). get_elem? gs k) (every.lands cs admissible).1
    ∙ first-finished (length (answers (arch_of m) cs)) (due m t) k past less

-- a list of calls of one kind
module _ (Of : Kind) where
  -- is one that demand 3 for that kind speaks of
  pub each-admissible : (cs : List ResumeCall) (u : Unwinding) → Each Of u cs → Admissible Of u cs
  each-admissible [] u e = tt
  each-admissible (c ∷ cs) u e = (inl e.0, each-admissible cs (current u c) e.1)

  -- and where none of that kind is refused, each call answers
  each-answers : (a : Arch) (cs : List ResumeCall) (u : Unwinding) → Each Of u cs → Served Of u cs → length (answers a cs) ≡ length cs
  each-answers a [] u e s = refl
  each-answers a (c ∷ cs) u e s = go (answer_of c) refl (each-answers a cs (current u c) e.1 s.1)
    where
      go : (o : Outcome Cleaned) → answer_of c ≡ o → length (answers a cs) ≡ length cs →
          length (unless_refused a (answer_of c) (answers a cs)) ≡ suc (length cs)
      go (Refused n) is rest = absurd (s.0 e.0 (subst IsRefused (sym is) tt))
      go (Answer x) is rest = rw is (ap suc rest)

  -- so as many landings are given as there are calls, then finished
  pub all_given : (m : Machine) (t : Throw) (exception : ℕ) → EveryLanding Of m t exception → (cs : List ResumeCall) →
      Each Of (unwinding_of m t exception) cs → answers (arch_of m) cs ≡ first_of (length cs) (due m t)
  all_given m t exception every cs e =
      let u : Unwinding = unwinding_of m t exception in
      let l = every.lands cs (each-admissible cs u e) in
      l.1 ∙ ap (λ (n : ℕ). first_of n (due m t)) (each-answers (arch_of m) cs u e l.0)

-- a stack that agrees on the live slots holds the kept values in them
other_live : (a : Arch) (stack other : Region) (fs : List Open) → AllLive a stack fs → SameLive stack other fs → AllLive a other fs
other_live a stack other [] live same = tt
other_live a stack other (f ∷ fs) live same = (
  same_live a stack other f live.0 (same f (Memᴰ.head refl)),
  other_live a stack other fs live.1 (λ g i. same g (Memᴰ.tail i)),
)

module _
    (m : Machine) (i : Inv m) (other : Region) (accepted : opens (lent_by (with_stack m other)) ≡ true)
    (same : SameLive m.stack other m.frames) where
  -- so the invariant holds of the machine with that stack too
  pub other_inv : Inv (with_stack m other)
  other_inv =
      record {
        known = i.known;
        accepted = accepted;
        bytes = i.bytes;
        wide = i.wide;
        values = i.values;
        few = i.few;
        live = other_live (arch_of m) m.stack other m.frames i.live same;
        inner = i.inner;
      }

  -- the rules of a throw do not look at the stack
  other_throwable : (t : Throw) (fs : List Open) → throwable (with_stack m other) t fs ≡ throwable m t fs
  other_throwable t [] = refl
  other_throwable t (f ∷ fs) = refl

  pub other_allowed : (t : Throw) → throw_allowed m t ≡ true → throw_allowed (with_stack m other) t ≡ true
  unfolding throw_allowed
  other_allowed t allowed = other_throwable t m.frames ∙ allowed

  -- nor does soundness
  pub other_sound : (t : Throw) → Sound m t → Sound (with_stack m other) t
  other_sound t s = record { tables = s.tables; frames = s.frames }

  module _ (t : Throw) (allowed : throw_allowed m t ≡ true) (s : Sound m t) where
    -- every landing, and no other, after the same throw
    other_every : (exception : ℕ) → EveryLanding (Regular (with_stack m other)) (with_stack m other) t exception
    other_every = every_landing (with_stack m other) other_inv t (other_allowed t allowed) (other_sound t s)

    -- what is expected does not look at the stack
    pub other_expected : (outcome (with_stack m other) t ≡ outcome m t) × (due (with_stack m other) t ≡ due m t)
    unfolding outcome due
    other_expected = (refl, refl)

    -- the throw answers the same
    pub other_throws : raised_by (with_stack m other) t ≡ raised_by m t
    unfolding outcome
    other_throws = (other_every 0).throws ∙ sym (every_landing m i t allowed s 0).throws

    -- and so do sweep calls, as many as answer in both
    pub other_answers : (exception exception' : ℕ) (cs ds : List ResumeCall) →
        Admissible (Regular (with_stack m other)) (unwinding_of (with_stack m other) t exception) cs →
        Admissible (Regular m) (unwinding_of m t exception') ds →
        length (answers (arch_of m) cs) ≡ length (answers (arch_of m) ds) →
        answers (arch_of m) cs ≡ answers (arch_of m) ds
    unfolding due outcome
    other_answers exception exception' cs ds c d e =
        ((other_every exception).lands cs c).1
        ∙ (ap (λ (n : ℕ). first_of n (due m t)) e ∙ sym ((every_landing m i t allowed s exception').lands ds d).1)
