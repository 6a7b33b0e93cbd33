-- Demand 3 call by call: what the contracts of `raise`, `resume` and `unwind` promise. Assumes nothing.
use mathlib.Core.Bool.{Bool, true}
use mathlib.Core.List.{List, [], ◌∷◌}
use mathlib.Core.Logic.{⊎_elim}
use mathlib.Core.Path.{◌≡◌, refl, sym, ◌∙◌, ap, subst}
use Prim.Native.Nat.{ℕ, zero, suc}
use lib.ListN.{length, get_or}
use Rattle.failure.specs.Outcome.{Outcome, Refused, Answer}
use Rattle.mem.specs.Memory.{Region, Lent}
use Rattle.mem.specs.Opening.{opens}
use Rattle.model.specs.declared.Unwinding.{Unwinding}
use Rattle.model.specs.Cleanup.{Cleaned}
use Rattle.model.specs.Search.{told_by}
use Rattle.model.specs.Unwinding.{raise, raised, resume, resumed}
use Rattle.model.specs.Machine.{Machine, arch_of, lent_by}
use Rattle.model.specs.Throw.{throw_allowed}
use Rattle.model.specs.Sound.{SoundTables, Sound}
use Rattle.model.specs.Expected.{LandingPad, Compared, Finished, outcome, due, first_of}
use Rattle.model.specs.OtherStack.{SameLive, with_stack}
use Rattle.model.specs.Demand.{ResumeCall, answer_of, call_of, current, IsRefused, Admissible, answers, raised_by, unwinding_of}
use Rattle.model.specs.LiveStack.{Usable}
use Rattle.model.specs.Call.{after, current_after, nth, compared_as, Thrown, machine_at, AtThrow, Throws, Sweeps, GivesNext}
use Rattle.model.proofs.Chain.{Inv}
use Rattle.model.proofs.Calls.{current-answered, current_refused, Due, Serves, serves}
use Rattle.model.proofs.Usable.{own_live, own_regular, regular-usable}
use Rattle.model.proofs.Corollaries.{other_inv, other_allowed, other_sound}
use Rattle.model.proofs.Steps.{steps_inv}
use Rattle.model.proofs.Theorem.{walks, throws, starts}

-- answer number k of the first so many
nth-first : (k : ℕ) (ls : List LandingPad) → get_or (first_of (suc k) ls) k Finished ≡ nth k ls
nth-first zero [] = refl
nth-first zero (l ∷ ls) = refl
nth-first (suc k) [] = nth-first k []
nth-first (suc k) (l ∷ ls) = nth-first k ls

module _ (m : Machine) (i : Inv m) (tables : SoundTables m.tables) where
  -- a usable call is served
  served : (u : Unwinding) (ls : List LandingPad) (c : ResumeCall) → Usable m u c → Due m u ls → Serves m u ls c
  served u ls c g d = serves m i.known i.live (walks m i tables) u ls c g d

  -- and gives the first of those due
  now_given : (u : Unwinding) (ls : List LandingPad) (c : ResumeCall) → Serves m u ls c →
      compared_as (arch_of m) (answer_of c) ≡ Answer (nth 0 ls)
  now_given u ls c s =
      rw s.is (ap Answer (sym (ap (λ (gs : List Compared). get_or gs 0 Finished) (s.next 0)) ∙ nth-first 0 ls))

  -- number n of the rest is number n + 1
  next-nth : (n : ℕ) (u : Unwinding) (ls : List LandingPad) (c : ResumeCall) → (s : Serves m u ls c) → nth n s.rest ≡ nth (suc n) ls
  next-nth n u ls c s =
      sym (nth-first n s.rest) ∙
      (sym (ap (λ (gs : List Compared). get_or gs (suc n) Finished) (s.next (suc n))) ∙ nth-first (suc n) ls)

  -- a regular call is served
  regular_served : (u : Unwinding) (ls : List LandingPad) → Due m u ls → Serves m u ls (call_of m u)
  regular_served u ls d = served u ls (call_of m u) (regular-usable m i u (call_of m u) (own_regular m i.accepted u)) d

  -- call number n from an unwinding on, where each is lent what the machine lends
  abbrev given : ℕ → Unwinding → Outcome Compared
  given n u = compared_as (arch_of m) (answer_of (call_of m (after n (lent_by m) m.tables.arch u)))

  -- after a call that is served
  later-given : (n : ℕ) (u : Unwinding) (ls : List LandingPad) → (s : Serves m u ls (call_of m u)) →
      given n (resumed u (Answer s.answer)) ≡ Answer (nth n s.rest) → given (suc n) u ≡ Answer (nth (suc n) ls)
  unfolding answer_of
  later-given n u ls s g =
      let is : resume (lent_by m) m.tables.arch u ≡ Answer s.answer = s.is in
      rw is (g ∙ ap Answer (next-nth n u ls (call_of m u) s))

  gives : (n : ℕ) (u : Unwinding) (ls : List LandingPad) → Due m u ls → given n u ≡ Answer (nth n ls)
  gives zero u ls d = now_given u ls (call_of m u) (regular_served u ls d)
  gives (suc n) u ls d =
      let s : Serves m u ls (call_of m u) = regular_served u ls d in
      later-given n u ls s (gives n (resumed u (Answer s.answer)) s.rest s.after)

  -- what is due after a list of calls: the first of it is the one after those that the calls gave
  record DueAfter (u : Unwinding) (ls : List LandingPad) (cs : List ResumeCall) : Type 0 where
    pub rest : List LandingPad
    pub due : Due m (current_after u cs) rest
    pub is : nth 0 rest ≡ nth (length (answers (arch_of m) cs)) ls

  -- after a call that is served, and the others
  left_served : (c : ResumeCall) (cs : List ResumeCall) (u : Unwinding) (ls : List LandingPad) → (s : Serves m u ls c) →
      DueAfter (current u c) s.rest cs → DueAfter u ls (c ∷ cs)
  left_served c cs u ls s later =
      record {
        rest = later.rest;
        due = later.due;
        is = later.is ∙ (next-nth (length (answers (arch_of m) cs)) u ls c s ∙ rw s.is);
      }

  -- a call that is refused changes nothing
  left_refused : (c : ResumeCall) (cs : List ResumeCall) (u : Unwinding) (ls : List LandingPad) → (o : Outcome Cleaned) → answer_of c ≡ o →
      IsRefused o → (current u c ≡ u → DueAfter (current u c) ls cs) → DueAfter u ls (c ∷ cs)
  left_refused c cs u ls (Answer x) is refused rest = absurd refused
  left_refused c cs u ls (Refused n) is refused rest =
      let later : DueAfter (current u c) ls cs = rest (current_refused u c n is) in
      record { rest = later.rest; due = later.due; is = later.is ∙ rw is }

  -- every list of calls, each usable or refused
  left : (cs : List ResumeCall) (u : Unwinding) (ls : List LandingPad) → Due m u ls → Admissible (Usable m) u cs → DueAfter u ls cs
  left [] u ls d a = record { rest = ls; due = d; is = refl }
  left (c ∷ cs) u ls d a =
      ⊎_elim
      (λ (g : Usable m u c).
      let s : Serves m u ls c = served u ls c g d in
      let e = current-answered u c s.answer (ap (λ (x : ResumeCall). x.unwinding) g.is) s.is in
      left_served c cs u ls s (left cs (current u c) s.rest (subst (λ (v : Unwinding). Due m v s.rest) (sym e) s.after) a.1))
      (λ (r : IsRefused (answer_of c)).
      left_refused c cs u ls (answer_of c) refl r
      (λ e. left cs (current u c) ls (subst (λ (v : Unwinding). Due m v ls) (sym e) d) a.1))
      a.0

-- a machine at such a throw, with another stack that has its live slots
module _ (x : Thrown) (stack : Region) (opened : opens (lent_by (with_stack (machine_at x) stack)) ≡ true)
    (same : SameLive (machine_at x).stack stack (machine_at x).frames) where
  abbrev other : Machine
  other = with_stack (machine_at x) stack

  inv : Inv (machine_at x)
  inv = steps_inv x.start x.fresh x.events

  inv_other : Inv other
  inv_other = other_inv (machine_at x) inv stack opened same

  allowed : throw_allowed other x.throw ≡ true
  allowed = other_allowed (machine_at x) inv stack opened same x.throw x.allowed

  sound : Sound other x.throw
  sound = other_sound (machine_at x) inv stack opened same x.throw x.sound

  -- the throw
  throws_over : raised_by other x.throw ≡ Answer (outcome (machine_at x) x.throw)
  unfolding outcome
  throws_over = throws other inv_other x.throw allowed sound

  -- call number n
  sweeps_over : (exception n : ℕ) →
      given other inv_other x.sound.tables n (unwinding_of other x.throw exception) ≡ Answer (nth n (due (machine_at x) x.throw))
  unfolding outcome due
  sweeps_over exception n =
      gives other inv_other x.sound.tables n (unwinding_of other x.throw exception) (due other x.throw)
      (starts other inv_other x.throw allowed sound exception)

-- what is lent opens
opened_by : (l k : Lent) → l ≡ k → opens l ≡ true → opens k ≡ true
opened_by l k e h = subst (λ (x : Lent). opens x ≡ true) e h

-- the contract of `raise`
pub raise-throws : (l : Lent) (arch : ℕ) (file : List ℕ) (pc : ℕ) (interrupted : Bool) →
    Throws l arch file pc interrupted (told_by (raise l arch file pc interrupted))
unfolding raised_by
raise-throws l arch file pc interrupted a =
    rw (a.is_lent, a.is_arch, a.is_file, a.is_pc, a.is_interrupted)
    (ap told_by (throws_over a.thrown a.stack (opened_by l _ a.is_lent a.accepted) a.same))

-- the contract of `unwind`
pub unwind-sweeps : (l : Lent) (arch : ℕ) (file : List ℕ) (pc : ℕ) (interrupted : Bool) (exception n : ℕ) →
    Sweeps l arch file pc interrupted n
    (resume l arch (after n l arch (raised file pc interrupted exception (raise l arch file pc interrupted))))
unfolding raised_by unwinding_of answer_of
unwind-sweeps l arch file pc interrupted exception n a =
    rw (a.is_lent, a.is_arch, a.is_file, a.is_pc, a.is_interrupted)
    (sweeps_over a.thrown a.stack (opened_by l _ a.is_lent a.accepted) a.same exception n)

-- they speak of what the machine itself has
pub own_throw : (x : Thrown) →
    AtThrow (lent_by (machine_at x)) (machine_at x).tables.arch (machine_at x).registers x.throw.pc x.throw.interrupted
own_throw x =
    let i : Inv (machine_at x) = steps_inv x.start x.fresh x.events in
    record {
      thrown = x;
      stack = (machine_at x).stack;
      is_lent = refl;
      accepted = i.accepted;
      same = own_live (machine_at x) i;
      is_arch = refl;
      is_file = refl;
      is_pc = refl;
      is_interrupted = refl;
    }

-- the contract of `resume`
pub gives-next : (c : ResumeCall) → GivesNext c (answer_of c)
gives-next c a =
    let x : Thrown = a.thrown in
    let m : Machine = machine_at x in
    let i : Inv m = steps_inv x.start x.fresh x.events in
    let u : Unwinding = unwinding_of m x.throw a.exception in
    let l : DueAfter m i x.sound.tables u (due m x.throw) a.before =
    left m i x.sound.tables a.before u (due m x.throw) (starts m i x.throw x.allowed x.sound a.exception)
    a.admissible in
    let v : Unwinding = current_after u a.before in
    now_given m i x.sound.tables v l.rest c (served m i x.sound.tables v l.rest c a.usable l.due) ∙ ap Answer l.is
