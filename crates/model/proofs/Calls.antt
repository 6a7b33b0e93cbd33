-- A list of sweep calls: usable ones are served, and the answers are the landings that are due, then finished. Assumes nothing.
use mathlib.Core.Bool.{true, false}
use mathlib.Core.List.{List, [], ◌∷◌}
use mathlib.Core.Logic.{⊎_elim}
use mathlib.Core.Option.{some}
use mathlib.Core.Path.{◌≡◌, refl, sym, ◌∙◌, ap, subst}
use Prim.Native.Nat.{ℕ, suc, ◌≤◌}
use native.Mathlib.Omega.{arith}
use lib.ListN.{length, get_elem?}
use borrow.Author.Tests.{lt-ltb, le-ltb}
use Rattle.failure.specs.Outcome.{Outcome, Refused, Answer}
use Rattle.mem.specs.Memory.{Region}
use Rattle.mem.specs.Opening.{opens}
use Rattle.arch.specs.Arch.{is_known}
use Rattle.model.specs.declared.Unwinding.{Unwinding}
use Rattle.model.specs.Cleanup as Cleanup
use Rattle.model.specs.Cleanup.{Cleaned, clean}
use Rattle.model.specs.Unwinding.{opened, frame_of, choice_of, resume, resumed}
use Rattle.model.specs.Machine.{Open, Machine, lent_by, arch_of}
use Rattle.model.specs.Throw.{standing}
use Rattle.model.specs.Expected.{LandingPad, Compared, first_of}
use Rattle.model.specs.OtherStack.{with_stack}
use Rattle.model.specs.Demand.{ResumeCall, answer_of, call_of, current, IsRefused, Admissible, Served, compared, answers}
use Rattle.model.specs.LiveStack.{Usable}
use Rattle.model.proofs.Chain.{Live, AllLive}
use Rattle.model.proofs.Live.{live_at, same_live}
use Rattle.model.proofs.Walks.{Walks}
use Rattle.model.proofs.Cleaning.{chosen-above, At, Amid, Over, Cleans, cleans}

-- what is lent is accepted, so a call comes to its sweep
pub opened-known : {A : Type 0} (m : Machine) (o : Outcome A) → opens (lent_by m) ≡ true → is_known m.tables.arch ≡ true →
    opened (lent_by m) m.tables.arch o ≡ o
unfolding opened
opened-known m o e k = rw (e, k)

-- these landings are due to an unwinding: none, and it is finished; or those up to the chosen frame
pub data Due (m : Machine) (u : Unwinding) (ls : List LandingPad) : Type 0 where
  None : u.chosen ≡ false → ls ≡ [] → Due m u ls
  Some : u.chosen ≡ true → At m.tables m.frames (choice_of u) (frame_of u) ls → Due m u ls

-- a call that is served: its answer is the next of those due, and the rest is due after it
pub record Serves (m : Machine) (u : Unwinding) (ls : List LandingPad) (c : ResumeCall) : Type 0 where
  pub answer : Cleaned
  pub rest : List LandingPad
  pub is : answer_of c ≡ Answer answer
  pub next : (k : ℕ) → first_of (suc k) ls ≡ compared (arch_of m) answer ∷ first_of k rest
  pub after : Due m (resumed u (Answer answer)) rest
  -- and no frame comes back that was passed
  pub passes : u.number ≤ (resumed u (Answer answer)).number

-- the current unwinding after a call that gets it and answers
pub current-answered : (u : Unwinding) (c : ResumeCall) (x : Cleaned) → c.unwinding ≡ u → answer_of c ≡ Answer x →
    current u c ≡ resumed u (Answer x)
unfolding current
current-answered u c x e is = rw is (ap (λ (v : Unwinding). resumed v (Answer x)) e)

-- and after one that is refused
pub current_refused : (u : Unwinding) (c : ResumeCall) (n : ℕ) → answer_of c ≡ Refused n → current u c ≡ u
unfolding current
current_refused u c n is = rw is

-- a machine whose live slots hold the kept values, and whose tables serve the phases beside every stack that opens
module _
    (m : Machine) (known : is_known m.tables.arch ≡ true) (live : AllLive (arch_of m) m.stack m.frames)
    (w : (stack : Region) → opens (lent_by (with_stack m stack)) ≡ true → Walks m.tables stack) where
  -- what is to be shown of a list of calls
  abbrev pub Lands : List ResumeCall → Unwinding → List LandingPad → Type 0
  Lands cs u ls =
      Served (Usable m) u cs × (answers (arch_of m) cs ≡ first_of (length (answers (arch_of m) cs)) ls)

  -- a usable call
  module _ (u : Unwinding) (ls : List LandingPad) (c : ResumeCall) (g : Usable m u c) where
    abbrev lent : Machine
    lent = with_stack m g.stack

    -- nothing is left: finished, and the unwinding is as it was
    finished : ls ≡ [] → Due m u ls → answer_of (call_of lent u) ≡ Answer Cleanup.Finished → Serves m u ls c
    finished none d is =
        record {
          answer = Cleanup.Finished;
          rest = [];
          is = ap answer_of g.is ∙ is;
          next = λ k. rw none;
          after = subst (λ (l : List LandingPad). Due m u l) none d;
          passes = omega arith;
        }

    cleaning : u.chosen ≡ true →
        answer_of (call_of lent u) ≡ clean m.tables.arch (lent_by lent) u.exception (choice_of u) (frame_of u)
    unfolding answer_of resume
    cleaning e = rw (opened-known lent _ g.accepted known, e)

    -- the live slots ahead hold the kept values
    ahead : u.chosen ≡ true → (k : ℕ) (f : Open) → u.number ≤ k → k ≤ u.chosen_number → get_elem? m.frames k ≡ some f →
        Live (arch_of m) g.stack f
    ahead e k f least most at =
        same_live (arch_of m) m.stack g.stack f (live_at (arch_of m) m.stack m.frames live k f at)
        (g.same (cc) k f (omega arith) (omega arith) at)

    pub serves : Due m u ls → Serves m u ls c
    unfolding answer_of resume clean
    serves (None e none) = finished none (None e none) (rw (opened-known lent _ g.accepted known, e))
    serves (Some e (Over past none)) =
        finished none (Some e (Over past none)) (cleaning e ∙ rw (lt-ltb u.chosen_number u.number past))
    serves (Some e (Amid first file fs s)) =
        let least = chosen-above m.tables u.number (standing u.interrupted file fs)
        u.chosen_number u.chosen_sp s.chosen in
        let few = s.few in
        let x : Cleans m.tables m.frames (choice_of u) u.number _ ls =
        cleans m.tables m.frames g.stack (w g.stack g.accepted) u.exception (choice_of u) u.number (ahead e)
        fs 1025 (omega arith) u.number first u.interrupted file u.regs.r ls (omega arith) s in
        record {
          answer = Cleanup.Install x.number x.pad x.next;
          rest = x.rest;
          is = ap answer_of g.is ∙ (cleaning e ∙ rw (le-ltb u.chosen_number u.number least) x.is);
          next =
              λ k.
              ap (λ (l : List LandingPad). first_of (suc k) l) x.first ∙ ap (λ (g : Compared). g ∷ first_of k x.rest) (sym x.same);
          after = Some e x.after;
          passes = let past = x.passes in omega arith;
        }

  -- a usable call, then the rest of the list
  usable-first : (c : ResumeCall) (cs : List ResumeCall) (u : Unwinding) (ls : List LandingPad) → (s : Serves m u ls c) →
      c.unwinding ≡ u → Admissible (Usable m) (current u c) cs →
      (Admissible (Usable m) (resumed u (Answer s.answer)) cs → Lands cs (resumed u (Answer s.answer)) s.rest) → Lands (c ∷ cs) u ls
  usable-first c cs u ls s e admissible rest =
      let is : answer_of c ≡ Answer s.answer = s.is in
      let same = current-answered u c s.answer e is in
      let later = rest (subst (λ (v : Unwinding). Admissible (Usable m) v cs) same admissible) in (
        (
          (λ p refused. absurd (subst IsRefused is refused)),
          subst (λ (v : Unwinding). Served (Usable m) v cs) (sym same) later.0,
        ),
        rw is
            (ap (λ (gs : List Compared). compared (arch_of m) s.answer ∷ gs) later.1 ∙
            sym (s.next (length (answers (arch_of m) cs)))),
      )

  -- a call that is refused changes nothing
  refused_first : (c : ResumeCall) (cs : List ResumeCall) (u : Unwinding) (ls : List LandingPad) → (Usable m u c → Serves m u ls c) →
      (o : Outcome Cleaned) → answer_of c ≡ o → IsRefused o → Admissible (Usable m) (current u c) cs →
      (Admissible (Usable m) u cs → Lands cs u ls) → Lands (c ∷ cs) u ls
  refused_first c cs u ls s (Answer x) is refused admissible rest = absurd refused
  refused_first c cs u ls s (Refused n) is refused admissible rest =
      let same = current_refused u c n is in
      let later = rest (subst (λ (v : Unwinding). Admissible (Usable m) v cs) same admissible) in
      let clash : Usable m u c → ⊥ =
      λ g.
      let both : Refused n ≡ Answer (s g).answer = sym is ∙ (s g).is in
      let z : ◌≡◌ {A = ℕ} 0 1 = cc in omega arith in
      (((λ g p. absurd (clash g)), subst (λ (v : Unwinding). Served (Usable m) v cs) (sym same) later.0), rw is later.1)

  -- every list of calls
  pub calls : (cs : List ResumeCall) (u : Unwinding) (ls : List LandingPad) → Due m u ls → Admissible (Usable m) u cs → Lands cs u ls
  calls [] u ls d a = (tt, refl)
  calls (c ∷ cs) u ls d a =
      ⊎_elim
      (λ (g : Usable m u c).
      let s : Serves m u ls c = serves u ls c g d in
      usable-first c cs u ls s (ap (λ (x : ResumeCall). x.unwinding) g.is) a.1
      (calls cs (resumed u (Answer s.answer)) s.rest s.after))
      (λ (e : IsRefused (answer_of c)). refused_first c cs u ls (λ g. serves u ls c g d) (answer_of c) refl e a.1 (calls cs u ls d))
      a.0
