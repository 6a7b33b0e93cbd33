-- The theorems applied to scenarios that hold: none of them asks for more than a scenario shows. Assumes nothing.
use mathlib.Core.Bool.{Bool, true}
use mathlib.Core.List.{List, [], ◌∷◌}
use mathlib.Core.Logic.{inl, inr}
use mathlib.Core.Path.{◌≡◌, refl, sym, ◌∙◌, ap, subst}
use Prim.Native.Nat.{ℕ}
use lib.ListN.{length}
use Rattle.failure.specs.Outcome.{Answer}
use Rattle.mem.specs.Opening.{opens}
use Rattle.model.specs.declared.Unwinding.{Unwinding}
use Rattle.model.specs.Search.{Searched, told}
use Rattle.model.specs.Machine.{Machine, arch_of, lent_by}
use Rattle.model.specs.Expected.{due}
use Rattle.model.specs.OtherStack.{with_stack}
use Rattle.model.specs.Exactly.{Exactly}
use Rattle.model.specs.Demand.{answer_of, current, IsRefused, answers}
use Rattle.model.specs.LiveStack.{Usable}
use Rattle.model.specs.Call.{nth, compared_as, Thrown, AtThrow}
use Rattle.model.proofs.Theorem.{demand3, demand3_live}
use Rattle.model.proofs.Between.{demand3_between}
use Rattle.model.proofs.Promised.{raise-throws, own_throw, gives-next}
use Rattle.runs.specs.Scenario.{Scenario, events, reached, handed_back, irregular, Holds}
use Rattle.runs.specs.Promises.{Promises, All}
use Rattle.runs.specs.LiveStack.{Made, call_over, same_in, HoldsOver, ThrowsOver, SpokenOf}
use Rattle.runs.proofs.Runs.{irregular_refused, irregular_stays}
use Rattle.runs.proofs.LiveStack.{all_true, frames_tested}

module _ (s : Scenario) (holds : Holds s) where
  -- its throw is one that the contracts speak of
  abbrev pub thrown : Thrown
  thrown =
      record {
        start = s.machine;
        fresh = holds.fresh;
        events = events s.labelled;
        throw = s.throw;
        allowed = holds.allowed;
        sound = holds.sound;
      }

  -- every form of demand 3 speaks of it, and so do the contracts
  pub promises : Promises s
  promises =
      let es = events s.labelled in
      record {
        regular = demand3 s.machine holds.fresh es s.throw holds.allowed holds.sound;
        live = demand3_live s.machine holds.fresh es s.throw holds.allowed holds.sound;
        between = demand3_between s.machine holds.fresh es s.throw holds.allowed holds.sound;
        thrown = own_throw thrown;
      }

  -- also over another stack that has the live slots
  abbrev pub at-throw : (f : Made) → opens (lent_by (with_stack (reached s) (f (reached s).stack))) ≡ true →
      all_true (same_in (reached s).stack (f (reached s).stack) (reached s).frames) ≡ true →
      AtThrow (lent_by (with_stack (reached s) (f (reached s).stack))) (reached s).tables.arch (reached s).registers s.throw.pc
      s.throw.interrupted
  at-throw f accepted same =
      record {
        thrown = thrown;
        stack = f (reached s).stack;
        is_lent = refl;
        accepted = accepted;
        same = frames_tested (reached s).stack (f (reached s).stack) (reached s).frames same;
        is_arch = refl;
        is_file = refl;
        is_pc = refl;
        is_interrupted = refl;
      }

  -- and the contract of `raise` gives the answer
  pub throws_over : (f : Made) → opens (lent_by (with_stack (reached s) (f (reached s).stack))) ≡ true →
      all_true (same_in (reached s).stack (f (reached s).stack) (reached s).frames) ≡ true →
      ThrowsOver s f
  throws_over f accepted same =
      raise-throws _ _ _ _ _ (at-throw f accepted same) ∙ ap (λ (o : Searched). Answer (told o)) holds.answered

  -- a call over such a stack, after a refused one and one that is usable, is one that the contract of `resume` speaks of
  abbrev pub second : (f g : Made) (fs : List Made) (same : List (List Bool)) → HoldsOver s (f ∷ g ∷ fs) same → SpokenOf s f g
  second f g fs same over exception =
      let m : Machine = reached s in
      let u : Unwinding = handed_back s exception in
      let e : current u (irregular m u) ≡ u = irregular_stays m u in
      let usable = over.usable exception in
      record {
        thrown = thrown;
        exception = exception;
        before = irregular m u ∷ call_over m u f ∷ [];
        admissible = (
          inr (subst IsRefused (sym (irregular_refused m u)) tt),
          (inl (subst (λ (v : Unwinding). Usable m v (call_over m u f)) (sym e) usable.0), tt),
        );
        usable =
            subst (λ (v : Unwinding). Usable m (current v (call_over m u f)) (call_over m (current u (call_over m u f)) g)) (sym e)
            usable.1.0;
      }

  -- and gives what is due then
  pub second-gives : (f g : Made) (fs : List Made) (same : List (List Bool)) (over : HoldsOver s (f ∷ g ∷ fs) same) (exception : ℕ) →
      let u = handed_back s exception in
      let c = call_over (reached s) u f in
      compared_as (arch_of (reached s)) (answer_of (call_over (reached s) (current u c) g))
      ≡ Answer (nth (length (answers (arch_of (reached s)) (irregular (reached s) u ∷ c ∷ []))) (due (reached s) s.throw))
  second-gives f g fs same over exception = gives-next _ (second f g fs same over exception)

-- what exactly its throw answers is a part of it
pub exactly_shown : (s : Scenario) → Promises s → Exactly (reached s) s.throw
exactly_shown s p = (p.regular 0).exactly

-- of every scenario that holds
pub all_promised : (ss : List Scenario) → All Holds ss → All Promises ss
all_promised [] h = tt
all_promised (s ∷ ss) h = (promises s h.0, all_promised ss h.1)
