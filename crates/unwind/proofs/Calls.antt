-- Calls of resume one after the other. Assumes nothing.
use mathlib.Core.Bool.{false}
use mathlib.Core.Path.{◌≡◌, refl, sym, ◌∙◌, ap}
use Prim.Native.Nat.{ℕ, zero, suc, ◌+◌, ◌-◌, ◌≤◌, ◌<◌}
use native.Mathlib.Omega.{arith}
use Rattle.mem.specs.Memory.{Lent}
use Rattle.model.specs.declared.Unwinding.{Unwinding}
use Rattle.failure.specs.Outcome.{Outcome, Refused, Answer, Beside, outcome, map}
use Rattle.model.specs.Cleanup.{Cleaned, Install, Fatal, Finished}
use Rattle.model.specs.Unwinding.{resume, resumed}
use Rattle.model.specs.Call.{after}
use Rattle.unwind.specs.Answers.{Handed, resume_as, resumed_by, resume_handed, is_landing, call_number}
use Rattle.unwind.specs.declared.ResumeAnswer.{ResumeAnswer}
use Rattle.unwind.specs.declared.Resumed.{Resumed}

-- after i of n calls from u₀ on the unwinding is u
pub record Calling (l : Lent) (arch n : ℕ) (u₀ u : Unwinding) (i : ℕ) : Type 0 where
  pub at_most : i ≤ n
  pub same : after n l arch u₀ ≡ after (n - i) l arch u

-- a call that is no landing hands back the unwinding that came in
unmoved_by : (u : Unwinding) (o : Outcome Cleaned) → is_landing (map resume_as o) ≡ false → resumed u o ≡ u
unmoved_by u (Refused n) e = refl
unmoved_by u (Answer (Install number file next)) e = let z : ◌≡◌ {A = ℕ} 0 1 = cc in absurd (omega arith)
unmoved_by u (Answer Fatal) e = refl
unmoved_by u (Answer Finished) e = refl

-- so every later call does
stays : (l : Lent) (arch : ℕ) (u : Unwinding) → resumed u (resume l arch u) ≡ u → (n : ℕ) → after n l arch u ≡ u
stays l arch u e zero = refl
stays l arch u e (suc n) = ap (after n l arch) e ∙ stays l arch u e n

module _ (l : Lent) (arch n : ℕ) (u₀ u : Unwinding) (i : ℕ) (c : Calling l arch n u₀ u i) (r : Resumed)
    (is : resume_handed r ≡ resumed_by u (resume l arch u)) where
  -- one call more
  pub calling-on : i < n → Calling l arch n u₀ r.unwinding (i + 1)
  calling-on less =
      let e : n - i ≡ suc (n - (i + 1)) = omega arith in
      record {
        at_most = omega arith;
        same =
            c.same ∙
            (ap (λ (k : ℕ). after k l arch u) e
            ∙ sym (ap (λ (x : Beside ResumeAnswer Handed). after (n - (i + 1)) l arch x.state.unwinding) is));
      }

  -- a call that is no landing
  pub calling_settled : is_landing (outcome r.answer) ≡ false → resume_handed r ≡ call_number n l arch u₀
  calling_settled ends =
      let none = sym (ap (λ (x : Beside ResumeAnswer Handed). is_landing x.answer) is) ∙ ends in
      let same = c.same ∙ stays l arch u (unmoved_by u (resume l arch u) none) (n - i) in
      is ∙ sym (ap (λ (v : Unwinding). resumed_by v (resume l arch v)) same)
