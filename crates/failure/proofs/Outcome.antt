-- What a `?` makes of a call's outcome. Assumes nothing.
use Rattle.std.proofs.Common.{◌≡◌, ℕ, Result, Ok, Err, ◌⊎◌, inl, inr, sym, ap, ◌∙◌, refl, arith}
use Rattle.std.specs.Result.{IsErrAnd}
use Rattle.std.proofs.lemmas.Result.{err_from_is_err_and}
use Rattle.failure.specs.Failure.{number}
use Rattle.failure.specs.declared.Failure.{Failure}
use Rattle.failure.specs.Outcome.{Outcome, Refused, Answer, outcome, map, ◌>>=◌}

-- no answer is a refusal
pub answer-refused : {A P : Type 0} (a : A) (n : ℕ) → Answer a ≡ Refused n → P
answer-refused a n e = let z : ◌≡◌ {A = ℕ} 0 1 = cc in absurd (omega arith)

-- what a `?` returns where it exits: its call's failure
pub exit : {B : Type 0} (r : Result B Failure) (f : Failure) → IsErrAnd r (λ e. e ≡ f) → outcome r ≡ Refused (number f)
exit r f e = let x = err_from_is_err_and r e in rw (x.1, x.2) refl

-- a call with the outcome o, and what goes on with its values
module _ {A B : Type 0} (q : Result A Failure) (o : Outcome A) (k : A → Outcome B) where
  -- whatever goes on with a refused call is refused
  pub refusal : (f : Failure) → q ≡ Err f → outcome q ≡ o → o >>= k ≡ Refused (number f)
  refusal f p h =
      let y : Refused (number f) ≡ o = sym (ap outcome p) ∙ h in
      rw (← y) refl

  -- the exit of a `?`
  pub refused_on : (r : Result B Failure) (f : Failure) → IsErrAnd r (λ e. e ≡ f) → q ≡ Err f → outcome q ≡ o → outcome r ≡ o >>= k
  refused_on r f e p h = exit r f e ∙ sym (refusal f p h)

  -- past a `?`
  pub answered_on : (v : A) → q ≡ Ok v → outcome q ≡ o → k v ≡ o >>= k
  answered_on v p h =
      let y : Answer v ≡ o = sym (ap outcome p) ∙ h in
      rw (← y) refl

-- the same, where a call gives a part of an outcome's values
module _ {A V B : Type 0} (g : A → V) (q : Result V Failure) (o : Outcome A) (k : A → Outcome B) where
  pub refusal_by : (f : Failure) → q ≡ Err f → outcome q ≡ map g o → o >>= k ≡ Refused (number f)
  refusal_by f p h = go o (sym (ap outcome p) ∙ h)
    where
      go : (o : Outcome A) → Refused (number f) ≡ map g o → o >>= k ≡ Refused (number f)
      go (Refused n) e = let same : number f ≡ n = cc in rw same refl
      go (Answer a) e = answer-refused (g a) (number f) (sym e)

  pub refused_by : (r : Result B Failure) (f : Failure) → IsErrAnd r (λ e. e ≡ f) → q ≡ Err f → outcome q ≡ map g o → outcome r ≡ o >>= k
  refused_by r f e p h = exit r f e ∙ sym (refusal_by f p h)

-- past a `?`: the outcome's values
pub answered_by : {A V : Type 0} (g : A → V) (q : Result V Failure) (v : V) (o : Outcome A) → q ≡ Ok v → outcome q ≡ map g o →
    (a : A) × (o ≡ Answer a) × (v ≡ g a)
answered_by g q v (Refused n) p h = answer-refused v n (sym (ap outcome p) ∙ h)
answered_by g q v (Answer a) p h = (a, refl, (let e : Answer v ≡ Answer (g a) = sym (ap outcome p) ∙ h in cc))

-- what goes on with a call's values was answered: the call was, and what went on with its values
pub answer_then : {A B : Type 0} (o : Outcome A) (k : A → Outcome B) (b : B) → o >>= k ≡ Answer b →
    (a : A) × (o ≡ Answer a) × (k a ≡ Answer b)
answer_then (Refused n) k b e = absurd cc
answer_then (Answer a) k b e = (a, refl, e)

-- what goes on with a call's values was refused: the call was, or what went on with its values
pub refused_then : {A B : Type 0} (o : Outcome A) (k : A → Outcome B) (n : ℕ) → o >>= k ≡ Refused n →
    (o ≡ Refused n) ⊎ ((a : A) × (o ≡ Answer a) × (k a ≡ Refused n))
refused_then (Refused x) k n e = inl cc
refused_then (Answer a) k n e = inr (a, refl, e)

-- the exit of a `?`, where the contract maps what is returned to the definition's values
pub exit_as : {B C : Type 0} (h : B → C) (r : Result B Failure) (f : Failure) → IsErrAnd r (λ e. e ≡ f) →
    map h (outcome r) ≡ Refused (number f)
exit_as h r f e = ap (map h) (exit r f e)

-- by what a call's contract says at its failure and at its values: what goes on with them
module _ {A B : Type 0} (o : Outcome A) (k : A → Outcome B) where
  pub refused_first : (n : ℕ) → Refused n ≡ o → Refused n ≡ o >>= k
  refused_first n e = rw (← e) refl

  pub answered_first : (a : A) → Answer a ≡ o → k a ≡ o >>= k
  answered_first a e = rw (← e) refl
