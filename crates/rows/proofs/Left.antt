-- Laws of what a reader of numbers leaves in the place of an answer. Assumes nothing.
use Rattle.std.proofs.Common.{◌≡◌, ℕ, Result, Option, refl}
use Rattle.std.specs.Result.{IsErrAnd}
use Rattle.std.proofs.lemmas.Result.{err_from_is_err_and}
use Rattle.failure.specs.Outcome.{Outcome, Refused}
use Rattle.failure.specs.Failure.{number}
use Rattle.failure.specs.declared.Failure.{Failure}
use Rattle.rows.specs.Row.{Found, found}
use Rattle.rows.specs.declared.Row.{Row}
use Rattle.rows.specs.Answers.{LeftOf, WordOf}

-- what is left of an outcome is left of each that is refused where it is
pub left_on : {A B : Type 0} (r : Option ℕ) (a : Outcome A) (b : Outcome B) → ((n : ℕ) → Refused n ≡ a → Refused n ≡ b) →
    LeftOf r a → LeftOf r b
left_on (Option.Some n) a b f e = f n e
left_on Option.None a b f e = tt

-- the exit of a `?`
pub word_exit : {Left : Type 0} (refusal : Left → Option ℕ) (r : Result (Option ℕ) Left) (l : Left) → IsErrAnd r (λ e. e ≡ l) →
    (o : Outcome Found) → LeftOf (refusal l) o → WordOf refusal r o
word_exit refusal r l e o h = let x = err_from_is_err_and r e in rw (x.1, x.2) h

pub found_exit : (r : Result (Option Row) Failure) (f : Failure) → IsErrAnd r (λ e. e ≡ f) → found r ≡ Refused (number f)
found_exit r f e = let x = err_from_is_err_and r e in rw (x.1, x.2) refl
