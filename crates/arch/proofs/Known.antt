-- Laws of `known`, the test for 28 that a public function of this crate makes first, if it takes an architecture. Assumes nothing.
use Rattle.std.proofs.Common.{◌≡◌, ℕ, Bool, true, false, refl, sym, ◌∙◌, if◌then◌else◌}
use Rattle.failure.specs.Outcome.{Outcome, Refused, Answer, settled, ◌>>=◌}
use Rattle.failure.specs.Failure.{BadOpening}
use Rattle.failure.proofs.Outcome.{answer-refused}
use Rattle.arch.specs.Arch.{Arch, numbers, is_known, known}

-- an unknown architecture gets 28, whatever was to follow
pub unknown_refused : {A : Type 0} (f : Arch → Outcome A) (n : ℕ) → is_known n ≡ false → Refused BadOpening ≡ (known n >>= f)
unfolding known
unknown_refused f n e = rw e

-- a known one gets what follows, at its numbers
pub known_goes_on :
    {A : Type 0} (f : Arch → Outcome A) (n : ℕ) (o : Outcome A) → is_known n ≡ true → o ≡ f (numbers n) → o ≡ (known n >>= f)
unfolding known
known_goes_on f n o e p = rw e p

-- what `require_known` comes to says which it is
pub known_settled : (n : ℕ) → is_known n ≡ true → Answer tt ≡ settled (known n)
unfolding known
known_settled n e = rw e

pub unknown_settled : (n : ℕ) → is_known n ≡ false → Refused BadOpening ≡ settled (known n)
unfolding known
unknown_settled n e = rw e

-- past it, what follows at the architecture's numbers
pub required : {A : Type 0} (f : Arch → Outcome A) (n : ℕ) (o : Outcome A) → Answer tt ≡ settled (known n) → o ≡ f (numbers n) → o ≡ (known n >>= f)
unfolding known
required f n o e p = go (is_known n) refl
  where
    go : (t : Bool) → is_known n ≡ t → o ≡ ((if t then Answer (numbers n) else Refused BadOpening) >>= f)
    go true h = p
    go false h = answer-refused tt BadOpening (e ∙ sym (unknown_settled n h))
