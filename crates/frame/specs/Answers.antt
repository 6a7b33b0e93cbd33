-- What a call on a register file in place comes to before it is known that nothing is refused.
use Rattle.std.specs.Prelude.{◌≡◌, List, ℕ, Result}
use Rattle.failure.specs.Outcome.{Outcome, Answer, outcome, settled}
use Rattle.failure.specs.declared.Failure.{Failure}

-- a call that stores in a file as it goes comes to the outcome; of the file after a refusal nothing is said
pub record Partly (o : Outcome (List ℕ)) (s : Result (Unit {0}) Failure) (exit : List ℕ) : Type 0 where
  pub status : outcome s ≡ settled o
  pub file : (next : List ℕ) → o ≡ Answer next → exit ≡ next
