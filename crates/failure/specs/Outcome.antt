-- What a call comes to.
use Rattle.std.specs.Prelude.{ℕ, Result, Ok, Err}
use Rattle.failure.specs.Failure.{number}
use Rattle.failure.specs.declared.Failure.{Failure}

infixl 20 ◌>>=◌
-- turned back with a number of document 01, or answered with its values
pub data Outcome (A : Type 0) : Type 0 where
  Refused : ℕ → Outcome A
  Answer : A → Outcome A

-- goes on with the values, unless the call was turned back
abbrev pub ◌>>=◌ : {A B : Type 0} → Outcome A → (A → Outcome B) → Outcome B
◌>>=◌ (Refused n) f = Refused n
◌>>=◌ (Answer a) f = f a

-- the same with other values
abbrev pub map : {A B : Type 0} → (A → B) → Outcome A → Outcome B
map f (Refused n) = Refused n
map f (Answer a) = Answer (f a)

-- whether a call was turned back, whatever its values
abbrev pub settled : {A : Type 0} → Outcome A → Outcome (Unit {0})
settled o = map (λ a. tt) o

-- what a result comes to: a failure by its number, or the values
abbrev pub outcome : {A : Type 0} → Result A Failure → Outcome A
outcome (Err f) = Refused (number f)
outcome (Ok a) = Answer a

-- an outcome beside a state that is handed back, for a refusal too
pub record Beside (A S : Type 0) : Type 0 where
  pub answer : Outcome A
  pub state : S
