-- What this crate's results come to.
use Rattle.std.specs.Prelude.{Option, Some, None, ◌≡◌, List, ◌∷◌, ℕ, Result}
use Rattle.failure.specs.declared.Failure.{Failure}
use Rattle.failure.specs.Outcome.{Outcome, Answer, outcome, map}
use Rattle.state.specs.declared.State.{State}
use Rattle.program.specs.declared.decode.Op.{Op}
use Rattle.program.specs.declared.Ended.{Ended}
use Rattle.program.specs.declared.Through.{Through}
use Rattle.program.specs.declared.Step.{Step}
use Rattle.program.specs.declared.Step.TheVariants as step
use Rattle.program.specs.Operation.{Decoding}
use Rattle.program.specs.Run as Run
use Rattle.program.specs.Run.{Ran, Turn, On, Ends, recall, max_remember}

-- an operation and the address after it
abbrev pub decoded : Result (Op × ℕ) Failure → Outcome Decoding
decoded r = map (λ x. record { op = x.0; next = x.1 }) (outcome r)

-- the next state, in place
abbrev pub followed : Result (Unit {0}) Failure → State → Outcome State
followed r st = map (λ x. st) (outcome r)

-- a turn: a refusal, or what its values give
abbrev pub turn : {A : Type 0} → Outcome A → (A → Turn) → Turn
turn (Outcome.Refused n) f = Run.Refused n
turn (Answer a) f = f a

-- an operation, where the code has the next state and leaves the rest to the loop
abbrev pub stepped : Step → State → List State → ℕ → Turn
stepped (step.At to) st states at = On (record { state = st; remembered = states; at = to })
stepped step.Set st states at = On (record { state = st; remembered = states; at = at })
stepped step.Remember st states at = On (record { state = st; remembered = st ∷ states; at = at })
stepped step.Recall st states at = recall states (record { state = st; remembered = states; at = at })
stepped (step.Ends after) st states at = Ends (record { state = st; after = after })

-- the loop has room for a state that it remembers, and one to recall
abbrev pub Room : Step → ℕ → Type 0
Room (step.At to) depth = Unit
Room step.Set depth = Unit
Room step.Remember depth = depth ≡ max_remember → ⊥
Room step.Recall depth = depth ≡ 0 → ⊥
Room (step.Ends after) depth = Unit

-- a run as it is handed back: whether it was refused, with a state and an after-address
pub record Given : Type 0 where
  pub status : Outcome (Unit {0})
  pub state : State
  pub after : ℕ

-- as the code hands it back
abbrev pub given : Ended → Given
given e = record { status = outcome e.status; state = e.state; after = e.after }

-- as it is to be: for a refusal the entry state, and after-address 0
abbrev pub ended : State → Outcome Ran → Given
ended entry (Outcome.Refused n) = record { status = Outcome.Refused n; state = entry; after = 0 }
ended entry (Answer r) = record { status = Answer tt; state = r.state; after = r.after }

-- two runs together: whether the first was refused, and its state; the after-address of the second
pub record Runs : Type 0 where
  pub status : Outcome (Unit {0})
  pub state : State
  pub end : Outcome ℕ

-- as they are to be handed back
abbrev pub through : State → Outcome Ran → Outcome Ran → Runs
through entry x y =
    record {
      status = (ended entry x).status;
      state = (ended entry x).state;
      end = map (λ r. r.after) y;
    }

-- as the code hands them back, where the state is in place
abbrev pub through_in : Through → State → Runs
through_in t st = record { status = outcome t.status; state = st; end = outcome t.end }

-- two runs that were not refused: the state of the first, the after-address of the second
abbrev pub finished : State → ℕ → Runs
finished st after = record { status = Answer tt; state = st; end = Answer after }

-- two runs, the second of which was refused, after the first had ended with a state, or before
abbrev pub stopped : State → Option State → ℕ → Runs
stopped entry (Some st) n = record { status = Answer tt; state = st; end = Outcome.Refused n }
stopped entry None n = record { status = Outcome.Refused n; state = entry; end = Outcome.Refused n }
