-- A run of a state program up to an offset (document 01, "The state program").
use Rattle.std.specs.Prelude.{List, [], ◌∷◌, ℕ, zero, suc, ◌+◌, ◌-◌, ◌*◌, ◌^◌, eqb, ltb, length, if◌then◌else◌}
use Rattle.failure.specs.Outcome.{Outcome, Answer, ◌>>=◌}
use Rattle.failure.specs.Failure.{BadEkoRecord, RememberStackOverflow, EkoTruncated}
use Rattle.mem.specs.Memory.{Memory}
use Rattle.arch.specs.Arch.{Arch}
use Rattle.state.specs.declared.State.{State}
use Rattle.state.specs.State.{entry}
use Rattle.program.specs.declared.decode.Op.{Op}
use Rattle.program.specs.declared.decode.Op.TheVariants.{End, Advance, Set, Remember, Recall}
use Rattle.program.specs.Operation.{decode}
use Rattle.program.specs.Rule.{follow}

-- the most states that are remembered
abbrev pub max_remember : ℕ
max_remember = 4

-- where a run stands: the state, the remembered states, the last one first, and the offset that the advances come to
pub record Stand : Type 0 where
  pub state : State
  pub remembered : List State
  pub at : ℕ

-- what a run gives: the state at the offset, and the address after END, or 0 if END was not read
pub record Ran : Type 0 where
  pub state : State
  pub after : ℕ

-- what an operation comes to: the run goes on, ends, or is refused
pub data Turn : Type 0 where
  On : Stand → Turn
  Ends : Ran → Turn
  Refused : ℕ → Turn

-- an advance to an offset: past the one asked for the run ends before it; a sum of 2^64 or more is 18
abbrev pub advance : ℕ → ℕ → Stand → Turn
advance off to s =
    if ltb (2 ^ 64 - 1) to then Refused BadEkoRecord
    else if ltb off to then Ends (record { state = s.state; after = 0 })
    else On (record { state = s.state; remembered = s.remembered; at = to })

-- a fifth remember is 10
abbrev pub remember : Stand → Turn
remember s =
    if eqb (length s.remembered) max_remember then Refused RememberStackOverflow
    else On (record { state = s.state; remembered = s.state ∷ s.remembered; at = s.at })

-- a recall with no state remembered is 18
abbrev pub recall : List State → Stand → Turn
recall [] s = Refused BadEkoRecord
recall (st ∷ sts) s = On (record { state = st; remembered = sts; at = s.at })

-- the next state, with all else as it was
abbrev pub set : Stand → Outcome State → Turn
set s (Outcome.Refused n) = Refused n
set s (Answer st) = On (record { state = st; remembered = s.remembered; at = s.at })

-- an operation, with the address after it
unfoldable pub act : Arch → ℕ → ℕ → Op → Stand → Turn
act a off next End s = Ends (record { state = s.state; after = next })
act a off next (Advance n) s = advance off (s.at + n * a.unit) s
act a off next (Set r) s = set s (follow a r s.state)
act a off next Remember s = remember s
act a off next Recall s = recall s.remembered s

-- what a turn gives, where the run goes on as f says
abbrev pub turned : Turn → (Stand → Outcome Ran) → Outcome Ran
turned (On s) f = f s
turned (Ends r) f = Answer r
turned (Refused n) f = Outcome.Refused n

-- the operations from pos on, with at most so many bytes left below the limit; each takes one at least, and where none is left it
-- is 30
abbrev pub run_from : ℕ → Memory → Arch → ℕ → ℕ → ℕ → Stand → Outcome Ran
run_from zero m a limit off pos s = Outcome.Refused EkoTruncated
run_from (suc left) m a limit off pos s = do
  d ← decode m limit pos
  turned (act a off d.next d.op s) (λ s'. run_from left m a limit off d.next s')

-- where a run begins
abbrev pub begin : Arch → Stand
begin a = record { state = entry a; remembered = []; at = 0 }

-- program 0 is the entry state everywhere
unfoldable pub run : Memory → Arch → ℕ → ℕ → ℕ → Outcome Ran
run m a program limit off =
    if eqb program 0 then Answer (record { state = entry a; after = 0 })
    else run_from (limit - program) m a limit off program (begin a)
