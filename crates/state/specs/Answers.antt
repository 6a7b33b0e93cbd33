-- The papers' number and values for each case of this crate's answers.
use Rattle.std.specs.Prelude.{◌≡◌, Result}
use Rattle.failure.specs.Outcome.{Outcome, Refused, Answer, outcome, settled}
use Rattle.failure.specs.Failure.{BadEkoRecord, BadOpening, TooManySaved}
use Rattle.failure.specs.declared.Failure.{Failure}
use Rattle.state.specs.declared.State.{State}
use Rattle.state.specs.Save as Save
use Rattle.state.specs.Save.{Change, Done, OutOfRange, Full}

-- a change: a 33rd register is 32, the other faults of a save are 18
abbrev pub changed : Change → Outcome State
changed (Done st) = Answer st
changed OutOfRange = Refused BadEkoRecord
changed Full = Refused TooManySaved
changed Save.BadOpening = Refused BadOpening

-- the state that an answer has, or for a refusal the one that came in
abbrev pub handed_back : State → Outcome State → State
handed_back st (Refused n) = st
handed_back st (Answer st') = st'

-- a call on a state comes to the change: its status and the state that it hands back
pub record Changes (entry : State) (x : Change) (s : Result (Unit {0}) Failure) (exit : State) : Type 0 where
  pub status : outcome s ≡ settled (changed x)
  pub state : exit ≡ handed_back entry (changed x)
