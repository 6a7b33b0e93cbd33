-- A row: what is to be done when an exception leaves the call with this return offset.
use Rattle.std.specs.Prelude.{◌≡◌, ◌<◌, Bool, false, not, ℕ, eqb, Result, Ok, Err, Option, MatchResult, if◌then◌else◌}
use Rattle.failure.specs.Outcome.{Outcome, Refused, Answer}
use Rattle.failure.specs.Failure.{BadEkoRecord, number}
use Rattle.failure.specs.declared.Failure.{Failure}
use Rattle.rows.specs.declared.Action.{Action}
use Rattle.rows.specs.declared.UnknownAction.{UnknownAction}
use Rattle.rows.specs.declared.Row.{Row}

-- the actions
abbrev pub cleanup : ℕ
cleanup = 0

abbrev pub catch : ℕ
catch = 1

abbrev pub terminate : ℕ
terminate = 2

-- cleanup and catch need a pad above 0, terminate a pad of 0; there is no other action
unfoldable pub valid : ℕ → ℕ → Bool
valid pad action =
    if eqb action cleanup then not (eqb pad 0)
    else if eqb action catch then not (eqb pad 0)
    else if eqb action terminate then eqb pad 0
    else false

-- what a table holds for a return offset
pub data Found : Type 0 where
  None : Found
  Pad : (pad action : ℕ) → Found

-- a row that was found, or 18
unfoldable pub checked : ℕ → ℕ → Outcome Found
checked pad action = if valid pad action then Answer (Pad pad action) else Refused BadEkoRecord

-- the number of each action
abbrev pub number_of : Action → ℕ
number_of Action.Cleanup = cleanup
number_of Action.Catch = catch
number_of Action.Terminate = terminate

-- the action of each number; other numbers have none
abbrev pub Decodes : ℕ → Result Action UnknownAction → Type 0
Decodes n r = MatchResult r (λ a. n ≡ number_of a) (λ e. (e.0 ≡ n) × (terminate < n))

-- the papers' number and values for each case of a row, or none, or a failure
abbrev pub found : Result (Option Row) Failure → Outcome Found
found (Err f) = Refused (number f)
found (Ok Option.None) = Answer None
found (Ok (Option.Some r)) = Answer (Pad r.pad (number_of r.action))
