-- What the public functions come to: 28 for an architecture other than 1 and 2, and then for a state that counts more than 32 pairs.
use Rattle.std.specs.Prelude.{ℕ, get_or, if◌then◌else◌, Option, Some, None}
use Rattle.failure.specs.Outcome.{Outcome, Refused, Answer}
use Rattle.failure.specs.Failure as Failure
use Rattle.arch.specs.Arch.{numbers, is_known}
use Rattle.state.specs.declared.State.{State}
use Rattle.state.specs.State as State
use Rattle.state.specs.Pairs.{place_of}
use Rattle.state.specs.Save.{Change, Done, BadOpening}
use Rattle.state.specs.Restore as Restore

-- the entry state of an architecture
unfoldable pub entry : ℕ → Change
entry arch = if is_known arch then Done (State.entry (numbers arch)) else BadOpening

-- a register back to its entry rule
unfoldable pub restore : ℕ → State → ℕ → Change
restore arch st reg = if is_known arch then Restore.restore (numbers arch) st reg else BadOpening

-- the slot of the pair at a place, if there is one
abbrev pub slot_at : State → Option ℕ → Option ℕ
slot_at st (Some i) = Some (get_or st.slots i 0)
slot_at st None = None

-- the slot of a register, if it is saved
unfoldable pub slot : State → ℕ → Outcome (Option ℕ)
slot st reg = if State.overfull st then Refused Failure.BadOpening else Answer (slot_at st (place_of st reg))
