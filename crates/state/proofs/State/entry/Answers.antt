-- `state::State::entry` meets its contract. Assumes nothing.
use Rattle.state.proofs.Changes.{entry_changes}
use Rattle.state.proofs.State.entry.Goals as goal

pub returns : goal.returns
returns c = entry_changes _ _ _ c.require_known.ensures c.at_entry.ensures
