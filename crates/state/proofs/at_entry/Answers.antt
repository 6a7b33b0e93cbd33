-- `state::at_entry` meets its contract: an architecture has its return address in a slot at entry, or has not. Assumes nothing.
use Rattle.state.proofs.Entry.{entry-saved, entry-bare}
use Rattle.state.proofs.at_entry.Goals as goal

pub returns-then-a-ne0 : goal.returns-then-a-ne0
returns-then-a-ne0 c = entry-saved _ _ c.numbers-a.ensures c.if-a-ne0.true

pub returns-else-a-ne0 : goal.returns-else-a-ne0
returns-else-a-ne0 c = entry-bare _ _ c.numbers-a.ensures c.if-a-ne0.false
