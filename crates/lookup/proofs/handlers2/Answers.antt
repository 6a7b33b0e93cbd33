-- `lookup::handlers2` meets its contract. Assumes nothing.
use borrow.Author.Tests.{lt-ltb, le-ltb}
use Rattle.lookup.specs.Record.{handlers_of}
use Rattle.lookup.proofs.handlers2.Goals as goal

pub returns-then-data-lt-DATA_HANDLERS : goal.returns-then-data-lt-DATA_HANDLERS
unfolding handlers_of
returns-then-data-lt-DATA_HANDLERS c = simp (lt-ltb _ _ c.if-data-lt-DATA_HANDLERS.true)

pub returns : goal.returns
unfolding handlers_of
returns c = simp (le-ltb _ _ c.if-data-lt-DATA_HANDLERS.false) c.add.ensures
