-- `lookup::address_of` meets its contract. Assumes nothing.
use borrow.Author.Tests.{eq-eqb, ne_eqb}
use Rattle.lookup.specs.Record.{address_of}
use Rattle.lookup.proofs.address_of.Goals as goal

pub returns-then-off-eq0 : goal.returns-then-off-eq0
unfolding address_of
returns-then-off-eq0 c = simp (eq-eqb _ _ c.if-off-eq0.true)

pub returns : goal.returns
unfolding address_of
returns c = simp (ne_eqb _ _ c.if-off-eq0.false) c.add.ensures
