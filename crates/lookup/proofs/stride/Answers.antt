-- `lookup::stride` meets its contract. Assumes nothing.
use borrow.Author.Tests.{eq-eqb, ne_eqb}
use Rattle.lookup.specs.Header as Header
use Rattle.lookup.proofs.stride.Goals as goal

pub returns-then-version-eq-VERSION : goal.returns-then-version-eq-VERSION
unfolding Header.stride
returns-then-version-eq-VERSION c = simp (eq-eqb _ _ c.if-version-eq-VERSION.true)

pub returns-then-version-eq-VERSION2 : goal.returns-then-version-eq-VERSION2
unfolding Header.stride
returns-then-version-eq-VERSION2 c = simp (ne_eqb _ _ c.if-version-eq-VERSION.false, eq-eqb _ _ c.if-version-eq-VERSION2.true)

pub returns : goal.returns
unfolding Header.stride
returns c = simp (ne_eqb _ _ c.if-version-eq-VERSION.false, ne_eqb _ _ c.if-version-eq-VERSION2.false)
