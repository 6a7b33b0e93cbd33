-- `mem::load::holds` meets its contract. Assumes nothing.
use Rattle.std.proofs.Common.{◌+◌, ◌-◌, arith, le-leb}
use borrow.Author.Tests.{lt-leb}
use Rattle.mem.specs.Place.{holds}
use Rattle.mem.proofs.Tests.{leb_same}
use Rattle.mem.proofs.load.holds.Goals as goal

pub returns-then-a-base : goal.returns-then-a-base
unfolding holds
returns-then-a-base c = simp (lt-leb _ _ c.if-a-base.true)

pub returns-then-size-k : goal.returns-then-size-k
unfolding holds
returns-then-size-k c =
    let x = c.args in
    simp (le-leb _ _ c.if-a-base.false, lt-leb (x.a + x.n) (x.base + x.size) (omega arith))

pub returns : goal.returns
unfolding holds
returns c =
    let x = c.args in
    simp (le-leb _ _ c.if-a-base.false)
    (leb_same x.n (x.size - (x.a - x.base)) (x.a + x.n) (x.base + x.size) (λ h. omega arith) (λ h. omega arith))
