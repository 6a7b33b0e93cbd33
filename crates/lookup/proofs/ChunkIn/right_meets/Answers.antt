-- `lookup::ChunkIn::right_meets` meets its contract. Assumes nothing.
use mathlib.Core.Path.{◌≡◌, ◌∙◌}
use Prim.Native.Nat.{◌+◌, ◌*◌}
use borrow.Author.Tests.{eq-eqb}
use native.Mathlib.Omega.{arith}
use Rattle.lookup.proofs.Records.{last-number, right_stands, stands-start, stands-end}
use Rattle.lookup.proofs.Neighbours.{right_none, right_some}
use Rattle.lookup.proofs.ChunkIn.right_meets.Goals as goal

pub returns-then-next-c : goal.returns-then-next-c
returns-then-next-c c = λ i s.
    let right = right_stands _ _ c.args.self.now.inside _ _ s c.if-next-c.true in
    right_some _ _ _ _ _ right.below (c.start_at.ensures ∙ stands-start _ _ _ _ _ right) (c.requires.1 ∙ stands-end _ _ _ _ _ s)

pub returns-else-next-c : goal.returns-else-next-c
returns-else-next-c c = λ i s.
    let x = c.args.self.now.chunk in
    let last : c.args.k + x.stride ≡ x.offset + 16 + x.count * x.stride = omega (arith, c.if-next-c.false) in
    simp (eq-eqb _ _ last) (right_none _ _ _ (last-number _ _ c.args.self.now.inside _ _ s last))
