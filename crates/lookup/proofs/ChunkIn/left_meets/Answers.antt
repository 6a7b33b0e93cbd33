-- `lookup::ChunkIn::left_meets` meets its contract. Assumes nothing.
use mathlib.Core.Path.{◌≡◌, ◌∙◌}
use Prim.Native.Nat.{◌+◌}
use borrow.Author.Tests.{eq-eqb}
use native.Mathlib.Omega.{arith}
use Rattle.lookup.proofs.Records.{first-number, left_stands, stands-start, stands-end}
use Rattle.lookup.proofs.Neighbours.{left_none, left_some}
use Rattle.lookup.proofs.ChunkIn.left_meets.Goals as goal

pub returns-then-k-c : goal.returns-then-k-c
returns-then-k-c c = λ i s.
    let (some, _, left) = left_stands _ _ c.args.self.now.inside _ _ s c.if-k-c.true in
    left_some _ _ _ _ (λ z. omega arith) (c.requires.1 ∙ stands-start _ _ _ _ _ s) (c.end_at.ensures ∙ stands-end _ _ _ _ _ left)

pub returns-else-k-c : goal.returns-else-k-c
returns-else-k-c c = λ i s.
    let first : c.args.k ≡ c.args.self.now.chunk.offset + 16 = omega (arith, c.if-k-c.false) in
    simp (eq-eqb _ _ first) (left_none _ _ (first-number _ _ c.args.self.now.inside _ _ s first))
