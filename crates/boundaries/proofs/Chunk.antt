-- The rows of `Chunk`. Assumes nothing.
use mathlib.Core.List.{List}
use mathlib.Core.Path.{◌∙◌, ap}
use Prim.Native.Nat.{ℕ}
use lib.ListN.{take, drop}
use Rattle.boundaries.specs.Chunk.{Chunks}
use Rattle.boundaries.proofs.Computing.{computing}

-- by the place of the part and the bytes of the section
pub chunks : Chunks
unfolding computing
chunks = (
  λ s r e p. (p.start, p.bytes ∙ ap (λ (b : List ℕ). take 72 (drop 4 b)) e),
  λ s r e p. (p.start, p.bytes ∙ ap (λ (b : List ℕ). take 72 (drop 4 b)) e),
  λ s r e p. (p.start, p.bytes ∙ ap (λ (b : List ℕ). take 116 (drop 76 b)) e),
  λ s r e p. (p.start, p.bytes ∙ ap (λ (b : List ℕ). take 116 (drop 76 b)) e),
  λ s r e p. (p.start, p.bytes),
  λ s r e p. (p.start, p.bytes),
  λ s r e p. (p.start, p.bytes),
  λ s r e p. (p.start, p.bytes),
)
