-- `lookup::u32_at` meets its contract, byte by byte. Assumes nothing.
use native.Mathlib.Omega.{arith}
use Prim.Native.Nat.{◌+◌}
use Rattle.lookup.proofs.Fields.{word_none, word_more}
use Rattle.lookup.proofs.u32_at.Goals as goal

pub returns : goal.returns
returns c =
    let x = c.args in
    let b = x.part.now in
    let k = x.k in
    omega (arith, word_more b k (k + 1) 3 (omega arith) (omega arith), word_more b (k + 1) (k + 2) 2 (omega arith) (omega arith), word_more b (k + 2) (k + 3) 1 (omega arith) (omega arith), word_more b (k + 3) (k + 4) 0 (omega arith) (omega arith), word_none b (k + 4))
