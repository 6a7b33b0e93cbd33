-- `lookup::u8_at` meets its contract. Assumes nothing.
use native.Mathlib.Omega.{arith}
use Prim.Native.Nat.{◌+◌}
use Rattle.lookup.proofs.Fields.{word_none, word_more}
use Rattle.lookup.proofs.u8_at.Goals as goal

pub returns : goal.returns
returns c =
    let b = c.args.part.now in
    let k = c.args.k in
    omega (arith, word_more b k (k + 1) 0 (omega arith) (omega arith), word_none b (k + 1))
