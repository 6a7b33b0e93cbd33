-- `lookup::chunk_at` meets its contract. Assumes nothing.
use native.Mathlib.Omega.{arith}
use Rattle.lookup.proofs.Headers.{stride_small, chunk-made}
use Rattle.lookup.proofs.chunk_at.Goals as goal

pub returns : goal.returns
returns c =
    let v = c.u8_at-version in
    (chunk-made _ _ _ _ _ _ v.ensures c.stride.ensures c.u32_at.ensures c.u32_at-2.ensures, omega (arith, stride_small v.result), omega arith)
