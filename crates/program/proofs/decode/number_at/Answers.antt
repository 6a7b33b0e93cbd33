-- `program::decode::number_at` meets its contract. Assumes nothing.
use Rattle.std.proofs.Common.{sym, arith}
use Rattle.leb.proofs.Reader.{byte-read}
use Rattle.program.proofs.Decoding.{short-number}
use Rattle.program.proofs.decode.number_at.Goals as goal

pub overflow_add-result : goal.overflow_add-result
overflow_add-result c = omega (arith, (byte-read _ _ _ _ (sym c.in-Ok.ensures)).0)

pub returns-in-Ok : goal.returns-in-Ok
returns-in-Ok c = short-number _ _ _ _ c.in-Ok.ensures c.if-b-lt128.true
