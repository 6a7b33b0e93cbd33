-- `program::decode::long_number_at` meets its contract: a number that is read fits 32 bits. Assumes nothing.
use Rattle.std.proofs.Common.{sym, arith}
use Rattle.leb.proofs.Numbers.{small}
use Rattle.program.proofs.decode.long_number_at.Goals as goal

pub overflow_cast-result : goal.overflow_cast-result
overflow_cast-result c = omega (arith, (small _ _ _ _ (sym c.in_ok-v.ensures)).value)
