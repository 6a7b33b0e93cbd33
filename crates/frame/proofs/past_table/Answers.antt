-- `frame::past_table` meets its contract. Assumes nothing.
use Rattle.std.proofs.Common.{arith}
use Rattle.frame.proofs.Named.{table-short}
use Rattle.frame.proofs.past_table.Goals as goal

pub overflow_cast-result : goal.overflow_cast-result
overflow_cast-result c = omega (arith, table-short c.args.arch)

pub overflow_shr-result : goal.overflow_shr-result
overflow_shr-result c = omega (arith, table-short c.args.arch)
