-- `rows::handler::handler_in` meets its contract. Each turn halves the rows that are left. Assumes nothing.
use Rattle.rows.proofs.Held.{LeftIn}
use Rattle.rows.proofs.handler.handler_in.Given as goal

abbrev pub invariant-loop-n : goal.invariant-loop-n
invariant-loop-n l = LeftIn l.section l.base l.table l.count l.ret l.at l.n

abbrev pub decreases-loop-n : goal.decreases-loop-n
decreases-loop-n l = l.n
