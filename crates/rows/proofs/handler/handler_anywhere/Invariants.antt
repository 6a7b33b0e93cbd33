-- `rows::handler::handler_anywhere` meets its contract. Each turn halves the rows that are left. Assumes nothing.
use Rattle.std.proofs.Common.{◌-◌, ◌^◌, ◌<◌}
use Rattle.mem.specs.Given.{lent_by}
use Rattle.rows.proofs.Halving.{Left}
use Rattle.rows.proofs.handler.handler_anywhere.Given as goal

abbrev pub invariant-loop-lo : goal.invariant-loop-lo
invariant-loop-lo l = Left (lent_by l.memory).regions l.table l.count l.ret l.lo l.hi × (l.count < 2 ^ 32)

abbrev pub decreases-loop-lo : goal.decreases-loop-lo
decreases-loop-lo l = l.hi - l.lo
