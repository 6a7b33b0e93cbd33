-- `rows::handler2::among` meets its contract. Each turn passes a row. Assumes nothing.
use Rattle.std.proofs.Common.{◌≡◌, ◌≤◌}
use Rattle.rows.specs.Handler2.{rows_from}
use Rattle.rows.proofs.handler2.among.Given as goal

abbrev pub invariant-loop-left : goal.invariant-loop-left
invariant-loop-left g l =
    let n = g.N.Numbers in
    let m = n.regions l.numbers in
    let limit = n.limit l.numbers in
    (rows_from l.rows m limit (n.address l.numbers l.first) 0 l.ret ≡ rows_from l.left m limit (n.address l.numbers l.pos) l.at l.ret) × (l.at ≤ l.ret)
