-- `rows::handler::handler_anywhere` meets its contract. Each turn halves the rows that are left. Assumes nothing.
use Rattle.rows.proofs.Halving.{turn_found, turn_above}
use Rattle.rows.proofs.handler.handler_anywhere.Goals as goal

pub returns-then-e-ret : goal.returns-then-e-ret
returns-then-e-ret c =
    turn_found _ _ _ _ _ _ c.loop-lo.invariant.0 c.loop-lo-test.true _ c.in_ok-e.ensures c.if-e-ret.true _ c.judged.ensures

pub loop-lo-preserved-then-e-ret-2 : goal.loop-lo-preserved-then-e-ret-2
loop-lo-preserved-then-e-ret-2 c =
    let s = c.loop-lo.invariant in
    (turn_above _ _ _ _ _ _ s.0 c.loop-lo-test.true _ c.in_ok-e.ensures c.if-e-ret.false c.if-e-ret-2.true, s.1)
