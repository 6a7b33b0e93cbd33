-- `rows::handler::handler_in` meets its contract. Each turn halves the rows that are left. Assumes nothing.
use Rattle.std.proofs.Common.{true, false, lt-ltb, le-ltb}
use Rattle.rows.proofs.Held.{begin_in, turn_found_in, turn_in}
use Rattle.rows.proofs.handler.handler_in.Goals as goal
use Rattle.rows.proofs.handler.handler_in.Goals.{then-not-down, else-not-down}

pub loop-n-init : goal.loop-n-init
loop-n-init c = begin_in _ _ _ _ _ c.requires c.u32_at-count.ensures.0

pub returns-then-offset-ret : goal.returns-then-offset-ret
returns-then-offset-ret c =
    turn_found_in _ _ _ _ _ _ _ c.loop-n.invariant c.loop-n-test.true _ c.u32_at-offset.ensures.0 c.if-offset-ret.true _ c.judged.ensures

pub loop-n-preserved : goal.loop-n-preserved
loop-n-preserved c =
    elim c.if-not-down.branch [
      | then-not-down w ↦
          turn_in _ _ _ _ _ _ _ c.loop-n.invariant c.loop-n-test.true _ c.u32_at-offset.ensures.0 c.if-offset-ret.false false (le-ltb _ _ w.if-not-down.true) _ w.at-is
      | else-not-down w ↦
          turn_in _ _ _ _ _ _ _ c.loop-n.invariant c.loop-n-test.true _ c.u32_at-offset.ensures.0 c.if-offset-ret.false true (lt-ltb _ _ w.if-not-down.false) _ w.at-is
    ]
