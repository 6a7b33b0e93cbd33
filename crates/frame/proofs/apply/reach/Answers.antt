-- `frame::apply::reach` meets its contract: each turn looks at one pair. Assumes nothing.
use Rattle.std.proofs.Common.{refl, arith}
use Rattle.frame.proofs.InStack.{within_turn}
use Rattle.frame.proofs.apply.reach.Goals as goal

pub loop-i-preserved : goal.loop-i-preserved
loop-i-preserved c =
    let st = c.args.state.now in
    within_turn _ st.regs st.slots _ _ _ c.loop-i.invariant _ refl (c.usable.ensures c.if-not-usable.false) (omega arith) (omega arith)
