-- `frame::apply::reach` meets its contract: each turn looks at one pair. Assumes nothing.
use Rattle.arch.specs.Arch.{numbers}
use Rattle.frame.specs.Near.{Within}
use Rattle.frame.proofs.apply.reach.Given as goal

abbrev pub invariant-loop-i : goal.invariant-loop-i
invariant-loop-i l = Within (numbers l.arch) l.state.regs l.state.slots l.depth l.i
