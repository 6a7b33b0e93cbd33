-- `frame::apply::restore_pairs` meets its contract: each turn restores one pair. Assumes nothing.
use Rattle.arch.specs.Arch.{numbers}
use Rattle.frame.specs.Layout.{layout}
use Rattle.frame.specs.Apply.{restore_pairs}
use Rattle.frame.proofs.Turn.{Turn}
use Rattle.frame.proofs.apply.restore_pairs.Given as goal

abbrev pub invariant-loop-i : goal.invariant-loop-i
invariant-loop-i g l =
    let m = g.S.Slots.regions l.slots in
    let at = g.S.Slots.at l.slots in
    Turn (numbers l.arch) m at l.n l.state.regs l.state.slots (restore_pairs (numbers l.arch) m at (layout l.state).pairs l.initial.file) l.file l.i
