-- `frame::step::restore_named` meets its contract: each turn restores one register of the mask. Assumes nothing.
use Rattle.arch.specs.Arch.{numbers}
use Rattle.frame.specs.Apply.{restore_pairs}
use Rattle.frame.specs.Frame.{saved_pairs}
use Rattle.frame.proofs.SavedLeft.{SavedLeft}
use Rattle.frame.proofs.step.restore_named.Given as goal

abbrev pub invariant-loop-k : goal.invariant-loop-k
invariant-loop-k g l =
    let m = g.S.Slots.regions l.slots in
    let at = g.S.Slots.at l.slots in
    SavedLeft (numbers l.arch) m at l.frame l.n (restore_pairs (numbers l.arch) m at (saved_pairs (numbers l.arch) l.frame) l.initial.file) l.file l.rest l.k
