-- `unwind::cleanup::clean` meets its contract. The invariant is `UnderWay`; the measure is the frames that may still be given. Assumes nothing.
use Prim.Native.Nat.{◌-◌}
use Rattle.mem.specs.Given.{lent_by}
use Rattle.unwind.specs.Answers.{frame_with}
use Rattle.unwind.proofs.CleanupPhase.{UnderWay}
use Rattle.unwind.proofs.cleanup.clean.Given as goal

abbrev pub invariant-loop-number : goal.invariant-loop-number
invariant-loop-number l =
    UnderWay l.arch (lent_by l.memory) l.unwinding (frame_with l.number l.interrupted l.file)

abbrev pub decreases-loop-number : goal.decreases-loop-number
decreases-loop-number l =
    1024 - l.number
