-- `unwind::walk::walk_from` meets its contract. The invariant is `Onward`. Assumes nothing.
use Rattle.mem.specs.Given.{lent_by}
use Rattle.unwind.specs.Answers.{frame_with, frame_at}
use Rattle.unwind.proofs.Batching.{Onward}
use Rattle.unwind.proofs.walk.walk_from.Given as goal

abbrev pub invariant-loop-count : goal.invariant-loop-count
invariant-loop-count l =
    Onward l.arch (lent_by l.memory) (frame_at l.frame) (frame_with l.at l.first l.file) l.count l.frames
