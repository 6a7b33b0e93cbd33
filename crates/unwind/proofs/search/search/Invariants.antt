-- `unwind::search::search` meets its contract. The invariant is `Searching`; the measure is the frames that may still be given. Assumes nothing.
use Prim.Native.Nat.{◌-◌}
use Rattle.mem.specs.Memory.{lent}
use Rattle.model.specs.Search as Search
use Rattle.unwind.specs.Answers.{frame_with}
use Rattle.unwind.proofs.Searching.{Searching}
use Rattle.unwind.proofs.search.search.Given as goal

abbrev pub invariant-loop-met : goal.invariant-loop-met
invariant-loop-met l =
    let m = lent l.memory.section.now l.memory.section_base l.memory.stack.now l.memory.stack_base in
    Searching l.arch m (Search.search l.arch m (frame_with l.initial.number l.initial.first l.initial.file)) (frame_with l.number l.first l.file)

abbrev pub decreases-loop-met : goal.decreases-loop-met
decreases-loop-met l =
    1024 - l.number
