-- `unwind::resume_nth` meets its contract. Assumes nothing.
use Rattle.mem.specs.Given.{lent_by}
use Rattle.unwind.proofs.Calls.{Calling}
use Rattle.unwind.proofs.resume_nth.Given as goal

abbrev pub invariant-loop : goal.invariant-loop
invariant-loop l =
    Calling (lent_by l.memory) l.arch l.n l.initial.u l.u l.counter
