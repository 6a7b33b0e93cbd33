-- `leb::uleb_at` meets its contract: each turn adds a group to what was read so far. Assumes nothing.
use Rattle.mem.specs.Given.{lent_by}
use Rattle.leb.proofs.Sofar.{Sofar}
use Rattle.leb.proofs.uleb_at.Given as goal

abbrev pub invariant-loop : goal.invariant-loop
invariant-loop l =
    Sofar (lent_by l.memory).regions l.limit l.pos l.v l.weight l.at l.counter
