-- `lookup::ChunkIn::halve` meets its contract. The invariant is `Halved`; the measure is what is left of the turns. Assumes nothing.
use Rattle.lookup.proofs.Halving.{Halved}
use Rattle.lookup.proofs.ChunkIn.halve.Given as goal

abbrev pub invariant-loop-turns : goal.invariant-loop-turns
invariant-loop-turns g l = Halved l.self.part.now l.self.base l.self.chunk l.pc l.lo l.hi l.turns

abbrev pub decreases-loop-turns : goal.decreases-loop-turns
decreases-loop-turns g l = l.turns
