-- `lookup::find` meets its contract. The invariant is `Looking`; the measure is the bytes that are left. Assumes nothing.
use Prim.Native.Nat.{◌-◌}
use lib.ListN.{length}
use Rattle.lookup.proofs.Turns.{Looking}
use Rattle.lookup.proofs.find.Given as goal

abbrev pub invariant-loop-k : goal.invariant-loop-k
invariant-loop-k l = Looking l.part l.base l.pc l.arch l.k

abbrev pub decreases-loop-k : goal.decreases-loop-k
decreases-loop-k l = length l.part - l.k
