-- `lookup::ChunkIn::halve` meets its contract. The invariant is `Halved`; the measure is what is left of the turns. Assumes nothing.
use mathlib.Core.Path.{refl, sym}
use Rattle.lookup.proofs.Halving.{halved-begin, halved_turn, halved_over}
use Rattle.lookup.proofs.ChunkIn.halve.Goals as goal

pub loop-turns-init : goal.loop-turns-init
loop-turns-init g c = halved-begin _ _ _ _ c.requires.0

pub loop-turns-preserved : goal.loop-turns-preserved
loop-turns-preserved g c =
    halved_turn _ _ _ _ _ _ _ c.loop-turns.invariant _ refl
    _ _ _ c.start_of-start.ensures c.start_of-below.ensures c.start_of-above.ensures
    _ _ _ _ c.choice-lo.ensures c.choice-hi.ensures c.choice-next.ensures c.choice.ensures
    _ c.choice-lo-in-loop-turns.ensures _ c.choice-hi-in-loop-turns.ensures

pub returns : goal.returns
returns g c =
    rw (sym c.requires.1) (halved_over _ _ _ _ _ _ _ c.loop-turns.invariant c.loop-turns-test.false)
