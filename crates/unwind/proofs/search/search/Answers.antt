-- `unwind::search::search` meets its contract. The invariant is `Searching`; the measure is the frames that may still be given. Assumes nothing.
use mathlib.Core.Path.{◌≡◌, sym, ◌∙◌}
use Prim.Native.Nat.{◌<◌}
use native.Mathlib.Omega.{arith}
use Rattle.std.specs.declared.ops.ControlFlow.TheVariants.{Continue}
use Rattle.failure.proofs.Outcome.{exit_as}
use Rattle.unwind.specs.Answers.{searched_as}
use Rattle.unwind.proofs.Searching.{searching_begin, searching_refused, searching_below, searching_on, searching_stop}
use Rattle.unwind.proofs.Meeting.{never_interrupted}
use Rattle.unwind.proofs.search.search.Goals as goal
use Rattle.unwind.proofs.search.search.Goals.{After-search_turn}

-- a turn that goes on has passed the frame
below : (c : After-search_turn) (z : Unit {0}) → c.search_turn.result ≡ Continue z → c.loop-met.number < 1024
below c z e =
    searching_below _ _ _ _ c.loop-met.invariant c.meet.new.file c.meet.result c.meet.ensures _ c.in_ok-met.was _ c.sp_column-k.ensures.0
    _ c.search_turn.ensures z e

pub loop-met-init : goal.loop-met-init
loop-met-init c = searching_begin _ _ _

pub returns-in_err-met : goal.returns-in_err-met
returns-in_err-met c =
    exit_as searched_as _ _ c.from_residual.ensures.1
    ∙ sym (searching_refused _ _ _ _ c.loop-met.invariant c.meet.new.file c.meet.result c.meet.ensures _ c.in_err-met.was)

pub returns-in-Break : goal.returns-in-Break
returns-in-Break c =
    searching_stop _ _ _ _ c.loop-met.invariant c.meet.new.file c.meet.result c.meet.ensures _ c.in_ok-met.was _ c.sp_column-k.ensures.0
    _ c.search_turn.ensures _ c.in-Break.is

pub overflow_add-number : goal.overflow_add-number
overflow_add-number c =
    let b = below (goal.at.overflow_add-number c).After-search_turn _ c.in_default.is in omega (arith, b)

pub loop-met-smaller : goal.loop-met-smaller
loop-met-smaller c =
    let b = below (goal.at.loop-met-smaller c).After-search_turn _ c.in_default.is in omega (arith, b)

pub loop-met-preserved : goal.loop-met-preserved
loop-met-preserved c =
    searching_on _ _ _ _ c.loop-met.invariant c.meet.new.file c.meet.result c.meet.ensures _ c.in_ok-met.was _ c.sp_column-k.ensures.0
    _ c.search_turn.ensures _ c.in_default.is _ (never_interrupted _ _)
