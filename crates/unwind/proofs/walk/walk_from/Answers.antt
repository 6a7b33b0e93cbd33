-- `unwind::walk::walk_from` meets its contract. The invariant is `Onward`. Assumes nothing.
use Rattle.std.proofs.Common.{◌∙◌, Ok, sym, ap, arith}
use Rattle.model.specs.FrameStep.{next_interrupted}
use Rattle.unwind.specs.Batches.{given_as, walked_by}
use Rattle.unwind.proofs.Batching.{given_below, onward_by, onward_on, onward_over}
use Rattle.unwind.proofs.walk.walk_from.Goals as goal

pub overflow_add-at : goal.overflow_add-at
overflow_add-at c =
    let x = c.in-Ok-Some in
    let b = given_below _ _ _ _ _ (ap (given_as _ _ _) (sym (x.is ∙ ap Ok x.field-0-is)) ∙ c.pass.ensures) in
    omega (arith, b)

pub returns-in-Ok-None : goal.returns-in-Ok-None
returns-in-Ok-None c =
    let x = c.in-Ok-None in
    ap (walked_by _)
    (sym (onward_by _ _ _ _ _ _ c.loop-count.invariant c.loop-count-test.true _ _ _ c.pass.ensures (x.is ∙ ap Ok x.field-0-is)))

pub returns-in-Err : goal.returns-in-Err
returns-in-Err c =
    ap (walked_by _) (sym (onward_by _ _ _ _ _ _ c.loop-count.invariant c.loop-count-test.true _ _ _ c.pass.ensures c.in-Err.is))

pub loop-count-preserved : goal.loop-count-preserved
unfolding next_interrupted
loop-count-preserved c =
    let x = c.in-Ok-Some in
    onward_on _ _ _ _ _ _ c.loop-count.invariant c.loop-count-test.true _ _ _ c.pass.ensures (x.is ∙ ap Ok x.field-0-is) _ c.sp_column-k.ensures.0

pub returns : goal.returns
returns c =
    let e = c.loop-count.auto.count-end in
    let h = c.loop-count-test.false in
    ap (walked_by _) (sym (onward_over _ _ _ _ _ _ c.loop-count.invariant (omega (arith, e, h))))
