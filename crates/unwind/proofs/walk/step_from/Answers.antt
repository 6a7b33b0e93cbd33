-- `unwind::walk::step_from` meets its contract. Assumes nothing.
use Rattle.std.proofs.Common.{Ok, ◌∙◌, ap, arith}
use Rattle.model.specs.FrameStep.{next_interrupted}
use Rattle.unwind.specs.Answers.{stepped}
use Rattle.unwind.proofs.Steps.{step_met, past_below}
use Rattle.unwind.proofs.walk.step_from.Goals as goal

pub overflow_add-result : goal.overflow_add-result
overflow_add-result c =
    let x = c.in-Ok-Some in
    let b = past_below _ _ _ _ _ (step_met _ _ _ _ _ _ c.meet.ensures (x.is ∙ ap Ok x.field-0-is)) in
    omega (arith, b)

pub returns-in-Ok-Some : goal.returns-in-Ok-Some
unfolding next_interrupted
returns-in-Ok-Some c =
    let x = c.in-Ok-Some in
    ap (stepped _) (step_met _ _ _ _ _ _ c.meet.ensures (x.is ∙ ap Ok x.field-0-is))

pub returns-in-Ok-None : goal.returns-in-Ok-None
returns-in-Ok-None c =
    let x = c.in-Ok-None in
    c.stayed.ensures ∙ ap (stepped _) (step_met _ _ _ _ _ _ c.meet.ensures (x.is ∙ ap Ok x.field-0-is))

pub returns-in-Err : goal.returns-in-Err
returns-in-Err c = c.stayed-in-Err.ensures ∙ ap (stepped _) (step_met _ _ _ _ _ _ c.meet.ensures c.in-Err.is)
