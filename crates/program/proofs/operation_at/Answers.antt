-- `program::operation_at` meets its contract. Assumes nothing.
use Rattle.std.proofs.Common.{refl, arith}
use Rattle.program.proofs.Near.{near_later, near_byte, near_whole, near_number}
use Rattle.program.proofs.operation_at.Goals as goal

pub returns-in-Whole : goal.returns-in-Whole
returns-in-Whole c =
    near_whole _ _ _ _ (near_byte _ _ _ _ _ c.requires c.if-end-pos.false _ _ refl) _ c.in-Whole.ensures

pub returns-else-b-ge128 : goal.returns-else-b-ge128
returns-else-b-ge128 c =
    let section = c.args.memory.now.section.now in
    let n = c.requires in
    rw c.completed.ensures
    (near_number _ _ _ _ (near_byte section _ _ _ _ n c.if-end-pos.false _ _ refl) _ c.in-WithNumber.ensures _
    (near_byte section _ _ _ _ (near_later section _ _ _ _ n _ (omega arith)) c.if-end-next.false _ _ refl)
    c.if-b-ge128.false)
