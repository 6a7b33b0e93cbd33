-- `frame::slots::slot_in` meets its contract. Assumes nothing.
use Rattle.std.proofs.Common.{◌∙◌, ◌-◌, ◌*◌, arith}
use Rattle.frame.proofs.InStack.{part_read}
use Rattle.frame.proofs.slots.slot_in.Goals as goal

pub returns : goal.returns
returns c =
    let x = c.args in
    c.unwrap_or.ensures ∙ part_read x.stack.now (x.top - 8 * x.slot) c.u64_in.result c.u64_in.ensures (omega arith)
