-- `frame::slots::InStack::load` meets its contract. Assumes nothing.
use Rattle.std.proofs.Common.{ap, ◌∙◌, arith}
use Rattle.failure.specs.Outcome.{Answer}
use Rattle.frame.proofs.InStack.{near_less, near_loads}
use Rattle.frame.proofs.slots.InStackSlots.load.Goals as goal

pub returns : goal.returns
returns c =
    let s = c.args.self.now in
    let near = near_less _ _ _ s.near c.args.slot c.requires.1 in
    ap Answer c.slot_in.ensures ∙ near_loads _ _ _ near c.requires.0 (omega arith)
