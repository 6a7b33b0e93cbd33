-- `frame::slots::Anywhere::load` meets its contract. Assumes nothing.
use Rattle.frame.proofs.Slot.{slot_at}
use Rattle.frame.proofs.slots.AnywhereSlots.load.Goals as goal

pub returns : goal.returns
returns c = slot_at _ _ _ _ _ c.sub.ensures c.load_u64.ensures
