-- `program::follow` meets its contract. Assumes nothing.
use Rattle.std.proofs.Common.{refl, ap}
use Rattle.failure.specs.Outcome.{Answer}
use Rattle.state.proofs.Changes.{changed_to}
use Rattle.program.specs.Rule.{follow}
use Rattle.program.proofs.Following.{follow-found}
use Rattle.program.proofs.follow.Goals as goal

pub returns-in-Units : goal.returns-in-Units
unfolding follow
returns-in-Units c = follow-found _ _ _ _ _ c.in-Units.is refl

pub returns-in-Save : goal.returns-in-Save
unfolding follow
returns-in-Save c = follow-found _ _ _ _ _ c.in-Save.is (changed_to _ _ _ _ c.save_in.ensures)

pub returns-in-Sp : goal.returns-in-Sp
unfolding follow
returns-in-Sp c = follow-found _ _ _ _ _ c.in-Sp.is refl

pub returns-in-Fp : goal.returns-in-Fp
unfolding follow
returns-in-Fp c = follow-found _ _ _ _ _ c.in-Fp.is refl

pub returns-in-Restore : goal.returns-in-Restore
unfolding follow
returns-in-Restore c = follow-found _ _ _ _ _ c.in-Restore.is (changed_to _ _ _ _ c.restore_in.ensures)

pub returns-in-Entry : goal.returns-in-Entry
unfolding follow
returns-in-Entry c = follow-found _ _ _ _ _ c.in-Entry.is (ap Answer c.at_entry.ensures)

pub returns-in-Frame : goal.returns-in-Frame
unfolding follow
returns-in-Frame c = follow-found _ _ _ _ _ c.in-Frame.is c.frame_regs.ensures

pub returns-in-FrameRegs : goal.returns-in-FrameRegs
unfolding follow
returns-in-FrameRegs c = follow-found _ _ _ _ _ c.in-FrameRegs.is c.frame_regs-in-FrameRegs.ensures
