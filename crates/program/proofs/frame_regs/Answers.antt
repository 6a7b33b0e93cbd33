-- `program::frame_regs` meets its contract. Assumes nothing.
use Rattle.std.proofs.Common.{◌∙◌}
use Rattle.failure.proofs.Outcome.{exit_as}
use Rattle.state.proofs.Changes.{changed_to}
use Rattle.program.proofs.Following.{frame_on, frame_refused}
use Rattle.program.proofs.frame_regs.Goals as goal

pub returns-in_err-save_in : goal.returns-in_err-save_in
returns-in_err-save_in c =
    exit_as _ _ _ c.from_residual.ensures.1 ∙ frame_refused _ _ c.numbers-a.ensures _ _ (changed_to _ _ _ _ c.in_err-save_in.ensures)

pub returns : goal.returns
returns c =
    frame_on _ _ c.numbers-a.ensures _ _ _ (changed_to _ _ _ _ c.in_ok-save_in.ensures) (changed_to _ _ _ _ c.save_in-2.ensures)
