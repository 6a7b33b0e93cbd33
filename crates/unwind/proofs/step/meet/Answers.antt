-- `unwind::step::meet` meets its contract. Assumes nothing.
use Rattle.std.proofs.Common.{ap, ◌∙◌, sym}
use Rattle.failure.specs.Outcome.{Answer}
use Rattle.failure.proofs.Outcome.{exit_as}
use Rattle.unwind.proofs.Meeting.{seen-located}
use Rattle.unwind.proofs.step.meet.Goals as goal

pub returns-in_err-record : goal.returns-in_err-record
returns-in_err-record c =
    exit_as _ _ _ c.from_residual.ensures.1 ∙ seen-located _ _ _ _ (c.in_err-record.ensures _ _) _

pub returns-in-None : goal.returns-in-None
returns-in-None c = seen-located _ _ _ _ (ap Answer (sym c.in-None.is) ∙ c.in_ok-record.ensures _ _) _
