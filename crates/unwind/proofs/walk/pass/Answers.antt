-- `unwind::walk::pass` meets its contract. Assumes nothing.
use Rattle.std.proofs.Common.{Ok, ◌∙◌, ap}
use Rattle.failure.proofs.Outcome.{exit_as}
use Rattle.unwind.proofs.Batching.{given_met}
use Rattle.unwind.proofs.walk.pass.Goals as goal

pub returns-in_err-met : goal.returns-in_err-met
returns-in_err-met c =
    exit_as _ _ _ c.from_residual.ensures.1 ∙ given_met _ _ _ _ _ _ c.meet.ensures c.in_err-met.was

pub returns-in-Some : goal.returns-in-Some
returns-in-Some c = given_met _ _ _ _ _ _ c.meet.ensures (c.in_ok-met.was ∙ ap Ok c.in-Some.is)

pub returns-in-None : goal.returns-in-None
returns-in-None c = given_met _ _ _ _ _ _ c.meet.ensures (c.in_ok-met.was ∙ ap Ok c.in-None.is)
