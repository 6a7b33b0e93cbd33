-- `unwind::resume_nth` meets its contract. Assumes nothing.
use mathlib.Core.Path.{sym, ◌∙◌}
use Rattle.unwind.proofs.Calls.{calling-on, calling_settled}
use Rattle.unwind.proofs.resume_nth.Goals as goal

pub returns-then-not-lands : goal.returns-then-not-lands
returns-then-not-lands c =
    calling_settled _ _ _ _ _ _ c.loop.invariant c.resume-resumed.result c.resume-resumed.ensures.0
    (sym c.lands.ensures ∙ c.if-not-lands.true)

pub loop-preserved : goal.loop-preserved
loop-preserved c =
    calling-on _ _ _ _ _ _ c.loop.invariant c.resume-resumed.result c.resume-resumed.ensures.0 c.loop-test.true
