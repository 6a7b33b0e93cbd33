-- `unwind::unwind` meets its contract. Assumes nothing.
use Rattle.unwind.proofs.Told.{together, unwound}
use Rattle.unwind.proofs.unwind.Goals as goal

pub returns : goal.returns
returns c =
    let n = c.args.n in
    let e = together n _ _ _ _ _ _ c.raise-raised.result c.raise-raised.ensures.0 c.resume_nth.result c.resume_nth.ensures in
    let both = unwound n _ _ _ _ _ _ (record { raised = c.raise-raised.result.answer; resumed = c.resume_nth.result }) e in
    (e, both.0, both.1)
