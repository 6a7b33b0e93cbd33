-- `rows::handler::RowIn::judged` meets its contract. Assumes nothing.
use Rattle.std.proofs.Common.{sym, ◌∙◌, ap}
use Rattle.failure.specs.Outcome.{Answer}
use Rattle.rows.specs.Handler.{row}
use Rattle.rows.proofs.Entries.{judged_left, judged_right, judged-whole}
use Rattle.rows.proofs.Held.{judged_there, here, row_here}
use Rattle.rows.proofs.handler.RowIn.judged.Goals as goal
use Rattle.rows.proofs.handler.RowIn.judged.Goals.{then-left_breaks-via-then-left_breaks, then-left_breaks-via-else-left_breaks+then-right_breaks}

pub returns-then-left_breaks : goal.returns-then-left_breaks
returns-then-left_breaks c =
    let p = c.args.self.now.at in
    judged_there _ _ _ _ _ (here _ _ _ _ p.whole _ _ p) _
    (elim c.then-left_breaks.branch [
      | then-left_breaks-via-then-left_breaks w ↦
          judged_left _ _ _ _ _ (ap Answer (sym w.if-left_breaks.true) ∙ c.left_breaks.ensures)
      | then-left_breaks-via-else-left_breaks+then-right_breaks w ↦
          judged_right _ _ _ _ _ (ap Answer (sym w.if-left_breaks.false) ∙ c.left_breaks.ensures) (ap Answer (sym w.if-right_breaks.true) ∙ w.right_breaks.ensures)
    ])

pub returns : goal.returns
returns c =
    let p = c.args.self.now.at in
    judged_there _ _ _ _ (row _ _ _) (row_here _ _ _ _ p.whole _ _ p _ _ c.u32_at.ensures.0 c.u32_at-2.ensures.0) _
    (judged-whole _ _ _ _ (row _ _ _) (ap Answer (sym c.if-left_breaks.false) ∙ c.left_breaks.ensures) (ap Answer (sym c.if-right_breaks.false) ∙ c.right_breaks.ensures) _ c.checked.ensures)
