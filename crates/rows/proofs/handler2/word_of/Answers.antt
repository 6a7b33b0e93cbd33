-- `rows::handler2::word_of` meets its contract. Assumes nothing.
use Rattle.std.proofs.Common.{refl, subst}
use Rattle.failure.specs.Outcome.{Outcome}
use Rattle.rows.specs.Row.{Found}
use Rattle.rows.specs.Handler2.{uleb, handler2}
use Rattle.rows.specs.Answers.{WordOf}
use Rattle.rows.proofs.Left.{left_on, word_exit}
use Rattle.rows.proofs.Rows2.{rows_refused, rows-read}
use Rattle.rows.proofs.handler2.word_of.Goals as goal

pub returns-in_err-rows : goal.returns-in_err-rows
returns-in_err-rows g c =
    let x = c.args in
    let n = g.N.Numbers in
    let m = n.regions x.numbers.now in
    let limit = n.limit x.numbers.now in
    let table = n.address x.numbers.now x.table in
    word_exit n.refusal _ _ c.from_residual.ensures.1 _
    (left_on (n.refusal c.in_err-rows.field-0.0) (uleb m limit table) (handler2 m table limit x.ret) (rows_refused m limit table x.ret)
    c.in_err-rows.ensures)

pub returns : goal.returns
returns g c =
    subst (λ (o : Outcome Found). WordOf g.N.Numbers.refusal c.among.result o) (rows-read _ _ _ _ _ c.in_ok-rows.ensures _ refl)
    c.among.ensures
