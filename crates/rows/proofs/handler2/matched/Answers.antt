-- `rows::handler2::matched` meets its contract. Assumes nothing.
use Rattle.std.proofs.Common.{refl, ◌∙◌}
use Rattle.failure.specs.Outcome.{Refused}
use Rattle.failure.specs.Failure.{EkoAmbiguousCallSite}
use Rattle.rows.specs.Handler2.{uleb, matched}
use Rattle.rows.specs.Row.{Found}
use Rattle.rows.proofs.Left.{left_on, word_exit}
use Rattle.rows.proofs.Rows2.{matched-last, matched_refused, matched_ambiguous, matched-whole}
use Rattle.rows.proofs.handler2.matched.Goals as goal
use Rattle.rows.proofs.handler2.matched.Goals.{then-left-ne0+in_ok-delta+else-delta-eq0, else-left-ne0}

pub returns-in_err-delta : goal.returns-in_err-delta
returns-in_err-delta g c =
    let x = c.args in
    let n = g.N.Numbers in
    let m = n.regions x.numbers.now in
    let limit = n.limit x.numbers.now in
    let pos = n.address x.numbers.now x.pos in
    word_exit n.refusal _ _ c.from_residual.ensures.1 _
    (left_on (n.refusal c.in_err-delta.field-0.0) (uleb m limit pos) (matched m limit x.left pos x.word)
    (matched_refused m limit x.left pos x.word c.if-left-ne0.true) c.in_err-delta.ensures)

pub returns-then-delta-eq0 : goal.returns-then-delta-eq0
returns-then-delta-eq0 g c =
    let x = c.args in
    let n = g.N.Numbers in
    let m = n.regions x.numbers.now in
    let limit = n.limit x.numbers.now in
    let pos = n.address x.numbers.now x.pos in
    let is = matched_ambiguous m limit x.left pos x.word c.if-left-ne0.true _ c.in_ok-delta.ensures c.if-delta-eq0.true in
    left_on {A = Found} (n.refusal c.ambiguous.result) (Refused EkoAmbiguousCallSite) (matched m limit x.left pos x.word) (λ k e. e ∙ is)
    c.ambiguous.ensures

pub returns : goal.returns
returns g c = elim c.if-left-ne0.branch [
  | then-left-ne0+in_ok-delta+else-delta-eq0 w ↦
      matched-whole _ _ _ _ _ w.if-left-ne0.true _ w.in_ok-delta.ensures w.if-delta-eq0.false _ refl
  | else-left-ne0 w ↦ matched-last _ _ _ _ _ w.if-left-ne0.false _ refl
]
