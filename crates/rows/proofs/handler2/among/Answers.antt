-- `rows::handler2::among` meets its contract. Each turn passes a row. Assumes nothing.
use Rattle.std.proofs.Common.{◌-◌, sym, subst, arith, ◌∙◌}
use Rattle.failure.specs.Outcome.{Outcome}
use Rattle.leb.proofs.Numbers.{small}
use Rattle.rows.specs.Row.{Found}
use Rattle.rows.specs.Answers.{WordOf}
use Rattle.rows.proofs.Short.{row_here, row_on}
use Rattle.rows.proofs.handler2.among.Goals as goal

pub overflow_add-at : goal.overflow_add-at
overflow_add-at g c = omega (arith, c.loop-left.invariant.1, c.requires, (small _ _ _ _ (sym c.in_ok-delta.ensures)).value)

pub returns-then-at-ret : goal.returns-then-at-ret
returns-then-at-ret g c =
    subst (λ (o : Outcome Found). WordOf g.N.Numbers.refusal c.matched.result o)
    (row_here _ _ (c.loop-left.left - 1) _ _ _ _ (omega (arith, c.loop-left-test.true)) _ c.in_ok-delta.ensures _ c.in_ok-word.ensures
    c.if-delta-eq0.false c.if-at-ret.true ∙ sym c.loop-left.invariant.0)
    c.matched.ensures

pub loop-left-preserved : goal.loop-left-preserved
loop-left-preserved g c = (
  c.loop-left.invariant.0 ∙
      sym (row_on _ _ (c.loop-left.left - 1) _ _ _ _ (omega (arith, c.loop-left-test.true)) _ c.in_ok-delta.ensures _ c.in_ok-word.ensures
      c.if-delta-eq0.false c.if-ret-at.false c.if-at-ret.false),
  c.if-ret-at.false,
)
