-- `rows::handler2::handler2_in` meets its contract. Assumes nothing.
use Rattle.std.proofs.Common.{Option, [], arith, ◌+◌, ◌-◌, ◌≡◌, subst}
use Rattle.failure.specs.Outcome.{Outcome}
use Rattle.rows.specs.Row.{Found}
use Rattle.rows.specs.Answers.{WordOf}
use Rattle.rows.proofs.Section.{handler2-same}
use Rattle.rows.proofs.handler2.handler2_in.Goals as goal

pub invariant_of-word_of : goal.invariant_of-word_of
invariant_of-word_of c = record { inside = omega arith }

pub returns : goal.returns
returns c rest =
    let x = c.args in
    let table : x.base + (x.table - x.base) ≡ x.table = omega arith in
    let limit : x.base + (x.limit - x.base - 1 + 1) ≡ x.limit = omega arith in
    let same = handler2-same (record { base = x.base; bytes = x.section.now }) [] rest x.limit (omega arith) x.table x.ret (omega arith) in
    subst (λ (o : Outcome Found). WordOf (λ u. Option.None) c.word_of.result o) same (rw (table, limit) at c.word_of.ensures)
