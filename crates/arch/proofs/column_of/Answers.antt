-- `arch::column_of` meets its contract: each test says which run of columns the register is in. Assumes nothing.
use mathlib.Core.Path.{ap}
use native.Mathlib.Omega.{arith}
use Rattle.arch.specs.declared.Arch2.{Arch2}
use Rattle.arch.proofs.Arch.{fits}
use Rattle.arch.proofs.File.{column-low, column-between, column-above, column-high}
use Rattle.arch.proofs.column_of.Goals as goal

pub returns-then-reg-a : goal.returns-then-reg-a
returns-then-reg-a c = column-low _ _ c.numbers-a.ensures _ c.if-reg-a.true

pub returns-then-reg-a-2 : goal.returns-then-reg-a-2
returns-then-reg-a-2 c = column-between _ _ c.numbers-a.ensures _ c.if-reg-a.false c.if-reg-a-2.true

pub returns-then-a-k : goal.returns-then-a-k
returns-then-a-k c =
    column-above _ _ c.numbers-a.ensures _ c.if-reg-a.false c.if-reg-a-2.false c.if-a-k.true

pub overflow_add-result : goal.overflow_add-result
overflow_add-result c =
    let e = c.numbers-a.ensures in
    omega (
      arith,
      ap (λ (r : Arch2). r.high_column) e,
      ap (λ (r : Arch2). r.high_count) e,
      (fits c.args.arch).high,
    )

pub returns : goal.returns
returns c =
    column-high _ _ c.numbers-a.ensures _ c.if-reg-a.false c.if-reg-a-2.false c.if-a-k.false
