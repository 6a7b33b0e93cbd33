-- `mem::Memory::opens` meets its contract. Assumes nothing.
use Rattle.std.proofs.Common.{◌≡◌, true, false, sym, ◌∙◌}
use mathlib.Core.Bool.{and-true}
use Rattle.mem.specs.Opening.{opens}
use Rattle.mem.proofs.Memory.opens.Goals as goal
use Rattle.mem.proofs.Memory.opens.Goals.{then-bounded, else-bounded}

pub returns-then-apart : goal.returns-then-apart
unfolding opens
returns-then-apart c =
    elim c.if-bounded.branch [
      | then-bounded w ↦
          simp (sym c.bounded.ensures ∙ w.if-bounded.true, sym w.apart.ensures ∙ sym w.value-is ∙ c.if-apart.true, and-true) c.bounded-then-apart.ensures
      | else-bounded w ↦ absurd (let e : false ≡ true = sym w.if-bounded.false ∙ sym w.value-is ∙ c.if-apart.true in cc)
    ]

pub returns-else-apart : goal.returns-else-apart
unfolding opens
returns-else-apart c =
    elim c.if-bounded.branch [
      | then-bounded w ↦
          simp (sym c.bounded.ensures ∙ w.if-bounded.true, sym w.apart.ensures ∙ sym w.value-is ∙ c.if-apart.false, and-true) c.if-apart.false
      | else-bounded w ↦ simp (sym c.bounded.ensures ∙ w.if-bounded.false, and-true) c.if-apart.false
    ]
