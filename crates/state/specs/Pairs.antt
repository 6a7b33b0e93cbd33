-- Where a register's pair stands, and the slot in it.
use Rattle.std.specs.Prelude.{List, ℕ, zero, suc, ◌+◌, eqb, get_or, if◌then◌else◌, Option, Some, None}
use Rattle.state.specs.declared.State.{State}

-- the first of the n places from i on where reg stands
abbrev pub place_from : ℕ → ℕ → List ℕ → ℕ → Option ℕ
place_from zero i regs reg = None
place_from (suc n) i regs reg = if eqb (get_or regs i 0) reg then Some i else place_from n (i + 1) regs reg

-- the place of a register among the first `count`; the number is compared whole
abbrev pub place_of : State → ℕ → Option ℕ
place_of st reg = place_from st.count 0 st.regs reg
