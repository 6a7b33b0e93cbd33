-- `save` (document 01, "The state program").
use Rattle.std.specs.Prelude.{ℕ, ◌+◌, eqb, ltb, set, if◌then◌else◌, Option, Some, None}
use Rattle.state.specs.declared.State.{State}
use Rattle.state.specs.State.{max_saved, overfull}
use Rattle.state.specs.Pairs.{place_of}

-- what a change of a state comes to: the next state; a slot or a register out of range; a 33rd register; an unknown architecture
-- or a state that counts more than 32 pairs
pub data Change : Type 0 where
  Done : State → Change
  OutOfRange Full BadOpening : Change

-- the slot of the pair at place i set
abbrev pub with_slot : State → ℕ → ℕ → State
with_slot st i slot =
    record {
      cfa_fp = st.cfa_fp;
      cfa_units = st.cfa_units;
      count = st.count;
      regs = st.regs;
      slots = set st.slots i slot;
    }

-- one more pair
abbrev pub with_pair : State → ℕ → ℕ → State
with_pair st reg slot =
    record {
      cfa_fp = st.cfa_fp;
      cfa_units = st.cfa_units;
      count = st.count + 1;
      regs = set st.regs st.count reg;
      slots = set st.slots st.count slot;
    }

-- saving again keeps the pair's place; a new register comes last, unless there are 32
abbrev pub save_at : State → ℕ → ℕ → Option ℕ → Change
save_at st reg slot (Some i) = Done (with_slot st i slot)
save_at st reg slot None = if eqb st.count max_saved then Full else Done (with_pair st reg slot)

-- slot 0 or above 65535, or a register above 65535, is out of range
unfoldable pub save : State → ℕ → ℕ → Change
save st reg slot =
    if overfull st then BadOpening
    else if eqb slot 0 then OutOfRange
    else if ltb 65535 slot then OutOfRange
    else if ltb 65535 reg then OutOfRange
    else save_at st reg slot (place_of st reg)
