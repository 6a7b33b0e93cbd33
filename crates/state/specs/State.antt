-- Unwind states (document 01, "The state program": "base sp or fp, units, up to 32 pairs (register, slot)").
-- The pairs are the first `count` numbers of `regs` and `slots`; what stands past the count is part of a state too.
use Rattle.std.specs.Prelude.{Bool, false, ℕ, eqb, ltb, set, replicate, if◌then◌else◌}
use Rattle.arch.specs.Arch.{Arch}
use Rattle.state.specs.declared.State.{State}

-- the most pairs that a state holds
abbrev pub max_saved : ℕ
max_saved = 32

-- the state counts more pairs than that, which gets 28
unfoldable pub overfull : State → Bool
overfull st = ltb max_saved st.count

-- base sp, so many units, no pair, and nothing past the count
abbrev pub bare : ℕ → State
bare units =
    record {
      cfa_fp = false;
      cfa_units = units;
      count = 0;
      regs = replicate max_saved 0;
      slots = replicate max_saved 0;
    }

-- the state with one pair (register, slot) in the place of its pairs
abbrev pub with_first : State → ℕ → ℕ → State
with_first st reg slot =
    record {
      cfa_fp = st.cfa_fp;
      cfa_units = st.cfa_units;
      count = 1;
      regs = set st.regs 0 reg;
      slots = set st.slots 0 slot;
    }

-- the entry state: sp, 0 units, no pair (aarch64); sp, 1 unit, (16, 1) (x86-64)
unfoldable pub entry : Arch → State
entry a =
    if eqb a.entry_slot 0 then bare a.entry_units
    else with_first (bare a.entry_units) a.ra a.entry_slot
