-- What describes a frame: base, units and pairs (document 01, "The state program").
use Rattle.std.specs.Prelude.{Bool, List, [], ◌∷◌, ℕ, zero, suc, ◌+◌, ◌*◌, ltb, get_or, if◌then◌else◌}
use Rattle.mem.specs.Wrapping.{sum}
use Rattle.arch.specs.Arch.{Arch}
use Rattle.arch.specs.File.{fp, sp}
use Rattle.state.specs.declared.State.{State}

-- a saved register, which stands at CFA - 8 * slot
pub record Pair : Type 0 where
  pub reg : ℕ
  pub slot : ℕ

-- a frame's base, units and pairs
pub record Layout : Type 0 where
  -- the base is fp, otherwise sp
  pub on_fp : Bool
  -- the CFA is 8 * units above the base
  pub units : ℕ
  -- the saved registers, in the order in which they are read
  pub pairs : List Pair

-- the first n pairs of a list of registers and a list of slots
abbrev pub first_pairs : ℕ → List ℕ → List ℕ → List Pair
first_pairs zero regs slots = []
first_pairs (suc n) [] slots = []
first_pairs (suc n) (r ∷ regs) [] = []
first_pairs (suc n) (r ∷ regs) (s ∷ slots) = record { reg = r; slot = s } ∷ first_pairs n regs slots

-- n pairs from place i on of two arrays
abbrev pub pairs_at : ℕ → ℕ → List ℕ → List ℕ → List Pair
pairs_at zero i regs slots = []
pairs_at (suc n) i regs slots = record { reg = get_or regs i 0; slot = get_or slots i 0 } ∷ pairs_at n (i + 1) regs slots

-- two arrays of 32 have no more pairs than that
abbrev pub pair_count : ℕ → ℕ
pair_count count = if ltb 32 count then 32 else count

-- what a state describes: its first count pairs, whatever stands past them
abbrev pub layout : State → Layout
layout st = record { on_fp = st.cfa_fp; units = st.cfa_units; pairs = first_pairs st.count st.regs st.slots }

-- the base register's value
abbrev pub base : Arch → Bool → List ℕ → ℕ
base a on_fp file = if on_fp then fp a file else sp a file

-- the canonical frame address, the caller's sp: the base + 8 * units, modulo 2^64
abbrev pub cfa : Arch → Layout → List ℕ → ℕ
cfa a l file = sum (base a l.on_fp file) (8 * l.units)
