-- `restore` (document 01, "The state program").
use Rattle.std.specs.Prelude.{List, ℕ, zero, suc, ◌+◌, ◌-◌, eqb, get_or, set, if◌then◌else◌, Option, Some, None}
use Rattle.arch.specs.Arch.{Arch}
use Rattle.state.specs.declared.State.{State}
use Rattle.state.specs.State.{overfull}
use Rattle.state.specs.Pairs.{place_of}
use Rattle.state.specs.Save.{Change, Done, BadOpening, save}

-- the n numbers after place i copied down one place; the last of them stays where it was too
abbrev pub copy_down : ℕ → ℕ → List ℕ → List ℕ
copy_down zero i xs = xs
copy_down (suc n) i xs = copy_down n (i + 1) (set xs i (get_or xs (i + 1) 0))

-- the pair at place i removed: the later pairs are copied down, and the old last pair stays past the count
abbrev pub removed : State → ℕ → State
removed st i =
    record {
      cfa_fp = st.cfa_fp;
      cfa_units = st.cfa_units;
      count = st.count - 1;
      regs = copy_down (st.count - 1 - i) i st.regs;
      slots = copy_down (st.count - 1 - i) i st.slots;
    }

-- the pair removed, if there is one
abbrev pub without_at : State → Option ℕ → State
without_at st (Some i) = removed st i
without_at st None = st

-- the state without a register's pair
unfoldable pub without : State → ℕ → State
without st reg = without_at st (place_of st reg)

-- the return address back in the slot that it has at entry, if it has one there
unfoldable pub return_saved : Arch → State → Change
return_saved a st = if eqb a.entry_slot 0 then Done st else save st a.ra a.entry_slot

-- a register back to its entry rule: not saved, but for the return register, if it was named
unfoldable pub restore : Arch → State → ℕ → Change
restore a st reg =
    if overfull st then BadOpening
    else if eqb reg a.ra then return_saved a (without st reg)
    else Done (without st reg)
