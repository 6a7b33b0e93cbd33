-- Frames whose slots lie in the stack, so that none of them is refused: what the code tests before it stores in place.
use Rattle.std.specs.Prelude.{List, ◌≡◌, false, ℕ, ◌+◌, ◌-◌, ◌*◌, ◌≤◌, ◌<◌, ltb, length, get_or, take, drop, if◌then◌else◌}
use Rattle.failure.specs.Outcome.{Refused}
use Rattle.mem.specs.Word.{little_endian}
use Rattle.mem.specs.declared.Memory.{Memory}
use Rattle.arch.specs.Arch.{Arch}
use Rattle.arch.specs.File.{column_of}
use Rattle.state.specs.declared.State.{State}
use Rattle.frame.specs.Layout.{pair_count}
use Rattle.frame.specs.Frame.{mask, named, first_slot}
use Rattle.frame.specs.Step.{past_table}

-- slots 1 to depth lie in the stack, and none of their bytes in the section, where a read looks first
pub record Near (m : Memory) (at depth : ℕ) : Type 0 where
  pub low : m.stack_base + 8 * depth ≤ at
  pub high : at ≤ m.stack_base + length m.stack.now
  pub off : m.section_base < at → m.section_base + length m.section.now + 8 * depth ≤ at

-- the number in a slot, where the CFA is the stack's offset top
abbrev pub slot_in : List ℕ → ℕ → ℕ → ℕ
slot_in stack top slot = little_endian (take 8 (drop (top - 8 * slot) stack))

-- a pair's register is known, and its slot is not 0
pub record Usable (a : Arch) (reg slot : ℕ) : Type 0 where
  pub known : (x : ℕ) → column_of a reg ≡ Refused x → ⊥
  pub some : 0 < slot

-- the first n pairs are usable, and their slots are at most depth
abbrev pub Within : Arch → List ℕ → List ℕ → ℕ → ℕ → Type 0
Within a regs slots depth n =
    (j : ℕ) → j < n → Usable a (get_or regs j 0) (get_or slots j 0) × (get_or slots j 0 ≤ depth)

-- what may be asked for has the slots of a state's pairs, which are numbers of 16 bits
abbrev pub HasPairs : (ℕ → Type 0) → State → Type 0
HasPairs within st = (j : ℕ) → j < pair_count st.count → get_or st.slots j 0 < 65536 → within (get_or st.slots j 0)

-- no slot that a word with n saved registers reads is above this one
unfoldable pub deepest : ℕ → ℕ → ℕ
deepest frame n = if ltb (first_slot frame + n) 3 then 2 else first_slot frame + n - 1

-- n registers are saved by a mask within its table, none of them in slot 0
pub record Saves (a : Arch) (frame n : ℕ) : Type 0 where
  pub within : past_table a frame ≡ false
  pub count : n ≡ length (named (mask frame) a.saved)
  pub some : 0 < n → 0 < first_slot frame

-- what may be asked for has the slots that a word with n saved registers reads
pub record HasSaved (within : ℕ → Type 0) (a : Arch) (frame n : ℕ) : Type 0 where
  pub saves : Saves a frame n
  pub slots : (slot : ℕ) → 0 < slot → slot ≤ deepest frame n → within slot
