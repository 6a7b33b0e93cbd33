-- Version 1 frame words (document 01, "Version 1 frames"): kind bits 0-1, order bit 2, mask bits 3-20, param bits 21-31.
use Rattle.std.specs.Prelude.{Bool, List, [], ◌∷◌, ℕ, ◌+◌, ◌-◌, ◌%◌, ◌/◌, ◌^◌, eqb, length, if◌then◌else◌}
use Rattle.arch.specs.Arch.{Arch}
use Rattle.frame.specs.Layout.{Pair}

-- bits 0 and 1
abbrev pub kind : ℕ → ℕ
kind frame = frame % 4

-- the kinds: KIND_LEAF, KIND_FP and KIND_SP of the Rust
abbrev pub leaf : ℕ
leaf = 0

abbrev pub on_fp : ℕ
on_fp = 1

abbrev pub on_sp : ℕ
on_sp = 2

-- order, bit 2: 1 reverses the slots
abbrev pub reversed : ℕ → Bool
reversed frame = eqb (frame / 4 % 2) 1

-- bits 3 to 20
abbrev pub mask : ℕ → ℕ
mask frame = frame / 8 % 2 ^ 18

-- bits 21 to 31
abbrev pub param : ℕ → ℕ
param frame = frame / 2 ^ 21

-- the registers of a table that the bits of m name, from bit 0
abbrev pub named : ℕ → List ℕ → List ℕ
named m [] = []
named m (reg ∷ table) = if eqb (m % 2) 1 then reg ∷ named (m / 2) table else named (m / 2) table

-- registers in slots that rise from the first one's
abbrev pub rising : ℕ → List ℕ → List Pair
rising slot [] = []
rising slot (reg ∷ regs) = record { reg = reg; slot = slot } ∷ rising (slot + 1) regs

-- registers in slots that fall to the last one's
abbrev pub falling : ℕ → List ℕ → List Pair
falling slot [] = []
falling slot (reg ∷ regs) = record { reg = reg; slot = slot + length regs } ∷ falling slot regs

-- registers in slots from a first one on, in order or reversed
abbrev pub in_slots : Bool → ℕ → List ℕ → List Pair
in_slots back slot regs = if back then falling slot regs else rising slot regs

-- where the slots of the saved registers begin: param for kind 1, else 2 (a leaf saves none)
abbrev pub first_slot : ℕ → ℕ
first_slot frame = if eqb (kind frame) on_fp then param frame else 2

-- the slot of register number k of the n that the mask names, counted from 0
abbrev pub slot_of : ℕ → ℕ → ℕ → ℕ
slot_of frame n k = if reversed frame then first_slot frame + (n - 1 - k) else first_slot frame + k

-- the registers that the mask names, in mask-bit order, with their slots
unfoldable pub saved_pairs : Arch → ℕ → List Pair
saved_pairs a frame = in_slots (reversed frame) (first_slot frame) (named (mask frame) a.saved)

-- fp, which kind 1 saves at slot 2
unfoldable pub fp_pair : Arch → ℕ → List Pair
fp_pair a frame = if eqb (kind frame) on_fp then record { reg = a.fp; slot = 2 } ∷ [] else []

-- the slot of the return address: 1, but for a leaf that of entry, which is 0 where it is still in its register
unfoldable pub ra_slot : Arch → ℕ → ℕ
ra_slot a frame = if eqb (kind frame) leaf then a.entry_slot else 1
