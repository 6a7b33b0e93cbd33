-- Two stacks that agree on the live slots.
use Rattle.std.specs.Prelude.{true, ◌≡◌, ℕ, ◌-◌}
use mathlib.Core.List.{List, Memᴰ}
use Rattle.mem.specs.Memory.{Region}
use Rattle.lookup.specs.Field.{word}
use Rattle.frame.specs.Layout.{Pair}
use Rattle.model.specs.Machine.{Open, Machine, address, inside}

-- an address has 8 bytes in another stack, and they are the same number
pub record SameWord (stack other : Region) (x : ℕ) : Type 0 where
  pub within : inside other x ≡ true
  pub same : word other.bytes (x - other.base) 8 ≡ word stack.bytes (x - stack.base) 8

-- each live slot of a frame is the same in another stack
abbrev pub SameSlots : Region → Region → Open → Type 0
SameSlots stack other f = (p : Pair) → Memᴰ p f.spilled → SameWord stack other (address f.cfa p.slot)

-- and so of each of these frames
abbrev pub SameLive : Region → Region → List Open → Type 0
SameLive stack other fs = (f : Open) → Memᴰ f fs → SameSlots stack other f

-- the machine with another stack
abbrev pub with_stack : Machine → Region → Machine
with_stack m other = record { tables = m.tables; registers = m.registers; stack = other; frames = m.frames }
