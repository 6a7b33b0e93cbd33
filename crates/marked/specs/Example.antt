-- What an example says: the value of a definition at the example's bytes.
use Rattle.std.specs.Prelude.{◌≡◌, List, [], ◌∷◌, ℕ, ◌+◌, length}
use Rattle.failure.specs.Outcome.{Outcome, Answer, ◌>>=◌}
use Rattle.mem.specs.Memory.{Memory, lent}
use Rattle.leb.specs.Reader.{read_number}
use Rattle.arch.specs.Arch.{numbers}
use Rattle.program.specs.Run.{run}
use Rattle.frame.specs.Layout.{Pair, Layout, layout}
use Rattle.frame.specs.Frame.{saved_pairs}
use Rattle.rows.specs.Row.{Found}
use Rattle.rows.specs.Handler2.{handler2}

-- where the examples' bytes stand
abbrev pub base : ℕ
base = 0x1000

-- a section of these bytes, and an empty stack
abbrev pub section : List ℕ → Memory
section bytes = (lent bytes base [] 1).regions

-- an example of document 01, by what it is about
pub data Example : Type 0 where
  -- the bytes of a uleb, and its value or refusal
  uleb : List ℕ → Outcome ℕ → Example
  -- an architecture, the bytes of a state program, an offset, and the state there as base, units and pairs
  program : ℕ → List ℕ → ℕ → Outcome Layout → Example
  -- the bytes of a version 2 row table, a return offset, and its row
  rows : List ℕ → ℕ → Outcome Found → Example
  -- an architecture, a version 1 frame word, and the saved registers with their slots
  word : ℕ → ℕ → List Pair → Example

-- the value of the uleb at the start of the bytes, which end at the limit
abbrev pub uleb_value : List ℕ → Outcome ℕ
uleb_value bytes = do
  read ← read_number (section bytes) (base + length bytes) base
  Answer read.value

-- the state at an offset of the program at the start of the bytes, which end at the limit
abbrev pub state_at : ℕ → List ℕ → ℕ → Outcome Layout
state_at arch bytes offset = do
  ran ← run (section bytes) (numbers arch) base (base + length bytes) offset
  Answer (layout ran.state)

-- the example is right
abbrev pub Holds : Example → Type 0
Holds (uleb bytes answer) = uleb_value bytes ≡ answer
Holds (program arch bytes offset answer) = state_at arch bytes offset ≡ answer
Holds (word arch frame pairs) = saved_pairs (numbers arch) frame ≡ pairs
Holds (rows bytes offset answer) = handler2 (section bytes) base (base + length bytes) offset ≡ answer

-- each of them is right
abbrev pub Hold : List Example → Type 0
Hold [] = Unit
Hold (e ∷ es) = Holds e × Hold es
