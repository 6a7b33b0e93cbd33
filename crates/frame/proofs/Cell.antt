-- What a pair comes to: a column and its new value. Assumes nothing.
use Prim.Native.Nat.{ℕ}
use Rattle.failure.specs.Outcome.{Outcome, Answer, ◌>>=◌}
use Rattle.mem.specs.Memory.{Memory}
use Rattle.arch.specs.Arch.{Arch}
use Rattle.arch.specs.File.{column_of}
use Rattle.frame.specs.Layout.{Pair}
use Rattle.frame.specs.Apply.{load_slot}

-- a column of a register file and its new value
pub record Cell : Type 0 where
  pub column : ℕ
  pub value : ℕ

-- what a pair comes to: its slot is read (27), then its register's column found (11)
unfoldable pub cell_of : Arch → Memory → ℕ → Pair → Outcome Cell
cell_of a m at p = do
  v ← load_slot m at p.slot
  k ← column_of a p.reg
  Answer (record { column = k; value = v })
