-- Register files (document 01, "Register files"): a list of 41 columns, which serves both architectures.
use Rattle.std.specs.Prelude.{◌&&◌, List, ℕ, ◌+◌, ◌-◌, leb, ltb, get_or, if◌then◌else◌}
use Rattle.std.proofs.Math.ListN as ListN
use Rattle.failure.specs.Outcome.{Outcome, Refused, Answer, ◌>>=◌}
use Rattle.failure.specs.Failure.{UnknownRegister}
use Rattle.arch.specs.Arch.{Arch}

-- how many columns a file has
abbrev pub columns : ℕ
columns = 41

-- the column of pc
abbrev pub pc_column : ℕ
pc_column = 40

-- the column of a register; other numbers get 11
unfoldable pub column_of : Arch → ℕ → Outcome ℕ
column_of a reg =
    if ltb reg a.low then Answer reg
    else if leb a.high reg && ltb reg (a.high + a.high_count) then Answer (a.high_column + (reg - a.high))
    else Refused UnknownRegister

-- a register's value, or 11
unfoldable pub get : Arch → List ℕ → ℕ → Outcome ℕ
get a file reg = do
  k ← column_of a reg
  Answer (get_or file k 0)

-- the file with a register set, or 11
unfoldable pub set : Arch → List ℕ → ℕ → ℕ → Outcome (List ℕ)
set a file reg value = do
  k ← column_of a reg
  Answer (ListN.set file k value)

-- the frame pointer, which stands in the column of its number
abbrev pub fp : Arch → List ℕ → ℕ
fp a file = get_or file a.fp 0

-- the stack pointer, which stands in the column of its number
abbrev pub sp : Arch → List ℕ → ℕ
sp a file = get_or file a.sp 0

-- pc
abbrev pub pc : List ℕ → ℕ
pc file = get_or file pc_column 0

-- the file with the stack pointer set
abbrev pub set_sp : Arch → List ℕ → ℕ → List ℕ
set_sp a file value = ListN.set file a.sp value

-- the file with pc set
abbrev pub set_pc : List ℕ → ℕ → List ℕ
set_pc file value = ListN.set file pc_column value
