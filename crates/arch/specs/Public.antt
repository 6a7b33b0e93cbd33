-- What the public functions answer: 28 for an architecture other than 1 and 2, before anything else.
use Rattle.std.specs.Prelude.{List, ℕ}
use Rattle.failure.specs.Outcome.{Outcome, Answer, ◌>>=◌}
use Rattle.arch.specs.Arch as Arch
use Rattle.arch.specs.Arch.{known}
use Rattle.arch.specs.File as File

-- an address without the bits that `strip_pac` takes away
unfoldable pub strip_pac : ℕ → ℕ → Outcome ℕ
strip_pac arch address = do
  a ← known arch
  Answer (Arch.strip_pac a address)

-- a register's value, or 11
unfoldable pub get : ℕ → List ℕ → ℕ → Outcome ℕ
get arch file reg = do
  a ← known arch
  File.get a file reg

-- the file with a register set, or 11
unfoldable pub set : ℕ → List ℕ → ℕ → ℕ → Outcome (List ℕ)
set arch file reg value = do
  a ← known arch
  File.set a file reg value

-- the frame pointer
unfoldable pub fp : ℕ → List ℕ → Outcome ℕ
fp arch file = do
  a ← known arch
  Answer (File.fp a file)

-- the stack pointer
unfoldable pub sp : ℕ → List ℕ → Outcome ℕ
sp arch file = do
  a ← known arch
  Answer (File.sp a file)

-- the file with the stack pointer set
unfoldable pub set_sp : ℕ → List ℕ → ℕ → Outcome (List ℕ)
set_sp arch file value = do
  a ← known arch
  Answer (File.set_sp a file value)
