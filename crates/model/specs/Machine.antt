-- The call machine (document 01, "Walk, throw and call machine"): an architecture, a section, registers, a stack and open frames.
use Rattle.std.specs.Prelude.{Bool, true, false, not, ◌&&◌, List, [], ◌∷◌, ◌++◌, ◌≡◌, ℕ, zero, suc, ◌+◌, ◌-◌, ◌*◌, ◌/◌, ◌%◌, ◌^◌, ◌<◌, ltb, length, get_or, take, drop, if◌then◌else◌}
use Rattle.failure.specs.Outcome.{Outcome, Refused, Answer}
use Rattle.mem.specs.Memory.{Region, Memory, Lent, Bytes, size}
use Rattle.mem.specs.Opening.{opens}
use Rattle.mem.specs.Place.{holds}
use Rattle.arch.specs.Arch.{Arch, numbers, is_known}
use Rattle.arch.specs.File as File
use Rattle.arch.specs.File.{column_of}
use Rattle.lookup.specs.Tables.{Entry, records}
use Rattle.frame.specs.Layout.{Pair}

-- an open frame: its record (one of the section's), its kept file, its CFA, and its spilled pairs
pub record Open : Type 0 where
  pub entry : Entry
  pub kept : List ℕ
  pub cfa : ℕ
  pub spilled : List Pair

-- the caller of an open frame is interrupted: never, since each frame is opened by a call
unfoldable pub caller_interrupted : Open → Bool
caller_interrupted f = false

-- the address that a frame is looked up at: its pc - 1, or its pc if it is interrupted
abbrev pub looked_at : Bool → ℕ → ℕ
looked_at interrupted pc = if interrupted then pc else pc - 1

-- what no event changes: the architecture and the section
pub record Tables : Type 0 where
  pub arch : ℕ
  pub section : Region

-- the records of the section, in its order
abbrev pub records_of : Tables → List Entry
records_of ts = records ts.section.bytes ts.section.base ts.arch

-- a call machine
pub record Machine : Type 0 where
  pub tables : Tables
  pub registers : List ℕ
  pub stack : Region
  -- the open frames, the innermost first
  pub frames : List Open

-- the numbers of a machine's architecture
abbrev pub arch_of : Machine → Arch
arch_of m = numbers m.tables.arch

-- the memory that tables and a stack make: the section, then the stack
abbrev pub memory_with : Tables → Region → Memory
memory_with ts stack = ts.section ∷ stack ∷ []

-- the memory in which a machine reads its tables: the section alone
abbrev pub tables_alone : Tables → Memory
tables_alone ts = ts.section ∷ []

-- what a call is lent: tables and a stack
abbrev pub lending : Tables → Region → Lent
lending ts stack = record { regions = memory_with ts stack }

-- what the machine lends
abbrev pub lent_by : Machine → Lent
lent_by m = lending m.tables m.stack

-- fresh: no frame, any registers, any stack of an accepted opening, on architecture 1 or 2
pub record Fresh (m : Machine) : Type 0 where
  pub empty : m.frames ≡ []
  -- a file's registers are numbers of 64 bits
  pub columns : length m.registers ≡ File.columns
  pub values : (k : ℕ) → get_or m.registers k 0 < 2 ^ 64
  pub accepted : opens (lent_by m) ≡ true
  -- what is lent is bytes
  pub bytes : Bytes (lent_by m).regions
  pub known : is_known m.tables.arch ≡ true

-- the column, or 41, which no file has
abbrev pub or_none : Outcome ℕ → ℕ
or_none (Refused n) = File.columns
or_none (Answer k) = k

-- the column of a register
unfoldable pub column : Arch → ℕ → ℕ
column a reg = or_none (column_of a reg)

-- a number is a register's
unfoldable pub is_register : Arch → ℕ → Bool
is_register a reg = ltb (column a reg) File.columns

-- a register's value
unfoldable pub value : Arch → List ℕ → ℕ → ℕ
value a file reg = get_or file (column a reg) 0

-- the address of a slot, CFA - 8 * slot; where that would be below 0 it is 0, which lies in no stack
abbrev pub address : ℕ → ℕ → ℕ
address cfa slot = cfa - 8 * slot

-- the 8 bytes at an address lie in a region
unfoldable pub inside : Region → ℕ → Bool
inside r x = holds r.base (size r) x 8

-- the 8 bytes at two addresses share one
unfoldable pub meet : ℕ → ℕ → Bool
meet x y = ltb x (y + 8) && ltb y (x + 8)

-- the 8 bytes at an address meet no slot of these pairs below a CFA
abbrev pub clear_of : ℕ → ℕ → List Pair → Bool
clear_of x cfa [] = true
clear_of x cfa (p ∷ ps) = not (meet x (address cfa p.slot)) && clear_of x cfa ps

-- the 8 bytes at an address meet no live slot: none of a spilled pair of an open frame
abbrev pub clear : ℕ → List Open → Bool
clear x [] = true
clear x (f ∷ fs) = clear_of x f.cfa f.spilled && clear x fs

-- the n bytes of a number, the lowest first
abbrev pub bytes_for : ℕ → ℕ → List ℕ
bytes_for zero v = []
bytes_for (suc n) v = v % 256 ∷ bytes_for n (v / 256)

-- the bytes with new ones in the place of as many from offset k on
unfoldable pub replaced : List ℕ → ℕ → List ℕ → List ℕ
replaced bytes k new = take k bytes ++ (new ++ drop (k + length new) bytes)

-- bytes that are stored at an address
pub record Store : Type 0 where
  pub address : ℕ
  pub bytes : List ℕ

-- the region after a store that lies in it
unfoldable pub stored : Region → Store → Region
stored r w = record { base = r.base; bytes = replaced r.bytes (w.address - r.base) w.bytes }

-- the region with a number written to the 8 bytes at an address
unfoldable pub written : Region → ℕ → ℕ → Region
written r x v = stored r (record { address = x; bytes = bytes_for 8 v })
