-- The numbers of an architecture (document 01, "Kept from the Rust" and "Register files"). Registers go by DWARF numbers.
use Rattle.std.specs.Prelude.{Bool, ◌||◌, List, [], ◌∷◌, ℕ, ◌%◌, ◌^◌, eqb, if◌then◌else◌}
use Rattle.failure.specs.Outcome.{Outcome, Refused, Answer}
use Rattle.failure.specs.Failure.{BadOpening}

-- the numbers of one architecture
pub record Arch : Type 0 where
  -- the bytes that an advance counts
  pub unit : ℕ
  -- the stack pointer, the frame pointer and the return register (RA_COLUMN)
  pub sp : ℕ
  pub fp : ℕ
  pub ra : ℕ
  -- at entry: the units of the CFA above sp, and the return address's slot, 0 where it is still in its register
  pub entry_units : ℕ
  pub entry_slot : ℕ
  -- registers 0 to low - 1 stand in the column of their number, the high_count registers from number high on in the columns from
  -- high_column on
  pub low : ℕ
  pub high : ℕ
  pub high_count : ℕ
  pub high_column : ℕ
  -- the bits of an address that strip_pac keeps
  pub address_bits : ℕ
  -- the SAVED table: what the bits of a version 1 mask name, from bit 0
  pub saved : List ℕ
  -- the preserved registers
  pub preserved : List ℕ

-- architecture 1
abbrev pub aarch64 : Arch
aarch64 =
    record {
      unit = 4;
      sp = 31;
      fp = 29;
      ra = 30;
      entry_units = 0;
      entry_slot = 0;
      low = 32;
      high = 72;
      high_count = 8;
      high_column = 32;
      address_bits = 48;
      saved =
          19 ∷ 20 ∷ 21 ∷ 22 ∷ 23 ∷ 24 ∷ 25 ∷ 26 ∷ 27 ∷ 28 ∷ 72 ∷ 73 ∷ 74 ∷ 75 ∷ 76 ∷ 77 ∷ 78 ∷ 79 ∷ [];
      preserved =
          19 ∷ 20 ∷ 21 ∷ 22 ∷ 23 ∷ 24 ∷ 25 ∷ 26 ∷ 27 ∷ 28 ∷ 29 ∷ 30 ∷ 72 ∷ 73 ∷ 74 ∷ 75 ∷ 76 ∷ 77 ∷ 78 ∷ 79 ∷ [];
    }

-- architecture 2; its register 16 is pc
abbrev pub x86_64 : Arch
x86_64 =
    record {
      unit = 1;
      sp = 7;
      fp = 6;
      ra = 16;
      entry_units = 1;
      entry_slot = 1;
      low = 16;
      high = 16;
      high_count = 1;
      high_column = 40;
      address_bits = 64;
      saved = 3 ∷ 12 ∷ 13 ∷ 14 ∷ 15 ∷ [];
      preserved = 3 ∷ 6 ∷ 12 ∷ 13 ∷ 14 ∷ 15 ∷ [];
    }

-- the numbers of architecture 1, and those of 2 for any other number, which the functions that hosts call refuse first
unfoldable pub numbers : ℕ → Arch
numbers n = if eqb n 1 then aarch64 else x86_64

-- an architecture is 1 or 2
unfoldable pub is_known : ℕ → Bool
is_known n = eqb n 1 || eqb n 2

-- the numbers of architecture 1 or 2; any other gets 28
unfoldable pub known : ℕ → Outcome Arch
known n = if is_known n then Answer (numbers n) else Refused BadOpening

-- strip_pac: the address modulo 2^48 on aarch64, itself on x86-64
abbrev pub strip_pac : Arch → ℕ → ℕ
strip_pac a address = address % 2 ^ a.address_bits
