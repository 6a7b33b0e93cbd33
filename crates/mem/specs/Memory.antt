-- What a call is lent.
use Rattle.std.specs.Prelude.{ℕ, zero, suc, ◌<◌, List, [], ◌∷◌, length, slice_index}

-- a lent slice of bytes with the address of its first one
pub record Region : Type 0 where
  pub base : ℕ
  pub bytes : List ℕ

-- how many bytes a region has
abbrev pub size : Region → ℕ
size r = length r.bytes

-- the lent slices, in the order in which a read looks at them
abbrev pub Memory : Type 0
Memory = List Region

-- the bytes of region number i, none past the last
abbrev pub bytes_of : Memory → ℕ → List ℕ
bytes_of [] i = []
bytes_of (r ∷ m) zero = r.bytes
bytes_of (r ∷ m) (suc i) = bytes_of m i

-- every byte is below 256, as those of a lent slice are
abbrev pub Bytes : Memory → Type 0
Bytes m = (i k : ℕ) → slice_index (bytes_of m i) k < 256

-- all that a call is lent
pub record Lent : Type 0 where
  pub regions : Memory

-- a section and a stack, each with its base address
abbrev pub lent : List ℕ → ℕ → List ℕ → ℕ → Lent
lent section section_base stack stack_base =
    record { regions = record { base = section_base; bytes = section } ∷ record { base = stack_base; bytes = stack } ∷ [] }
