-- The preserved registers are those that document 01 names: 3, 6, 12 to 15 (x86-64); 19 to 30, 72 to 79 (aarch64). Assumes nothing.
use mathlib.Core.Bool.{Bool, true, false, ◌&&◌, ◌||◌}
use mathlib.Core.Path.{◌≡◌, refl}
use Prim.Native.Nat.{ℕ, zero, suc, ◌+◌}
use lib.Dec.{eqb, leb}
use Rattle.failure.specs.Failure.{one_of}
use Rattle.arch.specs.Arch.{aarch64, x86_64}

-- a number lies between two
abbrev between : ℕ → ℕ → ℕ → Bool
between lo hi reg = leb lo reg && leb reg hi

abbrev on_x86_64 : ℕ → Bool
on_x86_64 reg = eqb reg 3 || eqb reg 6 || between 12 15 reg

abbrev on_aarch64 : ℕ → Bool
on_aarch64 reg = between 19 30 reg || between 72 79 reg

-- two tests come out alike for the n numbers from i on
abbrev alike : (ℕ → Bool) → (ℕ → Bool) → ℕ → ℕ → Bool
alike p q zero i = true
alike p q (suc n) i = same (p i) (q i) && alike p q n (i + 1)
  where
    same : Bool → Bool → Bool
    same true t = t
    same false true = false
    same false false = true

-- for every number of a register
pub preserved_x86_64 : alike (λ reg. one_of reg x86_64.preserved) on_x86_64 100 0 ≡ true
preserved_x86_64 = refl

pub preserved-aarch64 : alike (λ reg. one_of reg aarch64.preserved) on_aarch64 100 0 ≡ true
preserved-aarch64 = refl
