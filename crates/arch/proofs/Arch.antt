-- Laws of the numbers of an architecture. Both architectures' facts stand in `fits`; every other law takes what it needs of them.
-- Assumes nothing.
use mathlib.Core.Path.{◌≡◌, refl}
use mathlib.Core.Bool.{Bool, true, false}
use Prim.Native.Nat.{ℕ, ◌+◌, ◌≤◌, ◌<◌}
use lib.Dec.{eqb, lit<, lit≤}
use borrow.Author.Tests.{eq-eqb, ne_eqb}
use Rattle.arch.specs.Arch.{Arch, aarch64, x86_64, numbers}
use Rattle.arch.specs.File.{columns}

pub numbers-aarch64 : (n : ℕ) → n ≡ 1 → numbers n ≡ aarch64
unfolding numbers
numbers-aarch64 n e = simp (eq-eqb n 1 e)

pub numbers_x86_64 : (n : ℕ) → (n ≡ 1 → ⊥) → numbers n ≡ x86_64
unfolding numbers
numbers_x86_64 n e = simp (ne_eqb n 1 e)

-- what holds of both holds of the numbers of every architecture
pub of_both : (P : Arch → Type 0) → P aarch64 → P x86_64 → (n : ℕ) → P (numbers n)
unfolding numbers
of_both P one two n = go (eqb n 1) refl
  where
    go : (t : Bool) → eqb n 1 ≡ t → P (numbers n)
    go true e = rw e one
    go false e = rw e two

-- a file has a column for each register, and fp and sp stand in the columns of their numbers
pub record Fits (a : Arch) : Type 0 where
  pub low : a.low ≤ columns
  pub high : a.high_column + a.high_count ≤ columns
  pub fp : a.fp < a.low
  pub sp : a.sp < a.low

pub fits : (n : ℕ) → Fits (numbers n)
fits =
    of_both Fits
    (record { low = lit≤ tt; high = lit≤ tt; fp = lit< tt; sp = lit< tt })
    (record { low = lit≤ tt; high = lit≤ tt; fp = lit< tt; sp = lit< tt })
