-- The table of who causes what, document 01's with the numbers that document 02 adds, number by number, and nobody any other number.
-- Assumes nothing.
use mathlib.Core.Path.{◌≡◌, refl}
use mathlib.Core.Bool.{false}
use mathlib.Core.List.{List, [], ◌∷◌}
use Prim.Native.Nat.{ℕ}
use borrow.Author.Tests.{ne_eqb}
use Rattle.failure.specs.Failure.{Cause, Host, TableMaker, Registers, Nobody, one_of, host, table_maker, registers, cause_of}

-- each of the numbers has the cause
abbrev pub Each : Cause → List ℕ → Type 0
Each cause [] = Unit
Each cause (n ∷ ns) = (cause_of n ≡ cause) × Each cause ns

-- n is none of the numbers
abbrev pub NoneOf : ℕ → List ℕ → Type 0
NoneOf n [] = Unit
NoneOf n (m ∷ ms) = (n ≡ m → ⊥) × NoneOf n ms

-- the causes of the numbers, and of all others
pub record Table : Type 0 where
  pub host : Each Host (28 ∷ 27 ∷ 29 ∷ 22 ∷ [])
  pub table_maker : Each TableMaker (10 ∷ 11 ∷ 17 ∷ 18 ∷ 19 ∷ 24 ∷ 30 ∷ 31 ∷ 32 ∷ [])
  pub registers : Each Registers (12 ∷ 20 ∷ 23 ∷ 25 ∷ [])
  pub nobody :
      (n : ℕ) → NoneOf n (28 ∷ 27 ∷ 29 ∷ 22 ∷ []) → NoneOf n (10 ∷ 11 ∷ 17 ∷ 18 ∷ 19 ∷ 24 ∷ 30 ∷ 31 ∷ 32 ∷ []) →
      NoneOf n (12 ∷ 20 ∷ 23 ∷ 25 ∷ []) → cause_of n ≡ Nobody

-- a number that is none of them is not among them
not_among : (n : ℕ) (ms : List ℕ) → NoneOf n ms → one_of n ms ≡ false
not_among n [] other = refl
not_among n (m ∷ ms) other = simp (ne_eqb n m other.0) (not_among n ms other.1)

pub causes : Table
unfolding cause_of
causes =
    record {
      host = (refl, (refl, (refl, (refl, tt))));
      table_maker = (refl, (refl, (refl, (refl, (refl, (refl, (refl, (refl, (refl, tt)))))))));
      registers = (refl, (refl, (refl, (refl, tt))));
      nobody = λ n h t r. rw (not_among n host h, not_among n table_maker t, not_among n registers r) refl;
    }
