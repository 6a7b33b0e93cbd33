-- Laws of `named`, the registers that the bits of a mask name. Assumes nothing.
use mathlib.Core.Path.{◌≡◌, refl, ◌∙◌, ap}
use mathlib.Core.Bool.{Bool, true, false}
use mathlib.Core.List.{List, [], ◌∷◌}
use Prim.Native.Nat.{ℕ, zero, suc, ◌+◌, ◌-◌, ◌%◌, ◌/◌, ◌^◌, ◌≤◌, ◌<◌}
use native.Mathlib.Nat.{pow-suc}
use native.Mathlib.Omega.{arith}
use native.Mathlib.Numerals.{add-one}
use lib.Dec.{eqb, lit≤}
use lib.Count.{ones, ones_in, ones_step, count_trailing_zeros, under}
use lib.ListN.{length, get_or, drop}
use lib.Seq.{drop-cons}
use borrow.Author.Tests.{eqb-true, eqb-false, eq-eqb, ne_eqb}
use Rattle.arch.specs.Arch.{Arch, numbers}
use Rattle.arch.proofs.Arch.{of_both}
use Rattle.frame.specs.Frame.{named}

-- a SAVED table has at most 18 registers
pub table-short : (n : ℕ) → length (numbers n).saved ≤ 18
table-short = of_both (λ (a : Arch). length a.saved ≤ 18) (lit≤ tt) (lit≤ tt)

-- a bit that is set names its register
pub named_set :
    (m : ℕ) (table : List ℕ) (bit : ℕ) → bit < length table → m % 2 ≡ 1 →
    named m (drop bit table) ≡ get_or table bit 0 ∷ named (m / 2) (drop (bit + 1) table)
named_set m table bit h e = rw (add-one, drop-cons table bit 0 h, eq-eqb (m % 2) 1 e)

-- one that is not names none
pub named-clear :
    (m : ℕ) (table : List ℕ) (bit : ℕ) → bit < length table → (m % 2 ≡ 1 → ⊥) →
    named m (drop bit table) ≡ named (m / 2) (drop (bit + 1) table)
named-clear m table bit h e = rw (add-one, drop-cons table bit 0 h, ne_eqb (m % 2) 1 e)

-- of the bits that name registers the lowest names the first; the others are left without it
pub record First (m : ℕ) (table : List ℕ) (bit : ℕ) : Type 0 where
  pub place : bit < length table
  pub some : 2 ^ bit ≤ m
  pub names : named m table ≡ get_or table bit 0 ∷ named (m - 2 ^ bit) table

pub named_first : (digits m : ℕ) (table : List ℕ) → length table ≤ digits → 0 < length (named m table) → First m table (count_trailing_zeros digits m)
unfolding count_trailing_zeros
named_first digits m [] h some = absurd (omega arith)
named_first zero m (reg ∷ table) h some = absurd (omega arith)
named_first (suc digits) m (reg ∷ table) h some =
    go (m % 2) refl (λ e. named_first digits (m / 2) table (omega arith) (rw e at some))
  where
    later : First (m / 2) table (count_trailing_zeros digits (m / 2)) → m % 2 ≡ 0 → First m (reg ∷ table) (suc (count_trailing_zeros digits (m / 2)))
    later f e =
        let p = pow-suc 2 (count_trailing_zeros digits (m / 2)) in
        let even : (m - 2 ^ suc (count_trailing_zeros digits (m / 2))) % 2 ≡ 0 = omega (arith, p, f.some, e) in
        let half : (m - 2 ^ suc (count_trailing_zeros digits (m / 2))) / 2 ≡ m / 2 - 2 ^ count_trailing_zeros digits (m / 2) = omega (arith, p, f.some, e) in
        record {
          place = omega (arith, f.place);
          some = omega (arith, p, f.some, e);
          names = rw (e, even, half) f.names;
        }

    go : (d : ℕ) → m % 2 ≡ d → (m % 2 ≡ 0 → First (m / 2) table (count_trailing_zeros digits (m / 2))) →
        First m (reg ∷ table) (under (m % 2) (count_trailing_zeros digits (m / 2)))
    go zero e rest = rw e (later (rest e) e)
    go (suc d) e rest =
        let one : m % 2 ≡ 1 = omega (arith, e) in
        let even : (m - 1) % 2 ≡ 0 = omega (arith, one) in
        let half : (m - 1) / 2 ≡ m / 2 = omega (arith, one) in
        rw one (record { place = omega arith; some = omega (arith, one); names = rw (one, even, half) refl })

-- a mask of 0 names none
pub named-zero : (table : List ℕ) → named 0 table ≡ []
named-zero [] = refl
named-zero (reg ∷ table) = named-zero table

-- no more are named than the table has
pub named-few : (m : ℕ) (table : List ℕ) → length (named m table) ≤ length table
named-few m [] = omega arith
named-few m (reg ∷ table) = go (named-few (m / 2) table) (eqb (m % 2) 1) refl
  where
    go : length (named (m / 2) table) ≤ length table → (t : Bool) → eqb (m % 2) 1 ≡ t →
        length (named m (reg ∷ table)) ≤ length (reg ∷ table)
    go rest true e = rw e (omega arith)
    go rest false e = rw e (omega arith)

none : ones 0 ≡ 0
unfolding ones ones_in
none = refl

-- a mask within its table names as many as it has bits
pub named_ones : (m : ℕ) (table : List ℕ) → m < 2 ^ length table → ones m ≡ length (named m table)
named_ones m [] h =
    let z : m ≡ 0 = omega arith in
    ap ones z ∙ none
named_ones m (reg ∷ table) h =
    let half : m / 2 < 2 ^ length table = omega (arith, pow-suc 2 (length table)) in
    ones_step m ∙ go (named_ones (m / 2) table half) (eqb (m % 2) 1) refl
  where
    go : ones (m / 2) ≡ length (named (m / 2) table) → (t : Bool) → eqb (m % 2) 1 ≡ t →
        m % 2 + ones (m / 2) ≡ length (named m (reg ∷ table))
    go rest true e = let is = eqb-true (m % 2) 1 e in rw e (omega (arith, is, rest))
    go rest false e = let other = eqb-false (m % 2) 1 e in rw e (omega (arith, other, rest))
