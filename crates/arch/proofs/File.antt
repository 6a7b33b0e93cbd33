-- Laws of columns, over the numbers of any architecture as the code holds them. Assumes nothing.
use Rattle.std.specs.Prelude.{if◌then◌else◌}
use mathlib.Core.Path.{◌≡◌, refl, sym, ap}
use mathlib.Core.Bool.{Bool, true, false, ◌&&◌}
use mathlib.Core.List.{List}
use Prim.Native.Nat.{ℕ, ◌+◌, ◌-◌, ◌≤◌, ◌<◌}
use native.Mathlib.Omega.{arith}
use lib.Dec.{leb, ltb}
use lib.ListN as ListN
use lib.ListN.{get_or}
use borrow.Author.Tests.{lt-ltb, le-ltb, le-leb, lt-leb, ltb-true, leb-true}
use Rattle.failure.specs.Outcome.{Outcome, Refused, Answer}
use Rattle.failure.specs.Failure.{UnknownRegister}
use Rattle.arch.specs.Arch.{Arch}
use Rattle.arch.specs.File.{columns, column_of, get, set}
use Rattle.arch.specs.Answers.{in_code}
use Rattle.arch.specs.declared.Arch2.{Arch2}
use Rattle.arch.proofs.Arch.{Fits}

module _ (a : Arch) (r : Arch2) (e : r ≡ in_code a) (reg : ℕ) where
  -- a register of the lower run
  pub column-low : reg < r.low → Answer reg ≡ column_of a reg
  unfolding column_of
  column-low l =
      let low : r.low ≡ a.low = ap (λ (x : Arch2). x.low) e in
      simp (lt-ltb reg a.low (omega arith))

  -- one below the upper run
  pub column-between : r.low ≤ reg → reg < r.high → Refused UnknownRegister ≡ column_of a reg
  unfolding column_of
  column-between l h =
      let low : r.low ≡ a.low = ap (λ (x : Arch2). x.low) e in
      let high : r.high ≡ a.high = ap (λ (x : Arch2). x.high) e in
      simp (le-ltb reg a.low (omega arith), lt-leb a.high reg (omega arith))

  -- one above it
  pub column-above : r.low ≤ reg → r.high ≤ reg → r.high_count ≤ reg - r.high → Refused UnknownRegister ≡ column_of a reg
  unfolding column_of
  column-above l h k =
      let low : r.low ≡ a.low = ap (λ (x : Arch2). x.low) e in
      let high : r.high ≡ a.high = ap (λ (x : Arch2). x.high) e in
      let count : r.high_count ≡ a.high_count = ap (λ (x : Arch2). x.high_count) e in
      simp
      (le-ltb reg a.low (omega arith), le-leb a.high reg (omega arith), le-ltb reg (a.high + a.high_count) (omega arith))

  -- one of the upper run
  pub column-high :
      r.low ≤ reg → r.high ≤ reg → reg - r.high < r.high_count → Answer (r.high_column + (reg - r.high)) ≡ column_of a reg
  unfolding column_of
  column-high l h k =
      let low : r.low ≡ a.low = ap (λ (x : Arch2). x.low) e in
      let high : r.high ≡ a.high = ap (λ (x : Arch2). x.high) e in
      let count : r.high_count ≡ a.high_count = ap (λ (x : Arch2). x.high_count) e in
      let column : r.high_column ≡ a.high_column = ap (λ (x : Arch2). x.high_column) e in
      simp
      (le-ltb reg a.low (omega arith), le-leb a.high reg (omega arith), lt-ltb reg (a.high + a.high_count) (omega arith))
      (ap Answer (omega arith))

-- a register's column is one of the file's
pub column_fits : (a : Arch) → Fits a → (reg k : ℕ) → column_of a reg ≡ Answer k → k < columns
unfolding column_of
column_fits a f reg k = low (ltb reg a.low) refl
  where
    none : (A : Type 0) → ◌≡◌ {A = Outcome ℕ} (Refused UnknownRegister) (Answer k) → A
    none A p = let z : ◌≡◌ {A = ℕ} 0 1 = cc in absurd (omega arith)

    upper : (s t : Bool) → leb a.high reg ≡ s → ltb reg (a.high + a.high_count) ≡ t →
        (if s && t then Answer (a.high_column + (reg - a.high)) else Refused UnknownRegister) ≡ Answer k → k < columns
    upper true true p q e =
        let is : a.high_column + (reg - a.high) ≡ k = cc in
        omega (arith, f.high, leb-true a.high reg p, ltb-true reg (a.high + a.high_count) q)
    upper true false p q e = none (k < columns) e
    upper false t p q e = none (k < columns) e

    low : (t : Bool) → ltb reg a.low ≡ t → column_of a reg ≡ Answer k → k < columns
    low true p e =
        let there : Answer reg ≡ Answer k = rw p at e in
        let is : reg ≡ k = cc in
        omega (arith, f.low, ltb-true reg a.low p)
    low false p e =
        upper (leb a.high reg) (ltb reg (a.high + a.high_count)) refl refl (rw p at e)

-- what a column says of a get and a set
pub get_at : (a : Arch) (file : List ℕ) (reg k : ℕ) → Answer k ≡ column_of a reg → Answer (get_or file k 0) ≡ get a file reg
unfolding get
get_at a file reg k e = rw (sym e)

pub get_unknown : (a : Arch) (file : List ℕ) (reg n : ℕ) → Refused n ≡ column_of a reg → Refused n ≡ get a file reg
unfolding get
get_unknown a file reg n e = rw (sym e)

pub set_at :
    (a : Arch) (file : List ℕ) (reg value k : ℕ) → Answer k ≡ column_of a reg → Answer (ListN.set file k value) ≡ set a file reg value
unfolding set
set_at a file reg value k e = rw (sym e)

pub set_unknown : (a : Arch) (file : List ℕ) (reg value n : ℕ) → Refused n ≡ column_of a reg → Refused n ≡ set a file reg value
unfolding set
set_unknown a file reg value n e = rw (sym e)
