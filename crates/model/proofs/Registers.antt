-- Registers on both architectures: where sp stands, how a call returns, and what setting a column leaves as it was. Assumes nothing.
use mathlib.Core.Path.{◌≡◌, refl, ◌∙◌, ap}
use mathlib.Core.Bool.{Bool, true, false, ◌&&◌}
use mathlib.Core.List.{List, [], ◌∷◌}
use Prim.Native.Nat.{ℕ, zero, suc, ◌+◌, ◌-◌, ◌^◌, ◌≤◌, ◌<◌}
use native.Mathlib.Omega.{arith}
use lib.Dec.{leb, ltb, lit<, lit≤}
use lib.ListN.{length, get_or, set, length-set}
use Rattle.failure.specs.Failure.{one_of}
use Rattle.arch.specs.Arch.{Arch, numbers}
use Rattle.arch.specs.File.{columns, pc_column, column_of}
use Rattle.arch.proofs.Arch.{of_both}
use Rattle.model.specs.Machine.{column}
use Rattle.model.specs.Event.{pushes}
use Rattle.model.proofs.Files.{pointers}

-- a call pushes its return address, the return register being 16 in the column of pc; or it leaves the address in the return register,
-- which is preserved and stands before sp
pub data Returning (a : Arch) : Type 0 where
  pushed : pushes a ≡ true → a.ra ≡ 16 → column a a.ra ≡ pc_column → Returning a
  left : pushes a ≡ false → column a a.ra ≡ a.ra → a.ra < a.sp → one_of a.ra a.preserved ≡ true → Returning a

-- on both architectures
pub returning : (arch : ℕ) → Returning (numbers arch)
unfolding pushes column column_of
returning = of_both Returning (left refl refl (lit< tt) refl) (pushed refl refl refl)

-- an address has at most 64 bits
pub address_bits_lem : (arch : ℕ) → 2 ^ (numbers arch).address_bits ≤ 2 ^ 64
address_bits_lem = of_both (λ (a : Arch). 2 ^ a.address_bits ≤ 2 ^ 64) (lit≤ tt) (lit≤ tt)

-- sp stands before the upper run of registers
sp_upper : (arch : ℕ) → (numbers arch).sp < (numbers arch).high_column
sp_upper = of_both (λ (a : Arch). a.sp < a.high_column) (lit< tt) (lit< tt)

module _ (arch : ℕ) where
  abbrev a : Arch
  a = numbers arch

  -- no other register stands in the column of sp
  pub sp-alone : (reg : ℕ) → column a reg ≡ a.sp → reg ≡ a.sp
  unfolding column column_of
  sp-alone reg = go (ltb reg a.low) refl (leb a.high reg && ltb reg (a.high + a.high_count)) refl
    where
      go : (s : Bool) → ltb reg a.low ≡ s → (t : Bool) → (leb a.high reg && ltb reg (a.high + a.high_count)) ≡ t →
          column a reg ≡ a.sp → reg ≡ a.sp
      go true p t q e = rw p at e
      go false p true q e =
          let upper : a.high_column + (reg - a.high) ≡ a.sp = rw (p, q) at e in
          absurd (omega (arith, sp_upper arch))
      go false p false q e =
          let none : columns ≡ a.sp = rw (p, q) at e in
          absurd (omega (arith, (pointers arch).sp_below))

-- what holds of a column, and of the value where it is set, holds of the column after
pub set_keeps :
    (P : ℕ → Type 0) (file : List ℕ) (k v j : ℕ) → P (get_or file j 0) → (j ≡ k → P v) → P (get_or (set file k v) j 0)
set_keeps P [] k v j old new = old
set_keeps P (x ∷ file) zero v zero old new = new refl
set_keeps P (x ∷ file) zero v (suc j) old new = old
set_keeps P (x ∷ file) (suc k) v zero old new = old
set_keeps P (x ∷ file) (suc k) v (suc j) old new = set_keeps P file k v j old (λ e. new (ap suc e))

-- a file: all columns, each a number of 64 bits
pub record Good (file : List ℕ) : Type 0 where
  pub wide : length file ≡ columns
  pub below : (k : ℕ) → get_or file k 0 < 2 ^ 64

-- it stays one where a column is set to such a number
pub set_good : (file : List ℕ) (k v : ℕ) → v < 2 ^ 64 → Good file → Good (set file k v)
set_good file k v small g =
    record {
      wide = length-set file k v ∙ g.wide;
      below = λ j. set_keeps (λ (x : ℕ). x < 2 ^ 64) file k v j (g.below j) (λ e. small);
    }
