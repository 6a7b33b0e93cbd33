-- Every register of a SAVED table has a column. Assumes nothing.
use mathlib.Core.Path.{◌≡◌, refl, sym, ◌∙◌, ap, subst}
use mathlib.Core.List.{List, [], ◌∷◌}
use Prim.Native.Nat.{ℕ, zero, suc, ◌<◌}
use native.Mathlib.Omega.{arith}
use lib.Dec.{lit<}
use lib.ListN.{length, get_or}
use Rattle.std.proofs.Common.{Result, Ok, Err}
use Rattle.std.specs.Result.{IsOk}
use Rattle.failure.specs.Outcome.{Answer, outcome}
use Rattle.failure.specs.Failure.{number}
use Rattle.failure.specs.declared.Failure.{Failure}
use Rattle.failure.proofs.Outcome.{answer-refused}
use Rattle.arch.specs.Arch.{Arch, numbers}
use Rattle.arch.specs.File.{columns, column_of}
use Rattle.arch.proofs.Arch.{of_both}

-- an answered call is `Ok`
answered_ok : {V : Type 0} (c : Result V Failure) (v : V) → outcome c ≡ Answer v → IsOk c
answered_ok (Ok x) v e = refl
answered_ok (Err f) v e = answer-refused v (number f) (sym e)

-- a register has a column
abbrev pub HasColumn : Arch → ℕ → Type 0
HasColumn a reg = (k : ℕ) × (column_of a reg ≡ Answer k) × (k < columns)

-- each of these registers has one
abbrev pub Each : Arch → List ℕ → Type 0
Each a [] = Unit
Each a (reg ∷ regs) = HasColumn a reg × Each a regs

each_at : (a : Arch) (regs : List ℕ) → Each a regs → (i : ℕ) → i < length regs → HasColumn a (get_or regs i 0)
each_at a [] e i h = absurd (omega arith)
each_at a (reg ∷ regs) e zero h = e.0
each_at a (reg ∷ regs) e (suc i) h = each_at a regs e.1 i (omega arith)

-- those of aarch64 and of x86-64
pub saved-each : (n : ℕ) → Each (numbers n) (numbers n).saved
unfolding column_of
saved-each n =
    of_both (λ (a : Arch). Each a a.saved)
    ((19, refl, lit< tt), ((20, refl, lit< tt), ((21, refl, lit< tt), ((22, refl, lit< tt), ((23, refl, lit< tt), ((24, refl, lit< tt), ((25, refl, lit< tt), ((26, refl, lit< tt), ((27, refl, lit< tt), ((28, refl, lit< tt), ((32, refl, lit< tt), ((33, refl, lit< tt), ((34, refl, lit< tt), ((35, refl, lit< tt), ((36, refl, lit< tt), ((37, refl, lit< tt), ((38, refl, lit< tt), ((39, refl, lit< tt), tt))))))))))))))))))
    ((3, refl, lit< tt), ((12, refl, lit< tt), ((13, refl, lit< tt), ((14, refl, lit< tt), ((15, refl, lit< tt), tt)))))
    n

pub saved-known : (n bit : ℕ) → bit < length (numbers n).saved → HasColumn (numbers n) (get_or (numbers n).saved bit 0)
saved-known n bit h = each_at (numbers n) (numbers n).saved (saved-each n) bit h

module _ (a : Arch) (reg : ℕ) (h : HasColumn a reg) (given : ℕ) (e : given ≡ reg) (c : Result ℕ Failure) (q : outcome c ≡ column_of a given) where
  there : outcome c ≡ Answer h.0
  there = q ∙ ap (column_of a) e ∙ h.1

  -- the code finds one
  pub column_there : IsOk c
  column_there = answered_ok c h.0 there

  -- which is its column
  pub column-told : (k : ℕ) → c ≡ Ok k → (Answer k ≡ column_of a reg) × (k < columns)
  column-told k p =
      let same : Answer k ≡ Answer h.0 = sym (ap outcome p) ∙ there in
      let z : h.0 ≡ k = cc in
      (same ∙ sym h.1, subst (λ (x : ℕ). x < columns) z h.2)
