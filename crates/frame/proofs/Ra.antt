-- The return register and fp are known on both architectures. Assumes nothing.
use mathlib.Core.Path.{◌≡◌, refl}
use mathlib.Core.Bool.{Bool, true, false}
use Prim.Native.Nat.{ℕ, ◌<◌}
use lib.Dec.{eqb, lit<}
use Rattle.failure.specs.Outcome.{Answer}
use Rattle.arch.specs.Arch.{Arch, aarch64, x86_64, numbers}
use Rattle.arch.specs.File.{columns, column_of}
use Rattle.arch.proofs.Arch.{of_both}
use Rattle.frame.specs.Frame.{kind, leaf, ra_slot}
use Rattle.frame.proofs.Columns.{HasColumn}

-- their columns
pub record Columns (a : Arch) : Type 0 where
  pub ra : ℕ
  pub fp : ℕ
  pub ra_known : column_of a a.ra ≡ Answer ra
  pub fp_known : column_of a a.fp ≡ Answer fp
  pub ra_fits : ra < columns

-- fp stands in the column of its number
pub fp-known : (n : ℕ) → Answer (numbers n).fp ≡ column_of (numbers n) (numbers n).fp
unfolding column_of
fp-known = of_both (λ (a : Arch). Answer a.fp ≡ column_of a a.fp) refl refl

-- the return address stands in slot 1 if it is not still in its register
pub ra_slot_one : (n frame : ℕ) → (ra_slot (numbers n) frame ≡ 0 → ⊥) → ra_slot (numbers n) frame ≡ 1
unfolding ra_slot
ra_slot_one n frame =
    of_both (λ (a : Arch). (ra_slot a frame ≡ 0 → ⊥) → ra_slot a frame ≡ 1)
    (λ e. go aarch64 (eqb (kind frame) leaf) refl e (λ t. absurd (e (rw t))))
    (λ e. go x86_64 (eqb (kind frame) leaf) refl e (λ t. rw t)) n
  where
    go : (a : Arch) (t : Bool) → eqb (kind frame) leaf ≡ t → (ra_slot a frame ≡ 0 → ⊥) →
        (eqb (kind frame) leaf ≡ true → ra_slot a frame ≡ 1) → ra_slot a frame ≡ 1
    go a true k e entry = entry k
    go a false k e entry = rw k

pub both : (n : ℕ) → Columns (numbers n)
unfolding column_of
both =
    of_both Columns
    (record { ra = 30; fp = 29; ra_known = refl; fp_known = refl; ra_fits = lit< tt })
    (record { ra = 40; fp = 6; ra_known = refl; fp_known = refl; ra_fits = lit< tt })

-- the return register has a column
pub ra-known : (n : ℕ) → HasColumn (numbers n) (numbers n).ra
ra-known n = ((both n).ra, (both n).ra_known, (both n).ra_fits)
