-- Register files of both architectures: where sp, fp, the return register and the preserved registers stand. Assumes nothing.
use mathlib.Core.Path.{◌≡◌, refl, ◌∙◌, ap}
use mathlib.Core.Bool.{Bool, true, false, not, ◌&&◌}
use mathlib.Core.List.{List, [], ◌∷◌}
use Prim.Native.Nat.{ℕ, ◌<◌}
use native.Mathlib.Omega.{arith}
use lib.Dec.{eqb, ltb, lit<}
use lib.ListN as ListN
use lib.ListN.{length, get_or, length-set}
use lib.Seq.{get_or-set_same, get_or-set_other}
use borrow.Author.Tests.{eqb-true, eq-eqb, ltb-true}
use Rattle.failure.specs.Outcome.{Outcome, Refused, Answer}
use Rattle.failure.specs.Failure.{one_of}
use Rattle.mem.proofs.Tests.{both}
use Rattle.arch.specs.Arch.{Arch, numbers}
use Rattle.arch.specs.File.{columns, pc_column, column_of, sp, pc, set_pc}
use Rattle.arch.proofs.Arch.{of_both}
use Rattle.model.specs.Machine.{column, is_register, value}
use Rattle.model.proofs.Chain.{Agrees}

-- a register's column is one of a file's, and none of those that a landing pad's file or a return sets
free : Arch → ℕ → Bool
free a reg =
    ltb (column a reg) columns
    && (not (eqb (column a reg) a.sp) && (not (eqb (column a reg) pc_column) && (not (eqb (column a reg) 0) && not (eqb (column a reg) 1))))

-- all of those registers are
all_free : Arch → List ℕ → Bool
all_free a [] = true
all_free a (reg ∷ regs) = free a reg && all_free a regs

-- one of them is
free_one : (a : Arch) (reg : ℕ) (regs : List ℕ) → all_free a regs ≡ true → one_of reg regs ≡ true → free a reg ≡ true
unfolding all_free
free_one a reg [] all one = let z : ◌≡◌ {A = ℕ} 0 1 = cc in absurd (omega arith)
free_one a reg (r ∷ regs) all one = go (eqb reg r) refl (λ p. free_one a reg regs split.1 p)
  where
    split : (free a r ≡ true) × (all_free a regs ≡ true)
    split = both (free a r) (all_free a regs) all

    go : (t : Bool) → eqb reg r ≡ t → (one_of reg regs ≡ true → free a reg ≡ true) → free a reg ≡ true
    go true e rest = ap (free a) (eqb-true reg r e) ∙ split.0
    go false e rest = rest (rw e at one)

-- what a preserved register's column is
pub record Preserved (a : Arch) (reg : ℕ) : Type 0 where
  pub known : is_register a reg ≡ true
  pub below : column a reg < columns
  pub not_sp : column a reg ≡ a.sp → ⊥
  pub not_pc : column a reg ≡ pc_column → ⊥
  pub not0 : column a reg ≡ 0 → ⊥
  pub not1 : column a reg ≡ 1 → ⊥

-- a test that fails tells numbers apart
other : (x y : ℕ) → not (eqb x y) ≡ true → x ≡ y → ⊥
other x y n e =
    let no : false ≡ true = rw (eq-eqb x y e) at n in
    let z : ◌≡◌ {A = ℕ} 0 1 = cc in
    omega arith

of_free : (a : Arch) (reg : ℕ) → free a reg ≡ true → Preserved a reg
unfolding free is_register
of_free a reg f =
    let (l, f1) = both (ltb (column a reg) columns) _ f in
    let (s, f2) = both (not (eqb (column a reg) a.sp)) _ f1 in
    let (p, f3) = both (not (eqb (column a reg) pc_column)) _ f2 in
    let (x, y) = both (not (eqb (column a reg) 0)) (not (eqb (column a reg) 1)) f3 in
    record {
      known = l;
      below = ltb-true (column a reg) columns l;
      not_sp = other (column a reg) a.sp s;
      not_pc = other (column a reg) pc_column p;
      not0 = other (column a reg) 0 x;
      not1 = other (column a reg) 1 y;
    }

all_free_lem : (arch : ℕ) → all_free (numbers arch) (numbers arch).preserved ≡ true
unfolding all_free free column column_of
all_free_lem = of_both (λ (a : Arch). all_free a a.preserved ≡ true) refl refl

-- preserved registers on both architectures
pub preserved : (arch reg : ℕ) → one_of reg (numbers arch).preserved ≡ true → Preserved (numbers arch) reg
preserved arch reg one =
    of_free (numbers arch) reg (free_one (numbers arch) reg (numbers arch).preserved (all_free_lem arch) one)

-- fp is preserved; fp and sp stand in the columns of their numbers; the return register is known
pub record Pointers (a : Arch) : Type 0 where
  pub fp_preserved : one_of a.fp a.preserved ≡ true
  pub fp_column : column a a.fp ≡ a.fp
  pub sp_column : column a a.sp ≡ a.sp
  -- neither 0 nor 1
  pub sp_above : 1 < a.sp
  pub sp_below : a.sp < pc_column
  pub ra_known : column_of a a.ra ≡ Answer (column a a.ra)
  pub ra_below : column a a.ra < columns

pub pointers : (arch : ℕ) → Pointers (numbers arch)
unfolding column column_of
pointers =
    of_both Pointers
    (record { fp_preserved = refl; fp_column = refl; sp_column = refl; sp_above = lit< tt; sp_below = lit< tt; ra_known = refl; ra_below = lit< tt })
    (record { fp_preserved = refl; fp_column = refl; sp_column = refl; sp_above = lit< tt; sp_below = lit< tt; ra_known = refl; ra_below = lit< tt })

-- a register's column is known
pub register_known : (a : Arch) (reg : ℕ) → is_register a reg ≡ true → column_of a reg ≡ Answer (column a reg)
unfolding is_register column
register_known a reg e = go (column_of a reg) refl
  where
    go : (o : Outcome ℕ) → column_of a reg ≡ o → column_of a reg ≡ Answer (column a reg)
    go (Refused n) p =
        let no : false ≡ true = rw p at e in
        let z : ◌≡◌ {A = ℕ} 0 1 = cc in
        absurd (omega arith)
    go (Answer k) p = rw p

-- what a landing pad's file has in the columns that it does not set
module _ (exc x : ℕ) (file : List ℕ) where
  pub pad-column :
      (k : ℕ) → (k ≡ 0 → ⊥) → (k ≡ 1 → ⊥) → (k ≡ pc_column → ⊥) →
      get_or (set_pc (ListN.set (ListN.set file 0 exc) 1 0) x) k 0 ≡ get_or file k 0
  pad-column k n0 n1 np =
      get_or-set_other (ListN.set (ListN.set file 0 exc) 1 0) pc_column k x 0 np ∙
      get_or-set_other (ListN.set file 0 exc) 1 k 0 0 n1 ∙
      get_or-set_other file 0 k exc 0 n0

  pub pad-pc : length file ≡ columns → pc (set_pc (ListN.set (ListN.set file 0 exc) 1 0) x) ≡ x
  pad-pc l =
      get_or-set_same (ListN.set (ListN.set file 0 exc) 1 0) pc_column x 0 (simp length-set (omega arith))

-- a landing pad's file agrees with the machine's on sp and preserved registers, and has the pad as pc
pub pad-file :
    (arch exc x : ℕ) (file' file : List ℕ) → Agrees (numbers arch) file' file →
    (sp (numbers arch) (set_pc (ListN.set (ListN.set file' 0 exc) 1 0) x) ≡ sp (numbers arch) file) ×
    ((pc (set_pc (ListN.set (ListN.set file' 0 exc) 1 0) x) ≡ x) ×
    ((reg : ℕ) → one_of reg (numbers arch).preserved ≡ true →
    value (numbers arch) (set_pc (ListN.set (ListN.set file' 0 exc) 1 0) x) reg ≡ value (numbers arch) file reg))
unfolding value
pad-file arch exc x file' file g = (
  pad-column exc x file' (numbers arch).sp (λ e. omega (arith, (pointers arch).sp_above)) (λ e. omega (arith, (pointers arch).sp_above))
      (λ e. omega (arith, (pointers arch).sp_below)) ∙
      g.sp,
  (
    pad-pc exc x file' g.wide,
    λ reg one. let p = preserved arch reg one in
        pad-column exc x file' (column (numbers arch) reg) p.not0 p.not1 p.not_pc ∙ g.preserved reg one,
  ),
)
