-- What it says of a frame that a layout fits it: the CFA, the pairs, fp and the unspilled registers. Assumes nothing.
use mathlib.Core.Path.{◌≡◌, refl, ◌∙◌, ap}
use mathlib.Core.Bool.{Bool, true, false, not, ◌&&◌, ◌||◌}
use mathlib.Core.List.Memᴰ
use mathlib.Core.List.{List, [], ◌∷◌, Memᴰ}
use mathlib.Core.Logic.{◌⊎◌, inl, inr, ⊎_elim}
use Prim.Native.Nat.{ℕ, ◌%◌}
use native.Mathlib.Omega.{arith}
use lib.Dec.{eqb, ltb}
use borrow.Author.Tests.{eqb-true, ne_eqb, ltb-true}
use Rattle.failure.specs.Failure.{one_of}
use Rattle.mem.proofs.Tests.{both, either}
use Rattle.arch.specs.Arch.{Arch}
use Rattle.arch.specs.File.{fp}
use Rattle.frame.specs.Layout.{Pair, Layout, cfa}
use Rattle.frame.specs.Apply.{bad_fp}
use Rattle.model.specs.Machine.{Open, value}
use Rattle.model.specs.Described.{is_one_of, among, same_pairs, is_spilled, have_kept, good_fp, fits}

-- a pair that tests as one of those is
one_in : (p : Pair) (qs : List Pair) → is_one_of p qs ≡ true → Memᴰ p qs
one_in p [] e = let z : ◌≡◌ {A = ℕ} 0 1 = cc in absurd (omega arith)
one_in p (q ∷ qs) e =
    ⊎_elim
    (λ h. let (r, s) = both (eqb p.reg q.reg) (eqb p.slot q.slot) h in
    Memᴰ.head (same (eqb-true p.reg q.reg r) (eqb-true p.slot q.slot s)))
    (λ h. Memᴰ.tail (one_in p qs h))
    (either (eqb p.reg q.reg && eqb p.slot q.slot) (is_one_of p qs) e)
  where
    same : p.reg ≡ q.reg → p.slot ≡ q.slot → p ≡ q
    same r s =
        ap (λ (n : ℕ). record { reg = n; slot = p.slot }) r ∙ ap (λ (n : ℕ). record { reg = q.reg; slot = n }) s

-- pairs among those are those
among_in : (ps qs : List Pair) → among ps qs ≡ true → (p : Pair) → Memᴰ p ps → Memᴰ p qs
among_in [] qs e p i = absurd (Memᴰ.not-nil i)
among_in (q ∷ ps) qs e p i =
    let (here, rest) = both (is_one_of q qs) (among ps qs) e in
    ⊎_elim (λ same. one_in p qs (ap (λ (x : Pair). is_one_of x qs) same ∙ here)) (λ j. among_in ps qs rest p j) (Memᴰ.cases_cons i)

-- a spilled register has a pair
pub record SpilledAs (ps : List Pair) (reg : ℕ) : Type 0 where
  pub pair : Pair
  pub is_in : Memᴰ pair ps
  pub is : pair.reg ≡ reg

pub spilled_as : (ps : List Pair) (reg : ℕ) → is_spilled ps reg ≡ true → SpilledAs ps reg
spilled_as [] reg e = let z : ◌≡◌ {A = ℕ} 0 1 = cc in absurd (omega arith)
spilled_as (p ∷ ps) reg e =
    ⊎_elim
    (λ h. record { pair = p; is_in = Memᴰ.head refl; is = eqb-true p.reg reg h })
    (λ h. let s = spilled_as ps reg h in record { pair = s.pair; is_in = Memᴰ.tail s.is_in; is = s.is })
    (either (eqb p.reg reg) (is_spilled ps reg) e)

-- a register of those has its kept value, unless it is spilled
have_kept_lem :
    (a : Arch) (f : Open) (file regs : List ℕ) → have_kept a f file regs ≡ true → (reg : ℕ) → one_of reg regs ≡ true →
    (is_spilled f.spilled reg ≡ true) ⊎ (value a file reg ≡ value a f.kept reg)
have_kept_lem a f file [] e reg one = let z : ◌≡◌ {A = ℕ} 0 1 = cc in absurd (omega arith)
have_kept_lem a f file (r ∷ regs) e reg one =
    let (here, rest) = both (is_spilled f.spilled r || eqb (value a file r) (value a f.kept r)) (have_kept a f file regs) e in
    ⊎_elim
    (λ h. let same = eqb-true reg r h in
    rw same (⊎_elim (λ s. inl s) (λ v. inr (eqb-true (value a file r) (value a f.kept r) v))
    (either (is_spilled f.spilled r) (eqb (value a file r) (value a f.kept r)) here)))
    (λ h. have_kept_lem a f file regs rest reg h)
    (either (eqb reg r) (one_of reg regs) one)

-- a good fp is not bad
good_fp_lem : (x : ℕ) → good_fp x ≡ true → bad_fp x ≡ false
unfolding good_fp bad_fp
good_fp_lem x e =
    let (l, m) = both (ltb 0 x) (eqb (x % 8) 0) e in
    simp (ne_eqb x 0 (λ z. omega (arith, ltb-true 0 x l)), m)

-- what a fitting layout says
pub record Fitting (a : Arch) (f : Open) (file : List ℕ) (l : Layout) : Type 0 where
  pub sums : f.cfa ≡ cfa a l file
  pub read : (p : Pair) → Memᴰ p l.pairs → Memᴰ p f.spilled
  pub spilled : (p : Pair) → Memᴰ p f.spilled → Memᴰ p l.pairs
  pub good : (l.on_fp && bad_fp (fp a file)) ≡ false
  pub unspilled : (reg : ℕ) → one_of reg a.preserved ≡ true →
      (is_spilled f.spilled reg ≡ true) ⊎ (value a file reg ≡ value a f.kept reg)

pub fitting : (a : Arch) (f : Open) (file : List ℕ) (l : Layout) → fits a f file l ≡ true → Fitting a f file l
unfolding fits same_pairs
fitting a f file l e =
    let (e3, kept) = both _ (have_kept a f file a.preserved) e in
    let (e2, tested) = both _ (not l.on_fp || good_fp (fp a file)) e3 in
    let (sum, pairs) = both _ (same_pairs f.spilled l.pairs) e2 in
    let (to, from) = both (among f.spilled l.pairs) (among l.pairs f.spilled) pairs in
    record {
      sums = eqb-true f.cfa (cfa a l file) sum;
      read = among_in l.pairs f.spilled from;
      spilled = among_in f.spilled l.pairs to;
      good = go l.on_fp tested;
      unspilled = have_kept_lem a f file a.preserved kept;
    }
  where
    go : (t : Bool) → (not t || good_fp (fp a file)) ≡ true → (t && bad_fp (fp a file)) ≡ false
    go true g = good_fp_lem (fp a file) g
    go false g = refl
