-- Laws of `Saves`: what a word that has a CFA saves. Assumes nothing.
use mathlib.Core.Path.{◌≡◌, refl, ◌∙◌}
use mathlib.Core.Bool.{Bool, true, false, not, ◌&&◌}
use mathlib.Core.List.{List}
use mathlib.Core.Logic.{inl, inr}
use Prim.Native.Nat.{ℕ, ◌/◌, ◌^◌, ◌≤◌, ◌<◌}
use native.Mathlib.Nat.{div-lt_iff_lt-mul}
use native.Mathlib.Omega.{arith}
use lib.Count.{ones}
use lib.Dec.{eqb, ltb, lit<}
use lib.ListN.{length}
use lib.Pow.{pow_pos}
use borrow.Author.Tests.{eqb-true, ltb-false, not-false}
use Rattle.failure.specs.Outcome.{Outcome, Refused, Answer}
use Rattle.failure.specs.Failure.{BadEkoRecord, EkoAsyncFrame}
use Rattle.arch.specs.Arch.{Arch, numbers}
use Rattle.frame.specs.Frame.{kind, on_fp, mask, param, named, first_slot}
use Rattle.frame.specs.Step.{past_table, frame_cfa}
use Rattle.frame.specs.ReadAs.{passes}
use Rattle.frame.specs.Near.{Saves}
use Rattle.frame.proofs.Named.{table-short, named-few, named-zero, named_ones}
use Rattle.frame.proofs.Passes.{Passing, leaf-word, fp-word, sp-word, passing, Turned, turned}

-- a mask within its table has no bit past it
pub mask-within : (a : Arch) (frame : ℕ) → past_table a frame ≡ false → mask frame < 2 ^ length a.saved
unfolding past_table
mask-within a frame e =
    let z = eqb-true (mask frame / 2 ^ length a.saved) 0 (not-false _ e) in
    let h : mask frame / 2 ^ length a.saved < 1 = omega (arith, z) in
    omega (arith, (div-lt_iff_lt-mul (pow_pos (length a.saved))).0 h)

-- a word that has a CFA passes the test of its mask
within : (a : Arch) (frame : ℕ) (first : Bool) (file : List ℕ) (at : ℕ) → Answer at ≡ frame_cfa a frame first file → past_table a frame ≡ false
unfolding frame_cfa
within a frame first file at e = go (past_table a frame) refl
  where
    go : (t : Bool) → past_table a frame ≡ t → past_table a frame ≡ false
    go true p =
        let q : ◌≡◌ {A = Outcome ℕ} (Answer at) (Refused BadEkoRecord) = rw p at e in
        let z : ◌≡◌ {A = ℕ} 0 1 = cc in
        absurd (omega arith)
    go false p = p

-- a word that has a CFA saves no register in slot 0
first_some :
    (a : Arch) (frame : ℕ) (first : Bool) (file : List ℕ) (at n : ℕ) → Answer at ≡ frame_cfa a frame first file →
    n ≡ length (named (mask frame) a.saved) → 0 < n → 0 < first_slot frame
first_some a frame first file at n e is some = go (passes a frame first) refl
  where
    refused : (x : ℕ) → frame_cfa a frame first file ≡ Refused x → 0 < first_slot frame
    refused x p =
        let q : ◌≡◌ {A = Outcome ℕ} (Answer at) (Refused x) = e ∙ p in
        let z : ◌≡◌ {A = ℕ} 0 1 = cc in
        absurd (omega arith)

    masked : mask frame ≡ 0 → 0 < first_slot frame
    masked z =
        let l : n ≡ 0 = is ∙ rw (z, named-zero a.saved) in
        absurd (omega arith)

    high : (t s : Bool) → ltb (param frame) 3 ≡ t → eqb (mask frame) 0 ≡ s → (t && not s) ≡ false → kind frame ≡ on_fp → 0 < first_slot frame
    high true true l z p k = masked (eqb-true (mask frame) 0 z)
    high true false l z p k = let q : ◌≡◌ {A = ℕ} 0 1 = cc in absurd (omega arith)
    high false s l z p k = let h = ltb-false (param frame) 3 l in rw k (omega arith)

    passed : Passing a frame first → 0 < first_slot frame
    passed (leaf-word past f k z) = masked z
    passed (fp-word past f k low) = high (ltb (param frame) 3) (eqb (mask frame) 0) refl refl low k
    passed (sp-word past f k) = rw k (lit< tt)

    turned_back : Turned a frame first file → 0 < first_slot frame
    turned_back (inl p) = refused BadEkoRecord p
    turned_back (inr p) = refused EkoAsyncFrame p

    go : (t : Bool) → passes a frame first ≡ t → 0 < first_slot frame
    go true p = passed (passing a frame first p)
    go false p = turned_back (turned a frame first file p)

-- what a word that has a CFA saves
pub saves :
    (a : Arch) (frame : ℕ) (first : Bool) (file : List ℕ) (at n : ℕ) → Answer at ≡ frame_cfa a frame first file → n ≡ ones (mask frame) →
    Saves a frame n
saves a frame first file at n e is =
    let w = within a frame first file at e in
    let c = is ∙ named_ones (mask frame) a.saved (mask-within a frame w) in
    record { within = w; count = c; some = first_some a frame first file at n e c }

-- which are at most 18
pub saves-few : (arch frame n : ℕ) → Saves (numbers arch) frame n → n ≤ 18
saves-few arch frame n s = omega (arith, s.count, table-short arch, named-few (mask frame) (numbers arch).saved)
