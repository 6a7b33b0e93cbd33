-- Laws of `passes`: the three ways in which a word passes, and what any other is turned back with. Assumes nothing.
use mathlib.Core.Path.{◌≡◌, refl, sym}
use mathlib.Core.Bool.{Bool, true, false, not, ◌&&◌, ◌||◌, or-false, or-true}
use mathlib.Core.List.{List}
use mathlib.Core.Logic.{◌⊎◌, inl, inr}
use Prim.Native.Nat.{ℕ}
use lib.Dec.{eqb, ltb}
use borrow.Author.Tests.{eqb-true}
use Rattle.failure.specs.Outcome.{Refused}
use Rattle.failure.specs.Failure.{BadEkoRecord, EkoAsyncFrame}
use Rattle.mem.specs.Memory.{Memory}
use Rattle.mem.proofs.Tests.{both}
use Rattle.arch.specs.Arch.{Arch}
use Rattle.frame.specs.Frame.{kind, leaf, on_fp, on_sp, mask, param}
use Rattle.frame.specs.Step.{past_table, leaf_cfa, fp_cfa, sp_cfa, frame_cfa, step}
use Rattle.frame.specs.ReadAs.{passes}

-- the three ways in which a word passes
pub data Passing (a : Arch) (frame : ℕ) (first : Bool) : Type 0 where
  leaf-word : past_table a frame ≡ false → first ≡ true → kind frame ≡ leaf → mask frame ≡ 0 → Passing a frame first
  fp-word :
      past_table a frame ≡ false → first ≡ false → kind frame ≡ on_fp → (ltb (param frame) 3 && not (eqb (mask frame) 0)) ≡ false →
      Passing a frame first
  sp-word : past_table a frame ≡ false → first ≡ false → kind frame ≡ on_sp → Passing a frame first

opposite : (t : Bool) → not t ≡ true → t ≡ false
opposite true e = sym e
opposite false e = refl

low_enough : (s t : Bool) → (not s || t) ≡ true → (s && not t) ≡ false
low_enough true true e = refl
low_enough true false e = sym e
low_enough false t e = refl

pub passing : (a : Arch) (frame : ℕ) (first : Bool) → passes a frame first ≡ true → Passing a frame first
unfolding passes
passing a frame first p = go first refl
  where
    called : past_table a frame ≡ false → first ≡ false → (t : Bool) → eqb (kind frame) on_fp ≡ t →
        (eqb (kind frame) on_fp && (not (ltb (param frame) 3) || eqb (mask frame) 0) || eqb (kind frame) on_sp) ≡ true →
        Passing a frame first
    called past f true k q =
        let is = eqb-true (kind frame) on_fp k in
        let r : (not (ltb (param frame) 3) || eqb (mask frame) 0) ≡ true = simp (is, or-false) at q in
        fp-word past f is (low_enough (ltb (param frame) 3) (eqb (mask frame) 0) r)
    called past f false k q =
        let r : eqb (kind frame) on_sp ≡ true = rw k at q in
        sp-word past f (eqb-true (kind frame) on_sp r)

    go : (t : Bool) → first ≡ t → Passing a frame first
    go true f =
        let (past, rest) = both (not (past_table a frame)) (eqb (kind frame) leaf && eqb (mask frame) 0) (rw f at p) in
        let (k, z) = both (eqb (kind frame) leaf) (eqb (mask frame) 0) rest in
        leaf-word (opposite (past_table a frame) past) f (eqb-true (kind frame) leaf k) (eqb-true (mask frame) 0 z)
    go false f =
        let (past, rest) =
        both (not (past_table a frame))
        (eqb (kind frame) on_fp && (not (ltb (param frame) 3) || eqb (mask frame) 0) || eqb (kind frame) on_sp) (rw f at p) in
        called (opposite (past_table a frame) past) f (eqb (kind frame) on_fp) refl rest

-- what a word that does not pass is turned back with, whatever fp and the stack are
module _ (a : Arch) (frame : ℕ) (first : Bool) (file : List ℕ) where
  abbrev pub Turned : Type 0
  Turned = (frame_cfa a frame first file ≡ Refused BadEkoRecord) ⊎ (frame_cfa a frame first file ≡ Refused EkoAsyncFrame)

  too_low : (s t : Bool) → (not s || t) ≡ false → (s && not t) ≡ true
  too_low true true e = sym e
  too_low true false e = refl
  too_low false t e = sym e

  left_false : (s t : Bool) → (s || t) ≡ false → s ≡ false
  left_false true t e = e
  left_false false t e = refl

  -- kind 1 or 2 with first, or kind 3
  turned-first : past_table a frame ≡ false → first ≡ true → eqb (kind frame) leaf ≡ false → Turned
  unfolding frame_cfa fp_cfa sp_cfa
  turned-first past f k = go (eqb (kind frame) on_fp) refl (eqb (kind frame) on_sp) refl
    where
      go : (s : Bool) → eqb (kind frame) on_fp ≡ s → (t : Bool) → eqb (kind frame) on_sp ≡ t → Turned
      go true x t y = inr (rw (past, k, x, f))
      go false x true y = inr (rw (past, k, x, y, f))
      go false x false y = inl (rw (past, k, x, y))

  -- kind 1 with a mask and a low param, or kind 3
  turned_called :
      past_table a frame ≡ false → first ≡ false → eqb (kind frame) leaf ≡ false →
      (eqb (kind frame) on_fp && (not (ltb (param frame) 3) || eqb (mask frame) 0) || eqb (kind frame) on_sp) ≡ false → Turned
  unfolding frame_cfa fp_cfa sp_cfa
  turned_called past f k p = go (eqb (kind frame) on_fp) refl (eqb (kind frame) on_sp) refl
    where
      go : (s : Bool) → eqb (kind frame) on_fp ≡ s → (t : Bool) → eqb (kind frame) on_sp ≡ t → Turned
      go true x t y =
          let low : (not (ltb (param frame) 3) || eqb (mask frame) 0) ≡ false =
          left_false (not (ltb (param frame) 3) || eqb (mask frame) 0) (eqb (kind frame) on_sp) (rw x at p) in
          inl (rw (past, k, x, f, too_low (ltb (param frame) 3) (eqb (mask frame) 0) low))
      go false x true y =
          let q : true ≡ false = rw (x, y) at p in
          inl cc
      go false x false y = inl (rw (past, k, x, y))

  pub turned : passes a frame first ≡ false → Turned
  unfolding passes frame_cfa leaf_cfa
  turned p = go (past_table a frame) refl first refl (eqb (kind frame) leaf) refl
    where
      go : (r : Bool) → past_table a frame ≡ r → (s : Bool) → first ≡ s → (t : Bool) → eqb (kind frame) leaf ≡ t → Turned
      go true past s f t k = inl (rw past)
      go false past true f true k =
          let z : eqb (mask frame) 0 ≡ false = rw (past, f, k) at p in
          inl (rw (past, k, z))
      go false past true f false k = turned-first past f k
      go false past false f true k = inl (rw (past, k, f, or-true (not (eqb (mask frame) 0))))
      go false past false f false k = turned_called past f k (rw (past, f) at p)

-- a word that does not pass its rules gets 18 or 25
pub passes_not :
    (a : Arch) (m : Memory) (frame : ℕ) (first : Bool) (file : List ℕ) → passes a frame first ≡ false →
    (step a m frame first file ≡ Refused BadEkoRecord) ⊎ (step a m frame first file ≡ Refused EkoAsyncFrame)
unfolding step
passes_not a m frame first file p = go (turned a frame first file p)
  where
    go : Turned a frame first file →
        (step a m frame first file ≡ Refused BadEkoRecord) ⊎ (step a m frame first file ≡ Refused EkoAsyncFrame)
    go (inl e) = inl (rw e)
    go (inr e) = inr (rw e)
