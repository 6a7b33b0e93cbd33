-- Laws of `frame_cfa`: what each test says of the whole. Assumes nothing.
use mathlib.Core.Path.{◌≡◌, sym, ◌∙◌}
use mathlib.Core.Bool.{Bool, true, false, not, or-true}
use mathlib.Core.List.{List}
use Prim.Native.Nat.{ℕ, ◌+◌, ◌*◌}
use lib.Dec.{eqb}
use borrow.Author.Tests.{eq-eqb, ne_eqb}
use Rattle.failure.specs.Outcome.{Refused, Answer}
use Rattle.failure.specs.Failure.{BadEkoRecord}
use Rattle.mem.specs.Wrapping.{sum}
use Rattle.arch.specs.Arch.{Arch}
use Rattle.arch.specs.File.{fp, sp}
use Rattle.frame.specs.Frame.{kind, leaf, on_fp, on_sp, mask, param}
use Rattle.frame.specs.Step.{past_table, leaf_cfa, fp_cfa, sp_cfa, frame_cfa}

-- a leaf: a mask, not first, or its CFA
module _ (a : Arch) (frame : ℕ) (first : Bool) (s m : ℕ) (is : m ≡ mask frame) where
  pub leaf_masked : (m ≡ 0 → ⊥) → Refused BadEkoRecord ≡ leaf_cfa a frame first s
  unfolding leaf_cfa
  leaf_masked e = rw (ne_eqb (mask frame) 0 (λ z. e (is ∙ z)))

  pub leaf_called : first ≡ false → Refused BadEkoRecord ≡ leaf_cfa a frame first s
  unfolding leaf_cfa
  leaf_called e = rw (e, or-true (not (eqb (mask frame) 0)))

  pub leaf-passes :
      m ≡ 0 → first ≡ true → (units p : ℕ) → units ≡ a.entry_units → p ≡ param frame →
      Answer (sum s (8 * units + 16 * p)) ≡ leaf_cfa a frame first s
  unfolding leaf_cfa
  leaf-passes z t units p e f = rw (eq-eqb (mask frame) 0 (sym is ∙ z), t, e, f)

module _ (a : Arch) (frame : ℕ) (first : Bool) (file : List ℕ) where
  pub past_refused : past_table a frame ≡ true → Refused BadEkoRecord ≡ frame_cfa a frame first file
  unfolding frame_cfa
  past_refused e = rw e

  module _ (within : past_table a frame ≡ false) (k : ℕ) (is : k ≡ kind frame) where
    pub kind-leaf : k ≡ leaf → (s : ℕ) → s ≡ sp a file → leaf_cfa a frame first s ≡ frame_cfa a frame first file
    unfolding frame_cfa
    kind-leaf e s p = rw (within, eq-eqb (kind frame) leaf (sym is ∙ e), p)

    pub kind-fp : k ≡ on_fp → (f : ℕ) → f ≡ fp a file → fp_cfa frame first f ≡ frame_cfa a frame first file
    unfolding frame_cfa
    kind-fp e f p =
        let q : kind frame ≡ 1 = sym is ∙ e in
        rw (within, q, p)

    pub kind-sp : k ≡ on_sp → (s : ℕ) → s ≡ sp a file → sp_cfa frame first s ≡ frame_cfa a frame first file
    unfolding frame_cfa
    kind-sp e s p =
        let q : kind frame ≡ 2 = sym is ∙ e in
        rw (within, q, p)

    pub kind_other : (k ≡ leaf → ⊥) → (k ≡ on_fp → ⊥) → (k ≡ on_sp → ⊥) → Refused BadEkoRecord ≡ frame_cfa a frame first file
    unfolding frame_cfa
    kind_other x y z =
        rw
        (within, ne_eqb (kind frame) leaf (λ e. x (is ∙ e)), ne_eqb (kind frame) on_fp (λ e. y (is ∙ e)), ne_eqb (kind frame) on_sp (λ e. z (is ∙ e)))
