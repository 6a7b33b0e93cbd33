-- Laws of `apply`: what each test and each part says of the whole. Assumes nothing.
use mathlib.Core.Path.{◌≡◌, refl, sym, ◌∙◌, ap}
use mathlib.Core.Bool.{Bool, true, false, ◌&&◌}
use mathlib.Core.List.{List}
use Prim.Native.Nat.{ℕ, ◌*◌}
use lib.Dec.{eqb}
use borrow.Author.Tests.{eq-eqb, ne_eqb, eqb-true, eqb-false}
use Rattle.failure.specs.Outcome.{Outcome, Refused, Answer}
use Rattle.failure.proofs.Outcome.{answer-refused}
use Rattle.failure.specs.Failure.{Misaligned, BadCfaRule}
use Rattle.mem.specs.Memory.{Memory}
use Rattle.mem.specs.Wrapping.{sum}
use Rattle.arch.specs.Arch.{Arch}
use Rattle.arch.specs.File.{get}
use Rattle.frame.specs.Layout.{Pair, Layout, base, cfa}
use Rattle.frame.specs.Apply.{bad_fp, restore_pairs, returned, cfa_above, apply_at, apply}

module _ (a : Arch) (m : Memory) (at : ℕ) (pairs : List Pair) (file : List ℕ) where
  -- a pair is refused
  pub pairs_refused : (n : ℕ) → restore_pairs a m at pairs file ≡ Refused n → Refused n ≡ apply_at a m at pairs file
  unfolding apply_at
  pairs_refused n e = rw e

  -- all pairs are restored: the return register says the rest
  pub ra-answered :
      (next : List ℕ) (ra : ℕ) → restore_pairs a m at pairs file ≡ Answer next → Answer ra ≡ get a next a.ra →
      Answer (returned a at ra next) ≡ apply_at a m at pairs file
  unfolding apply_at
  ra-answered next ra e f = rw (e, sym f)

module _ (a : Arch) (m : Memory) (l : Layout) (file : List ℕ) (b : ℕ) (is : b ≡ base a l.on_fp file)
    (bad : Bool) (tested : bad ≡ (l.on_fp && bad_fp b)) where
  -- fp as base, and bad
  pub base_refused : bad ≡ true → Refused Misaligned ≡ apply a m l file
  unfolding apply
  base_refused e =
      let t : (l.on_fp && bad_fp (base a l.on_fp file)) ≡ true = rw (sym is) (sym tested ∙ e) in
      rw t

  module _ (good : bad ≡ false) (at : ℕ) (sums : at ≡ sum b (8 * l.units)) where
    t : (l.on_fp && bad_fp (base a l.on_fp file)) ≡ false
    t = rw (sym is) (sym tested ∙ good)

    s : at ≡ cfa a l file
    s = sums ∙ ap (λ (n : ℕ). sum n (8 * l.units)) is

    -- a CFA of 0
    pub cfa_refused : at ≡ 0 → Refused BadCfaRule ≡ apply a m l file
    unfolding apply
    cfa_refused z = rw (t, eq-eqb (cfa a l file) 0 (sym s ∙ z))

    -- any other
    pub cfa-passes : (at ≡ 0 → ⊥) → apply_at a m at l.pairs file ≡ apply a m l file
    unfolding apply
    cfa-passes n =
        rw (t, ne_eqb (cfa a l file) 0 (λ z. n (s ∙ z))) (ap (λ (k : ℕ). apply_at a m k l.pairs file) s)

-- the CFA above the base: refused, or past the tests
module _ (a : Arch) (m : Memory) (l : Layout) (file : List ℕ) (b : ℕ) (is : b ≡ base a l.on_fp file) where
  pub above_refused : (n : ℕ) → Refused n ≡ cfa_above l.on_fp l.units b → apply a m l file ≡ Refused n
  unfolding cfa_above
  above_refused n e = go (l.on_fp && bad_fp b) refl (eqb (sum b (8 * l.units)) 0) refl
    where
      go : (t : Bool) → (l.on_fp && bad_fp b) ≡ t → (s : Bool) → eqb (sum b (8 * l.units)) 0 ≡ s → apply a m l file ≡ Refused n
      go true p s q =
          let r : ◌≡◌ {A = Outcome ℕ} (Refused n) (Refused Misaligned) = rw p at e in
          let z : n ≡ Misaligned = cc in
          sym (base_refused a m l file b is true (sym p) refl) ∙ ap Refused (sym z)
      go false p true q =
          let r : ◌≡◌ {A = Outcome ℕ} (Refused n) (Refused BadCfaRule) = rw (p, q) at e in
          let z : n ≡ BadCfaRule = cc in
          sym (cfa_refused a m l file b is false (sym p) refl (sum b (8 * l.units)) refl (eqb-true (sum b (8 * l.units)) 0 q)) ∙ ap Refused (sym z)
      go false p false q = answer-refused (sum b (8 * l.units)) n (sym (rw (p, q) at e))

  pub above_passes : (at : ℕ) → Answer at ≡ cfa_above l.on_fp l.units b → apply_at a m at l.pairs file ≡ apply a m l file
  unfolding cfa_above
  above_passes at e = go (l.on_fp && bad_fp b) refl (eqb (sum b (8 * l.units)) 0) refl
    where
      go : (t : Bool) → (l.on_fp && bad_fp b) ≡ t → (s : Bool) → eqb (sum b (8 * l.units)) 0 ≡ s → apply_at a m at l.pairs file ≡ apply a m l file
      go true p s q = answer-refused at Misaligned (rw p at e)
      go false p true q = answer-refused at BadCfaRule (rw (p, q) at e)
      go false p false q =
          let r : ◌≡◌ {A = Outcome ℕ} (Answer at) (Answer (sum b (8 * l.units))) = rw (p, q) at e in
          let z : at ≡ sum b (8 * l.units) = cc in
          cfa-passes a m l file b is false (sym p) refl at z (λ n. eqb-false (sum b (8 * l.units)) 0 q (sym z ∙ n))
