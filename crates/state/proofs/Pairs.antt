-- Laws of `place_from` and `place_of`. Assumes nothing.
use mathlib.Core.Path.{◌≡◌, refl, ◌∙◌, ap}
use mathlib.Core.Bool.{Bool, true, false}
use mathlib.Core.List.{List}
use Prim.Native.Nat.{ℕ, zero, suc, ◌+◌, ◌-◌, ◌≤◌, ◌<◌}
use native.Mathlib.Omega.{arith}
use lib.Dec.{eqb}
use lib.ListN.{length, get_or, take, drop}
use lib.Seq.{drop-cons}
use Rattle.std.specs.List.{position_from}
use borrow.Author.Tests.{eq-eqb, ne_eqb, eqb-true, eqb-false}
use Rattle.state.specs.declared.State.{State}
use Rattle.std.proofs.Common.{Some, None}
use Rattle.state.specs.Pairs.{place_from, place_of}

-- the first place where a register stands is its first place in the list of those looked at
pub place_position :
    (regs : List ℕ) (reg n i : ℕ) → i + n ≤ length regs →
    position_from (λ x. eqb x reg) i (take n (drop i regs)) ≡ place_from n i regs reg
place_position regs reg zero i h = refl
place_position regs reg (suc n) i h =
    let next : suc i ≡ i + 1 = omega arith in
    rw (drop-cons regs i 0 (omega arith), next, place_position regs reg n (i + 1) (omega arith))

module _ (regs : List ℕ) (reg : ℕ) where
  here : (n i : ℕ) → 0 < n → get_or regs i 0 ≡ reg → place_from n i regs reg ≡ Some i
  here zero i h e = absurd (omega arith)
  here (suc n) i h e = simp (eq-eqb (get_or regs i 0) reg e)

  on : (n k i : ℕ) → n ≡ suc k → (get_or regs i 0 ≡ reg → ⊥) → place_from n i regs reg ≡ place_from k (i + 1) regs reg
  on n k i p e = rw p (simp (ne_eqb (get_or regs i 0) reg e))

  -- a search of the places below count, from place i on, ends at i if the register stands there,
  pub place_here : (count i : ℕ) → i < count → get_or regs i 0 ≡ reg → place_from (count - i) i regs reg ≡ Some i
  place_here count i h e = here (count - i) i (omega arith) e

  -- goes on if it does not,
  pub place-on :
      (count i : ℕ) → i < count → (get_or regs i 0 ≡ reg → ⊥) →
      place_from (count - i) i regs reg ≡ place_from (count - (i + 1)) (i + 1) regs reg
  place-on count i h e = on (count - i) (count - (i + 1)) i (omega arith) e

  -- and has found nothing at the end
  pub place_over : (count i : ℕ) → count ≤ i → place_from (count - i) i regs reg ≡ None
  place_over count i h =
      let none : count - i ≡ 0 = omega arith in
      ap (λ (n : ℕ). place_from n i regs reg) none

  -- a place that was found lies among those looked at, and the register stands there
  pub place_at : (n i k : ℕ) → place_from n i regs reg ≡ Some k → (i ≤ k) × (k < i + n) × (get_or regs k 0 ≡ reg)
  place_at zero i k e = absurd (clash e)
    where
      clash : None ≡ Some k → ⊥
      clash p = cc
  place_at (suc n) i k e = go (eqb (get_or regs i 0) reg) refl (λ p. place_at n (i + 1) k p)
    where
      go : (t : Bool) → eqb (get_or regs i 0) reg ≡ t →
          (place_from n (i + 1) regs reg ≡ Some k → (i + 1 ≤ k) × (k < i + 1 + n) × (get_or regs k 0 ≡ reg)) →
          (i ≤ k) × (k < i + suc n) × (get_or regs k 0 ≡ reg)
      go true p later =
          let q : Some i ≡ Some k = rw p at e in
          let same : i ≡ k = cc in
          let here : get_or regs i 0 ≡ reg = eqb-true (get_or regs i 0) reg p in
          (omega arith, omega arith, rw same at here)
      go false p later =
          let q : place_from n (i + 1) regs reg ≡ Some k = rw p at e in
          let there = later q in
          (omega arith, omega arith, there.2)

  -- where nothing was found the register stands at no place looked at
  pub place_none : (n i : ℕ) → place_from n i regs reg ≡ None → (k : ℕ) → i ≤ k → k < i + n → get_or regs k 0 ≡ reg → ⊥
  place_none zero i e k l h f = omega arith
  place_none (suc n) i e k l h f = go (eqb (get_or regs i 0) reg) refl (λ p. place_none n (i + 1) p k)
    where
      go : (t : Bool) → eqb (get_or regs i 0) reg ≡ t →
          (place_from n (i + 1) regs reg ≡ None → i + 1 ≤ k → k < i + 1 + n → get_or regs k 0 ≡ reg → ⊥) → ⊥
      go true p later =
          let q : Some i ≡ None = rw p at e in
          cc
      go false p later =
          let q : place_from n (i + 1) regs reg ≡ None = rw p at e in
          let past : i + 1 ≤ k = further (eqb-false (get_or regs i 0) reg p) in
          later q past (omega arith) f
        where
          further : (get_or regs i 0 ≡ reg → ⊥) → i + 1 ≤ k
          further differs =
              let other : i ≡ k → ⊥ = λ s. differs (ap (λ (j : ℕ). get_or regs j 0) s ∙ f) in
              omega arith

-- the place of a register is one of those looked at
pub place-low : (regs : List ℕ) (reg count i : ℕ) → place_from count 0 regs reg ≡ Some i → i < count
place-low regs reg count i e = omega (arith, (place_at regs reg count 0 i e).1)

-- and one of the state's pairs
pub place-below : (st : State) (reg i : ℕ) → place_of st reg ≡ Some i → i < st.count
place-below st reg i e = place-low st.regs reg st.count i e
