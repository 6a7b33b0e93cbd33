-- A state's pairs by their places in its arrays. Assumes nothing.
use mathlib.Core.Path.{◌≡◌, refl, sym, ◌∙◌, ap}
use mathlib.Core.Bool.{Bool, true, false}
use mathlib.Core.List.{List, [], ◌∷◌}
use Prim.Native.Nat.{ℕ, zero, suc, ◌+◌, ◌≤◌}
use native.Mathlib.Omega.{arith}
use native.Mathlib.Numerals.{add-one}
use lib.Dec.{ltb}
use lib.ListN.{length, get_or, drop}
use lib.Seq.{drop-cons}
use borrow.Author.Tests.{ltb-true, ltb-false}
use Rattle.frame.specs.Layout.{Pair, first_pairs, pairs_at, pair_count}

-- pairs by their places, within both lists
by_place :
    (n i : ℕ) (regs slots : List ℕ) → i + n ≤ length regs → i + n ≤ length slots →
    pairs_at n i regs slots ≡ first_pairs n (drop i regs) (drop i slots)
by_place zero i regs slots h k = refl
by_place (suc n) i regs slots h k =
    let r : drop i regs ≡ get_or regs i 0 ∷ drop (suc i) regs = drop-cons regs i 0 (omega arith) in
    let s : drop i slots ≡ get_or slots i 0 ∷ drop (suc i) slots = drop-cons slots i 0 (omega arith) in
    let rest = by_place n (i + 1) regs slots (omega arith) (omega arith) in
    rw (r, s) (ap (λ (ps : List Pair). record { reg = get_or regs i 0; slot = get_or slots i 0 } ∷ ps) (rest ∙ rw (add-one i)))

-- past the end of the registers there is no pair
at-end : (n : ℕ) (regs slots : List ℕ) → length regs ≤ n → first_pairs (length regs) regs slots ≡ first_pairs n regs slots
at-end zero [] slots h = refl
at-end (suc n) [] slots h = refl
at-end zero (r ∷ regs) slots h = absurd (omega arith)
at-end (suc n) (r ∷ regs) [] h = refl
at-end (suc n) (r ∷ regs) (s ∷ slots) h =
    ap (λ (ps : List Pair). record { reg = r; slot = s } ∷ ps) (at-end n regs slots (omega arith))

-- arrays of 32 have the pairs at their first `pair_count` places
pub pairs-placed :
    (count : ℕ) (regs slots : List ℕ) → length regs ≡ 32 → length slots ≡ 32 →
    pairs_at (pair_count count) 0 regs slots ≡ first_pairs count regs slots
pairs-placed count regs slots lr ls = go (ltb 32 count) refl
  where
    go : (t : Bool) → ltb 32 count ≡ t → pairs_at (pair_count count) 0 regs slots ≡ first_pairs count regs slots
    go true e =
        let h = ltb-true 32 count e in
        rw e
        (by_place 32 0 regs slots (omega arith) (omega arith) ∙
        ap (λ (n : ℕ). first_pairs n regs slots) (sym lr) ∙ at-end count regs slots (omega arith))
    go false e =
        let h = ltb-false 32 count e in
        rw e (by_place count 0 regs slots (omega arith) (omega arith))
