-- Laws of `copy_down`, `without` and `restore`. Assumes nothing.
use mathlib.Core.Path.{◌≡◌, refl, sym, ◌∙◌, ap}
use mathlib.Core.Bool.{Bool, true, false}
use mathlib.Core.List.{List}
use Prim.Native.Nat.{ℕ, zero, suc, ◌+◌, ◌-◌, ◌≤◌, ◌<◌}
use native.Mathlib.Omega.{arith}
use lib.Dec.{eqb, ltb, lit≤}
use lib.ListN.{length, get_or, set, length-set}
use lib.Seq.{get_or-set_same, get_or-set_other}
use borrow.Author.Tests.{lt-ltb, le-ltb, eq-eqb, ne_eqb, eqb-true, eqb-false, ltb-true, ltb-false}
use Rattle.std.proofs.lemmas.Grind.{same_number_lists}
use Rattle.failure.specs.Outcome.{Outcome, Refused, Answer}
use Rattle.failure.specs.declared.Failure.{Failure}
use Rattle.failure.proofs.Outcome.{answer-refused}
use Rattle.arch.specs.Arch.{Arch, numbers}
use Rattle.arch.specs.Answers.{in_code}
use Rattle.arch.specs.declared.Arch2.{Arch2}
use Rattle.arch.proofs.Arch.{of_both}
use Rattle.state.specs.declared.State.{State}
use Rattle.std.proofs.Common.{Option, Some, None, Result}
use Rattle.state.specs.State.{max_saved, overfull}
use Rattle.state.specs.Pairs.{place_of}
use Rattle.state.specs.Save.{Done, BadOpening, save}
use Rattle.state.specs.Answers.{changed, handed_back, Changes}
use Rattle.state.specs.Restore.{copy_down, without, return_saved, restore}
use Rattle.state.proofs.Pairs.{place-below}
use Rattle.state.proofs.Save.{save_again, save_new}

one : (xs : List ℕ) (n k i : ℕ) → n ≡ suc k → copy_down n i xs ≡ copy_down k (i + 1) (set xs i (get_or xs (i + 1) 0))
one xs n k i p = rw p

-- a copy of the numbers after place k up to place last: one number, and then those after it
pub copy_one :
    (xs : List ℕ) (last k : ℕ) → k < last →
    copy_down (last - k) k xs ≡ copy_down (last - (k + 1)) (k + 1) (set xs k (get_or xs (k + 1) 0))
copy_one xs last k h = one xs (last - k) (last - (k + 1)) k (omega arith)

-- none is left
pub copy_over : (xs : List ℕ) (last k : ℕ) → last ≤ k → copy_down (last - k) k xs ≡ xs
copy_over xs last k h =
    let none : last - k ≡ 0 = omega arith in
    ap (λ (n : ℕ). copy_down n k xs) none

-- a register whose pair is removed, and one that has none
module _ (st : State) (reg : ℕ) where
  pub without_at_lem :
      (i : ℕ) (regs slots : List ℕ) → place_of st reg ≡ Some i →
      regs ≡ copy_down (st.count - 1 - i) i st.regs → slots ≡ copy_down (st.count - 1 - i) i st.slots →
      record { cfa_fp = st.cfa_fp; cfa_units = st.cfa_units; count = st.count - 1; regs = regs; slots = slots } ≡ without st reg
  unfolding without
  without_at_lem i regs slots e p q = rw (e, p, q)

  pub without_none : place_of st reg ≡ None → st ≡ without st reg
  unfolding without
  without_none e = rw e

  pub without-count : (i : ℕ) → place_of st reg ≡ Some i → (without st reg).count ≡ st.count - 1
  unfolding without
  without-count i e = rw e

-- what each test of a restore comes to, over the numbers of an architecture as the code holds them
module _ (a : Arch) (r : Arch2) (same : r ≡ in_code a) (st : State) (reg : ℕ) where
  pub restore-overfull : max_saved < st.count → BadOpening ≡ restore a st reg
  unfolding restore overfull
  restore-overfull h = simp (lt-ltb max_saved st.count h)

  module _ (fits : st.count ≤ max_saved) (w : State) (gone : w ≡ without st reg) where
    -- any register but the return register
    pub restore_other : (reg ≡ r.ra → ⊥) → Done w ≡ restore a st reg
    unfolding restore overfull
    restore_other e =
        simp (le-ltb max_saved st.count fits, ne_eqb reg a.ra (λ p. e (p ∙ sym (ap (λ (x : Arch2). x.ra) same))))
        (ap Done gone)

    -- the return register, which is in no slot at entry
    pub restore-bare : reg ≡ r.ra → r.entry_ra_slot ≡ 0 → Done w ≡ restore a st reg
    unfolding restore overfull return_saved
    restore-bare e z =
        simp (
          le-ltb max_saved st.count fits,
          eq-eqb reg a.ra (e ∙ ap (λ (x : Arch2). x.ra) same),
          eq-eqb a.entry_slot 0 (sym (ap (λ (x : Arch2). x.entry_ra_slot) same) ∙ z),
        )
        (ap Done gone)

    -- the return register, which is in a slot at entry
    pub restore-saved : reg ≡ r.ra → (r.entry_ra_slot ≡ 0 → ⊥) → save w reg r.entry_ra_slot ≡ restore a st reg
    unfolding restore overfull return_saved
    restore-saved e z =
        let ra : reg ≡ a.ra = e ∙ ap (λ (x : Arch2). x.ra) same in
        let slot : r.entry_ra_slot ≡ a.entry_slot = ap (λ (x : Arch2). x.entry_ra_slot) same in
        simp
        (le-ltb max_saved st.count fits, eq-eqb reg a.ra ra, ne_eqb a.entry_slot 0 (λ p. z (slot ∙ p)))
        (cc gone)

-- the numbers of both architectures are within what a save takes
pub entry_small : (n : ℕ) → ((numbers n).ra ≤ 65535) × ((numbers n).entry_slot ≤ 65535)
entry_small = of_both (λ (a : Arch). (a.ra ≤ 65535) × (a.entry_slot ≤ 65535)) (lit≤ tt, lit≤ tt) (lit≤ tt, lit≤ tt)

module _ (n : ℕ) (r : Arch2) (same : r ≡ in_code (numbers n)) where
  pub return_small : (reg : ℕ) → reg ≡ r.ra → reg ≤ 65535
  return_small reg e =
      let is : reg ≡ (numbers n).ra = e ∙ ap (λ (x : Arch2). x.ra) same in
      omega (arith, (entry_small n).0)

  pub slot_small : r.entry_ra_slot ≤ 65535
  slot_small =
      let is : r.entry_ra_slot ≡ (numbers n).entry_slot = ap (λ (x : Arch2). x.entry_ra_slot) same in
      omega (arith, (entry_small n).1)

-- a register saved where its pair was removed is refused only if it had no pair, so that nothing was removed
module _
    (st : State) (reg slot : ℕ) (fits : st.count ≤ max_saved) (known : reg ≤ 65535) (some : slot ≡ 0 → ⊥) (low : slot ≤ 65535)
    (w : State) (gone : w ≡ without st reg)
  where
    refused_whole : (n : ℕ) → changed (save w reg slot) ≡ Refused n → w ≡ st
    refused_whole n e = go (place_of st reg) refl
      where
        go : (f : Option ℕ) → place_of st reg ≡ f → w ≡ st
        go None p = gone ∙ sym (without_none st reg p)
        go (Some i) p = room (place_of w reg) refl
          where
            fewer : w.count < max_saved
            fewer =
                let left : w.count ≡ st.count - 1 = ap (λ (x : State). x.count) gone ∙ without-count st reg i p in
                omega (arith, place-below st reg i p)

            fit : w.count ≤ max_saved
            fit = omega (arith, fewer)

            room : (f : Option ℕ) → place_of w reg ≡ f → w ≡ st
            room (Some j) q = answer-refused _ n (ap changed (save_again w reg slot fit some low known j q) ∙ e)
            room None q =
                let more : w.count ≡ max_saved → ⊥ = λ q. omega (arith, fewer) in
                answer-refused _ n (ap changed (save_new w reg slot fit some low known q more) ∙ e)

    pub saved_again : handed_back w (changed (save w reg slot)) ≡ handed_back st (changed (save w reg slot))
    saved_again = go (changed (save w reg slot)) refl
      where
        go : (o : Outcome State) → changed (save w reg slot) ≡ o → handed_back w o ≡ handed_back st o
        go (Refused n) e = refused_whole n e
        go (Answer y) e = refl

    pub saved_changes : (s : Result (Unit {0}) Failure) (left : State) → Changes w (save w reg slot) s left → Changes st (save w reg slot) s left
    saved_changes s left p = record { status = p.status; state = p.state ∙ saved_again }

-- what a copy leaves at each place: the numbers below it, and those copied
pub copy_length : (n i : ℕ) (xs : List ℕ) → length (copy_down n i xs) ≡ length xs
copy_length zero i xs = refl
copy_length (suc n) i xs = copy_length n (i + 1) (set xs i (get_or xs (i + 1) 0)) ∙ simp length-set

pub copy_low : (n i : ℕ) (xs : List ℕ) (k : ℕ) → k < i → get_or (copy_down n i xs) k 0 ≡ get_or xs k 0
copy_low zero i xs k h = refl
copy_low (suc n) i xs k h =
    let differs : k ≡ i → ⊥ = λ e. omega arith in
    copy_low n (i + 1) (set xs i (get_or xs (i + 1) 0)) k (omega arith) ∙ get_or-set_other xs i k (get_or xs (i + 1) 0) 0 differs

pub copy_in :
    (n i : ℕ) (xs : List ℕ) (k : ℕ) → i ≤ k → k < i + n → i + n < length xs → get_or (copy_down n i xs) k 0 ≡ get_or xs (k + 1) 0
copy_in zero i xs k l h f = absurd (omega arith)
copy_in (suc n) i xs k l h f = go (eqb k i) refl (λ p q. copy_in n (i + 1) ys k p q (simp length-set (omega arith)))
  where
    ys : List ℕ
    ys = set xs i (get_or xs (i + 1) 0)

    go : (t : Bool) → eqb k i ≡ t → (i + 1 ≤ k → k < i + 1 + n → get_or (copy_down n (i + 1) ys) k 0 ≡ get_or ys (k + 1) 0) →
        get_or (copy_down n (i + 1) ys) k 0 ≡ get_or xs (k + 1) 0
    go true p later =
        let same : k ≡ i = eqb-true k i p in
        copy_low n (i + 1) ys k (omega arith) ∙ ap (λ (j : ℕ). get_or ys j 0) same
        ∙ get_or-set_same xs i (get_or xs (i + 1) 0) 0 (omega arith) ∙ ap (λ (j : ℕ). get_or xs (j + 1) 0) (sym same)
    go false p later =
        let differs : k ≡ i → ⊥ = eqb-false k i p in
        let other : k + 1 ≡ i → ⊥ = λ e. omega arith in
        later (omega arith) (omega arith) ∙ get_or-set_other xs i (k + 1) (get_or xs (i + 1) 0) 0 other

pub copy_high : (n i : ℕ) (xs : List ℕ) (k : ℕ) → i + n ≤ k → get_or (copy_down n i xs) k 0 ≡ get_or xs k 0
copy_high zero i xs k h = refl
copy_high (suc n) i xs k h =
    let differs : k ≡ i → ⊥ = λ e. omega arith in
    copy_high n (i + 1) (set xs i (get_or xs (i + 1) 0)) k (omega arith) ∙ get_or-set_other xs i k (get_or xs (i + 1) 0) 0 differs

-- a list that holds all that is the copy
pub copied_down :
    (n i : ℕ) (xs ys : List ℕ) → i + n < length xs → length ys ≡ length xs → ((k : ℕ) → k < i → get_or ys k 0 ≡ get_or xs k 0) →
    ((k : ℕ) → i ≤ k → k < i + n → get_or ys k 0 ≡ get_or xs (k + 1) 0) → ((k : ℕ) → i + n ≤ k → get_or ys k 0 ≡ get_or xs k 0) →
    ys ≡ copy_down n i xs
copied_down n i xs ys f same low within high =
    same_number_lists ys (copy_down n i xs) (same ∙ sym (copy_length n i xs)) (λ k h. go k (ltb k i) refl (ltb k (i + n)) refl)
  where
    go : (k : ℕ) → (s : Bool) → ltb k i ≡ s → (t : Bool) → ltb k (i + n) ≡ t → get_or ys k 0 ≡ get_or (copy_down n i xs) k 0
    go k true p t q = let h = ltb-true k i p in low k h ∙ sym (copy_low n i xs k h)
    go k false p true q =
        let h = ltb-false k i p in
        let l = ltb-true k (i + n) q in
        within k h l ∙ sym (copy_in n i xs k h l f)
    go k false p false q = let l = ltb-false k (i + n) q in high k l ∙ sym (copy_high n i xs k l)
