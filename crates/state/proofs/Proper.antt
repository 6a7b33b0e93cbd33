-- States as saves and restores leave them from the entry state on: at most 32 pairs, no register in two. Assumes nothing.
use Rattle.std.specs.Prelude.{if◌then◌else◌}
use mathlib.Core.Path.{◌≡◌, refl, sym, ◌∙◌, ap, subst}
use mathlib.Core.Bool.{Bool, true, false}
use mathlib.Core.List.{List}
use Prim.Native.Nat.{ℕ, ◌+◌, ◌-◌, ◌≤◌, ◌<◌}
use native.Mathlib.Omega.{arith}
use lib.Dec.{eqb, ltb}
use lib.ListN.{length, get_or, set, length-set}
use lib.Seq.{get_or-set_same, get_or-set_other}
use borrow.Author.Tests.{eqb-true, eqb-false, ltb-true, ltb-false, le-ltb}
use Rattle.arch.specs.Arch.{Arch}
use Rattle.state.specs.declared.State.{State}
use Rattle.std.proofs.Common.{Option, Some, None}
use Rattle.state.specs.State.{max_saved, overfull, bare, with_first, entry}
use Rattle.state.specs.Pairs.{place_of}
use Rattle.state.specs.Save.{Change, Done, OutOfRange, Full, BadOpening, with_slot, with_pair, save_at, save}
use Rattle.state.specs.Restore.{copy_down, removed, without_at, without, return_saved, restore}
use Rattle.state.proofs.Pairs.{place_none, place-below}
use Rattle.state.proofs.Restore.{copy_length, copy_low, copy_in}

pub record Proper (st : State) : Type 0 where
  -- whole arrays
  pub regs : length st.regs ≡ max_saved
  pub slots : length st.slots ≡ max_saved
  -- at most 32 pairs
  pub count : st.count ≤ max_saved
  -- a register stands in one pair
  pub distinct : (i j : ℕ) → i < st.count → j < st.count → get_or st.regs i 0 ≡ get_or st.regs j 0 → i ≡ j

-- the entry state
pub entry-proper : (a : Arch) → Proper (entry a)
unfolding entry
entry-proper a = go (eqb a.entry_slot 0)
  where
    go : (t : Bool) →
        Proper (if t then bare a.entry_units else with_first (bare a.entry_units) a.ra a.entry_slot)
    go true = record { regs = refl; slots = refl; count = omega arith; distinct = λ i j h l e. absurd (omega arith) }
    go false = record { regs = refl; slots = refl; count = omega arith; distinct = λ i j h l e. omega arith }

module _ (st : State) (p : Proper st) where
  -- a pair's slot changed
  slot-proper : (i slot : ℕ) → Proper (with_slot st i slot)
  slot-proper i slot =
      record { regs = p.regs; slots = simp length-set p.slots; count = p.count; distinct = p.distinct }

  -- a register that has no pair gets one
  pair_proper : (reg slot : ℕ) → st.count < max_saved → place_of st reg ≡ None → Proper (with_pair st reg slot)
  pair_proper reg slot room none =
      record {
        regs = simp length-set p.regs;
        slots = simp length-set p.slots;
        count = omega arith;
        distinct = λ i j h l e. go i j h l e (eqb i st.count) refl (eqb j st.count) refl;
      }
    where
      regs : List ℕ
      regs = set st.regs st.count reg

      new : (i : ℕ) → i ≡ st.count → get_or regs i 0 ≡ reg
      new i e =
          ap (λ (k : ℕ). get_or regs k 0) e ∙ get_or-set_same st.regs st.count reg 0 (omega (arith, p.regs))

      old : (i : ℕ) → (i ≡ st.count → ⊥) → get_or regs i 0 ≡ get_or st.regs i 0
      old i e = get_or-set_other st.regs st.count i reg 0 e

      differs : (i : ℕ) → i < st.count → get_or st.regs i 0 ≡ reg → ⊥
      differs i h e = place_none st.regs reg st.count 0 none i (omega arith) (omega arith) e

      go : (i j : ℕ) → i < st.count + 1 → j < st.count + 1 → get_or regs i 0 ≡ get_or regs j 0 →
          (s : Bool) → eqb i st.count ≡ s → (t : Bool) → eqb j st.count ≡ t → i ≡ j
      go i j h l e true a true b = eqb-true i st.count a ∙ sym (eqb-true j st.count b)
      go i j h l e true a false b =
          let other : j ≡ st.count → ⊥ = eqb-false j st.count b in
          absurd (differs j (omega arith) (sym (old j other) ∙ sym e ∙ new i (eqb-true i st.count a)))
      go i j h l e false a true b =
          let other : i ≡ st.count → ⊥ = eqb-false i st.count a in
          absurd (differs i (omega arith) (sym (old i other) ∙ e ∙ new j (eqb-true j st.count b)))
      go i j h l e false a false b =
          let one : i ≡ st.count → ⊥ = eqb-false i st.count a in
          let two : j ≡ st.count → ⊥ = eqb-false j st.count b in
          p.distinct i j (omega arith) (omega arith) (sym (old i one) ∙ e ∙ old j two)

  -- a pair removed
  removed-proper : (i : ℕ) → i < st.count → Proper (removed st i)
  removed-proper i below =
      record {
        regs = copy_length (st.count - 1 - i) i st.regs ∙ p.regs;
        slots = copy_length (st.count - 1 - i) i st.slots ∙ p.slots;
        count = omega (arith, p.count);
        distinct = λ j k h l e. go j k h l e (ltb j i) refl (ltb k i) refl;
      }
    where
      n : ℕ
      n = st.count - 1 - i

      regs : List ℕ
      regs = copy_down n i st.regs

      low : (j : ℕ) → j < i → get_or regs j 0 ≡ get_or st.regs j 0
      low j h = copy_low n i st.regs j h

      high : (j : ℕ) → i ≤ j → j < st.count - 1 → get_or regs j 0 ≡ get_or st.regs (j + 1) 0
      high j h l = copy_in n i st.regs j h (omega arith) (omega (arith, p.regs, p.count))

      go : (j k : ℕ) → j < st.count - 1 → k < st.count - 1 → get_or regs j 0 ≡ get_or regs k 0 →
          (s : Bool) → ltb j i ≡ s → (t : Bool) → ltb k i ≡ t → j ≡ k
      go j k h l e true a true b =
          p.distinct j k (omega arith) (omega arith) (sym (low j (ltb-true j i a)) ∙ e ∙ low k (ltb-true k i b))
      go j k h l e true a false b =
          let lower : j < i = ltb-true j i a in
          let upper : i ≤ k = ltb-false k i b in
          let same : j ≡ k + 1 =
          p.distinct j (k + 1) (omega arith) (omega arith) (sym (low j lower) ∙ e ∙ high k upper l) in
          absurd (omega arith)
      go j k h l e false a true b =
          let upper : i ≤ j = ltb-false j i a in
          let lower : k < i = ltb-true k i b in
          let same : j + 1 ≡ k =
          p.distinct (j + 1) k (omega arith) (omega arith) (sym (high j upper h) ∙ e ∙ low k lower) in
          absurd (omega arith)
      go j k h l e false a false b =
          let one : i ≤ j = ltb-false j i a in
          let two : i ≤ k = ltb-false k i b in
          let same : j + 1 ≡ k + 1 =
          p.distinct (j + 1) (k + 1) (omega arith) (omega arith) (sym (high j one h) ∙ e ∙ high k two l) in
          omega arith

  pub without-proper : (reg : ℕ) → Proper (without st reg)
  unfolding without
  without-proper reg = go (place_of st reg) refl
    where
      go : (f : Option ℕ) → place_of st reg ≡ f → Proper (without_at st f)
      go (Some i) e = removed-proper i (place-below st reg i e)
      go None e = p

-- what a choice comes to, each of its ways does
either :
    {P : Type 0} (t : Bool) (x y z : Change) → (x ≡ z → P) → (y ≡ z → P) → (if t then x else y) ≡ z → P
either true x y z f g e = f e
either false x y z f g e = g e

module _ (st : State) (p : Proper st) where
  -- a save and a restore that are not refused leave a proper state
  pub save-proper : (reg slot : ℕ) (st' : State) → save st reg slot ≡ Done st' → Proper st'
  unfolding save
  save-proper reg slot st' =
      either (overfull st) _ _ (Done st') (λ e. bad e)
      (either (eqb slot 0) _ _ (Done st') (λ e. range e)
      (either (ltb 65535 slot) _ _ (Done st') (λ e. range e)
      (either (ltb 65535 reg) _ _ (Done st') (λ e. range e) (at (place_of st reg) refl))))
    where
      bad : BadOpening ≡ Done st' → Proper st'
      bad e = cc

      range : OutOfRange ≡ Done st' → Proper st'
      range e = cc

      full : Full ≡ Done st' → Proper st'
      full e = cc

      new : place_of st reg ≡ None → (t : Bool) → eqb st.count max_saved ≡ t →
          (if t then Full else Done (with_pair st reg slot)) ≡ Done st' → Proper st'
      new n true t e = full e
      new n false t e =
          let is : with_pair st reg slot ≡ st' = cc in
          let room : st.count ≡ max_saved → ⊥ = eqb-false st.count max_saved t in
          subst (λ (s : State). Proper s) is (pair_proper st p reg slot (omega (arith, p.count)) n)

      at : (f : Option ℕ) → place_of st reg ≡ f → save_at st reg slot f ≡ Done st' → Proper st'
      at (Some i) n e =
          let is : with_slot st i slot ≡ st' = cc in
          subst (λ (s : State). Proper s) is (slot-proper st p i slot)
      at None n e = new n (eqb st.count max_saved) refl e

pub restore-proper : (a : Arch) (st : State) → Proper st → (reg : ℕ) (st' : State) → restore a st reg ≡ Done st' → Proper st'
unfolding restore return_saved
restore-proper a st p reg st' =
    either (overfull st) _ _ (Done st') (λ e. bad e)
    (either (eqb reg a.ra) _ _ (Done st')
    (either (eqb a.entry_slot 0) _ _ (Done st') (λ e. done e) (λ e. save-proper (without st reg) left a.ra a.entry_slot st' e))
    (λ e. done e))
  where
    left : Proper (without st reg)
    left = without-proper st p reg

    bad : BadOpening ≡ Done st' → Proper st'
    bad e = cc

    done : Done (without st reg) ≡ Done st' → Proper st'
    done e =
        let is : without st reg ≡ st' = cc in
        subst (λ (s : State). Proper s) is left

-- and neither is refused with 28
pub save-opens : (st : State) → Proper st → (reg slot : ℕ) → save st reg slot ≡ BadOpening → ⊥
unfolding save overfull
save-opens st p reg slot =
    simp (le-ltb max_saved st.count p.count)
    (either (eqb slot 0) _ _ BadOpening (λ e. range e)
    (either (ltb 65535 slot) _ _ BadOpening (λ e. range e)
    (either (ltb 65535 reg) _ _ BadOpening (λ e. range e) (at (place_of st reg)))))
  where
    range : OutOfRange ≡ BadOpening → ⊥
    range e = cc

    full : Full ≡ BadOpening → ⊥
    full e = cc

    done : (s : State) → Done s ≡ BadOpening → ⊥
    done s e = cc

    at : (f : Option ℕ) → save_at st reg slot f ≡ BadOpening → ⊥
    at (Some i) e = done (with_slot st i slot) e
    at None e = either (eqb st.count max_saved) _ _ BadOpening (λ q. full q) (λ q. done (with_pair st reg slot) q) e

pub restore-opens : (a : Arch) (st : State) → Proper st → (reg : ℕ) → restore a st reg ≡ BadOpening → ⊥
unfolding restore overfull return_saved
restore-opens a st p reg =
    simp (le-ltb max_saved st.count p.count)
    (either (eqb reg a.ra) _ _ BadOpening
    (either (eqb a.entry_slot 0) _ _ BadOpening (λ e. done e)
    (λ e. save-opens (without st reg) (without-proper st p reg) a.ra a.entry_slot e))
    (λ e. done e))
  where
    done : Done (without st reg) ≡ BadOpening → ⊥
    done e = cc
