-- A save and a restore that are refused have the numbers of specs/Faults.antt, each exactly where it says. Assumes nothing.
use mathlib.Core.Path.{◌≡◌, refl, sym, ◌∙◌, ap}
use mathlib.Core.Bool.{Bool, true, false}
use mathlib.Core.Logic.{inl, inr, ◌≢◌}
use Prim.Native.Nat.{ℕ, ◌≤◌, ◌<◌}
use native.Mathlib.Omega.{arith}
use lib.Dec.{eqb, ltb}
use borrow.Author.Tests.{ltb-true, ltb-false, eqb-true, eqb-false}
use Rattle.failure.specs.Outcome.{Refused}
use Rattle.arch.specs.Arch.{Arch, numbers}
use Rattle.arch.specs.Answers.{in_code}
use Rattle.state.specs.declared.State.{State}
use Rattle.std.proofs.Common.{Option, Some, None}
use Rattle.state.specs.State.{max_saved}
use Rattle.state.specs.Pairs.{place_of}
use Rattle.state.specs.Save.{Change, Done, OutOfRange, Full, BadOpening, with_slot, with_pair, save}
use Rattle.state.specs.Restore.{without, restore}
use Rattle.state.specs.Answers.{changed}
use Rattle.state.specs.Faults.{Unsaved, Beyond32, Unfit, SaveFaults, RestoreFaults}
use Rattle.state.proofs.Pairs.{place_at, place_none, place-below}
use Rattle.state.proofs.Restore.{without_none, without-count, restore-overfull, restore_other, restore-bare, restore-saved, entry_small}
use Rattle.state.proofs.Save.{save-overfull, save_slot_0, save_slot_large, save_reg_large, save_again, save_full, save_new}

-- a register that is at no place is not saved, and one that is at a place is
nowhere : (st : State) (reg : ℕ) → place_of st reg ≡ None → Unsaved st reg
nowhere st reg e = λ i h. place_none st.regs reg st.count 0 e i (omega arith) (omega arith)

somewhere : (st : State) (reg i : ℕ) → place_of st reg ≡ Some i → Unsaved st reg → ⊥
somewhere st reg i e free =
    let there = place_at st.regs reg st.count 0 i e in
    free i (omega (arith, there.1)) there.2

-- the number of a change, if it is refused
abbrev Numbered : Change → ℕ → Type 0
Numbered (Done y) n = ⊥
Numbered OutOfRange n = 18 ≡ n
Numbered Full n = 32 ≡ n
Numbered BadOpening n = 28 ≡ n

says : (x : Change) → {y : Change} → x ≡ y → (n : ℕ) → changed y ≡ Refused n → Numbered x n
says x e n p = go x (ap changed e ∙ p)
  where
    go : (z : Change) → changed z ≡ Refused n → Numbered z n
    go (Done y) q = cc
    go OutOfRange q = cc
    go Full q = cc
    go BadOpening q = cc

-- a save by its cases
data Met (st : State) (reg slot : ℕ) : Type 0 where
  over : max_saved < st.count → BadOpening ≡ save st reg slot → Met st reg slot
  unfits : st.count ≤ max_saved → Unfit reg slot → OutOfRange ≡ save st reg slot → Met st reg slot
  beyond : Beyond32 st reg → (Unfit reg slot → ⊥) → Full ≡ save st reg slot → Met st reg slot
  done : st.count ≤ max_saved → (Unfit reg slot → ⊥) → (Beyond32 st reg → ⊥) → (y : State) → Done y ≡ save st reg slot → Met st reg slot

module _ (st : State) (reg slot : ℕ) where
  -- a slot and a register that fit
  module _ (fits : st.count ≤ max_saved) (some : slot ≡ 0 → ⊥) (low : slot ≤ 65535) (known : reg ≤ 65535) where
    fit : Unfit reg slot → ⊥
    fit (inl e) = some e
    fit (inr (inl h)) = omega arith
    fit (inr (inr h)) = omega arith

    new : place_of st reg ≡ None → (t : Bool) → eqb st.count max_saved ≡ t → Met st reg slot
    new e true p =
        let full = eqb-true st.count max_saved p in
        beyond (full, nowhere st reg e) fit (save_full st reg slot fits some low known e full)
    new e false p =
        let more = eqb-false st.count max_saved p in
        done fits fit (λ b. more b.0) (with_pair st reg slot) (save_new st reg slot fits some low known e more)

    fitting : (f : Option ℕ) → place_of st reg ≡ f → Met st reg slot
    fitting (Some i) e =
        done fits fit (λ b. somewhere st reg i e b.1) (with_slot st i slot) (save_again st reg slot fits some low known i e)
    fitting None e = new e (eqb st.count max_saved) refl

  met : Met st reg slot
  met = counted (ltb max_saved st.count) refl
    where
      registered : st.count ≤ max_saved → (slot ≡ 0 → ⊥) → slot ≤ 65535 → (t : Bool) → ltb 65535 reg ≡ t → Met st reg slot
      registered fits some low true p =
          let large = ltb-true 65535 reg p in
          unfits fits (inr (inr large)) (save_reg_large st reg slot fits some low large)
      registered fits some low false p = fitting fits some low (ltb-false 65535 reg p) (place_of st reg) refl

      slotted : st.count ≤ max_saved → (slot ≡ 0 → ⊥) → (t : Bool) → ltb 65535 slot ≡ t → Met st reg slot
      slotted fits some true p =
          let large = ltb-true 65535 slot p in
          unfits fits (inr (inl large)) (save_slot_large st reg slot fits some large)
      slotted fits some false p = registered fits some (ltb-false 65535 slot p) (ltb 65535 reg) refl

      zeroed : st.count ≤ max_saved → (t : Bool) → eqb slot 0 ≡ t → Met st reg slot
      zeroed fits true p =
          let none = eqb-true slot 0 p in
          unfits fits (inl none) (save_slot_0 st reg slot fits none)
      zeroed fits false p = slotted fits (eqb-false slot 0 p) (ltb 65535 slot) refl

      counted : (t : Bool) → ltb max_saved st.count ≡ t → Met st reg slot
      counted true p =
          let more = ltb-true max_saved st.count p in
          over more (save-overfull st reg slot more)
      counted false p = zeroed (ltb-false max_saved st.count p) (eqb slot 0) refl

  pub save_faults : SaveFaults st reg slot
  save_faults = go met
    where
      go : Met st reg slot → SaveFaults st reg slot
      go (over more e) =
          record {
            overfull = (λ p. more, λ h. sym (ap changed e));
            unfit = (λ p. absurd (omega (arith, says BadOpening e 18 p)), λ h. absurd (omega (arith, h.0)));
            too_many = (λ p. absurd (omega (arith, says BadOpening e 32 p)), λ h. absurd (omega (arith, h.0.0)));
            no_other = λ n p. inl (sym (says BadOpening e n p));
          }
      go (unfits fits u e) =
          record {
            overfull = (λ p. absurd (omega (arith, says OutOfRange e 28 p)), λ h. absurd (omega arith));
            unfit = (λ p. (fits, u), λ h. sym (ap changed e));
            too_many = (λ p. absurd (omega (arith, says OutOfRange e 32 p)), λ h. absurd (h.1 u));
            no_other = λ n p. inr (inl (sym (says OutOfRange e n p)));
          }
      go (beyond b f e) =
          record {
            overfull = (λ p. absurd (omega (arith, says Full e 28 p)), λ h. absurd (omega (arith, b.0)));
            unfit = (λ p. absurd (omega (arith, says Full e 18 p)), λ h. absurd (f h.1));
            too_many = (λ p. (b, f), λ h. sym (ap changed e));
            no_other = λ n p. inr (inr (sym (says Full e n p)));
          }
      go (done fits f b y e) =
          record {
            overfull = (λ p. absurd (says (Done y) e 28 p), λ h. absurd (omega arith));
            unfit = (λ p. absurd (says (Done y) e 18 p), λ h. absurd (f h.1));
            too_many = (λ p. absurd (says (Done y) e 32 p), λ h. absurd (b h.0));
            no_other = λ n p. absurd (says (Done y) e n p);
          }

module _ (a : Arch) (small : (a.ra ≤ 65535) × (a.entry_slot ≤ 65535)) (st : State) (reg : ℕ) where
  -- the return register is saved again, and would be a 33rd
  abbrev Again : Type 0
  Again = (reg ≡ a.ra) × (a.entry_slot ≢ 0) × Beyond32 st reg

  over_28 : max_saved < st.count → RestoreFaults a st reg
  over_28 more =
      let e = restore-overfull a (in_code a) refl st reg more in
      record {
        overfull = (λ p. more, λ h. sym (ap changed e));
        too_many = (λ p. absurd (omega (arith, says BadOpening e 32 p)), λ h. absurd (omega (arith, h.2.0)));
        no_other = λ k p. inl (sym (says BadOpening e k p));
      }

  full_32 : Again → Full ≡ restore a st reg → RestoreFaults a st reg
  full_32 b e =
      record {
        overfull = (λ p. absurd (omega (arith, says Full e 28 p)), λ h. absurd (omega (arith, b.2.0)));
        too_many = (λ p. b, λ h. sym (ap changed e));
        no_other = λ k p. inr (sym (says Full e k p));
      }

  not_refused_lem : st.count ≤ max_saved → (Again → ⊥) → (y : State) → Done y ≡ restore a st reg → RestoreFaults a st reg
  not_refused_lem fits f y e =
      record {
        overfull = (λ p. absurd (says (Done y) e 28 p), λ h. absurd (omega arith));
        too_many = (λ p. absurd (says (Done y) e 32 p), λ h. absurd (f h));
        no_other = λ k p. absurd (says (Done y) e k p);
      }

  -- the return register, saved again in the state without its pair
  module _ (fits : st.count ≤ max_saved) (is : reg ≡ a.ra) (some : a.entry_slot ≢ 0) where
    abbrev w : State
    w = without st reg

    saved : save w reg a.entry_slot ≡ restore a st reg
    saved = restore-saved a (in_code a) refl st reg fits w refl is some

    unfit_not : Unfit reg a.entry_slot → ⊥
    unfit_not (inl e) = some e
    unfit_not (inr (inl h)) = omega (arith, small.1)
    unfit_not (inr (inr h)) = omega (arith, small.0)

    -- it had a pair, so there is room
    roomy : (i : ℕ) → place_of st reg ≡ Some i → Met w reg a.entry_slot → RestoreFaults a st reg
    roomy i p x = go x
      where
        fewer : w.count < max_saved
        fewer = omega (arith, without-count st reg i p, place-below st reg i p)

        go : Met w reg a.entry_slot → RestoreFaults a st reg
        go (over more e) = absurd (omega (arith, fewer))
        go (unfits f u e) = absurd (unfit_not u)
        go (beyond b f e) = absurd (omega (arith, fewer, b.0))
        go (done f u b y e) = not_refused_lem fits (λ g. somewhere st reg i p g.2.1) y (e ∙ saved)

    -- it had none, so nothing was removed
    bare : place_of st reg ≡ None → Met st reg a.entry_slot → RestoreFaults a st reg
    bare p x = go x
      where
        same : save st reg a.entry_slot ≡ restore a st reg
        same = ap (λ (s : State). save s reg a.entry_slot) (without_none st reg p) ∙ saved

        go : Met st reg a.entry_slot → RestoreFaults a st reg
        go (over more e) = over_28 more
        go (unfits f u e) = absurd (unfit_not u)
        go (beyond b f e) = full_32 (is, some, b) (e ∙ same)
        go (done f u b y e) = not_refused_lem fits (λ g. b g.2) y (e ∙ same)

    again : (f : Option ℕ) → place_of st reg ≡ f → RestoreFaults a st reg
    again (Some i) p = roomy i p (met w reg a.entry_slot)
    again None p = bare p (met st reg a.entry_slot)

  refusals : RestoreFaults a st reg
  refusals = counted (ltb max_saved st.count) refl
    where
      slotted : st.count ≤ max_saved → reg ≡ a.ra → (t : Bool) → eqb a.entry_slot 0 ≡ t → RestoreFaults a st reg
      slotted fits is true p =
          let none = eqb-true a.entry_slot 0 p in
          not_refused_lem fits (λ g. g.1 none) (without st reg) (restore-bare a (in_code a) refl st reg fits (without st reg) refl is none)
      slotted fits is false p = again fits is (eqb-false a.entry_slot 0 p) (place_of st reg) refl

      named : st.count ≤ max_saved → (t : Bool) → eqb reg a.ra ≡ t → RestoreFaults a st reg
      named fits true p = slotted fits (eqb-true reg a.ra p) (eqb a.entry_slot 0) refl
      named fits false p =
          let other = eqb-false reg a.ra p in
          not_refused_lem fits (λ g. other g.0) (without st reg) (restore_other a (in_code a) refl st reg fits (without st reg) refl other)

      counted : (t : Bool) → ltb max_saved st.count ≡ t → RestoreFaults a st reg
      counted true p = over_28 (ltb-true max_saved st.count p)
      counted false p = named (ltb-false max_saved st.count p) (eqb reg a.ra) refl

pub restore_faults : (n : ℕ) (st : State) (reg : ℕ) → RestoreFaults (numbers n) st reg
restore_faults n st reg = refusals (numbers n) (entry_small n) st reg
