-- Laws of `save`: what each of its tests comes to. Assumes nothing.
use mathlib.Core.Path.{◌≡◌, sym, ◌∙◌, ap}
use Prim.Native.Nat.{ℕ, ◌≤◌, ◌<◌}
use borrow.Author.Tests.{lt-ltb, le-ltb, eq-eqb, ne_eqb}
use Rattle.state.specs.declared.State.{State}
use Rattle.std.proofs.Common.{Some, None}
use Rattle.state.specs.State.{max_saved, overfull}
use Rattle.state.specs.Pairs.{place_of}
use Rattle.state.specs.Save.{Done, OutOfRange, Full, BadOpening, with_slot, with_pair, save_at, save}

module _ (st : State) (reg slot : ℕ) where
  pub save-overfull : max_saved < st.count → BadOpening ≡ save st reg slot
  unfolding save overfull
  save-overfull h = simp (lt-ltb max_saved st.count h)

  pub save_slot_0 : st.count ≤ max_saved → slot ≡ 0 → OutOfRange ≡ save st reg slot
  unfolding save overfull
  save_slot_0 h e = simp (le-ltb max_saved st.count h, eq-eqb slot 0 e)

  module _ (fits : st.count ≤ max_saved) (some : slot ≡ 0 → ⊥) where
    pub save_slot_large : 65535 < slot → OutOfRange ≡ save st reg slot
    unfolding save overfull
    save_slot_large h = simp (le-ltb max_saved st.count fits, ne_eqb slot 0 some, lt-ltb 65535 slot h)

    module _ (low : slot ≤ 65535) where
      pub save_reg_large : 65535 < reg → OutOfRange ≡ save st reg slot
      unfolding save overfull
      save_reg_large h =
          simp (le-ltb max_saved st.count fits, ne_eqb slot 0 some, le-ltb 65535 slot low, lt-ltb 65535 reg h)

      module _ (known : reg ≤ 65535) where
        in_range_lem : save_at st reg slot (place_of st reg) ≡ save st reg slot
        unfolding save overfull
        in_range_lem =
            simp (le-ltb max_saved st.count fits, ne_eqb slot 0 some, le-ltb 65535 slot low, le-ltb 65535 reg known)

        -- the register is saved already
        pub save_again : (i : ℕ) → place_of st reg ≡ Some i → Done (with_slot st i slot) ≡ save st reg slot
        save_again i e = ap (save_at st reg slot) (sym e) ∙ in_range_lem

        -- it is not
        pub save_full : place_of st reg ≡ None → st.count ≡ max_saved → Full ≡ save st reg slot
        save_full e full =
            let told : Full ≡ save_at st reg slot None = simp (eq-eqb st.count max_saved full) in
            told ∙ ap (save_at st reg slot) (sym e) ∙ in_range_lem

        pub save_new : place_of st reg ≡ None → (st.count ≡ max_saved → ⊥) → Done (with_pair st reg slot) ≡ save st reg slot
        save_new e more =
            let told : Done (with_pair st reg slot) ≡ save_at st reg slot None = simp (ne_eqb st.count max_saved more) in
            told ∙ ap (save_at st reg slot) (sym e) ∙ in_range_lem
