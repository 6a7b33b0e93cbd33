-- Laws of the entry state, over the numbers of any architecture as the code holds them. Assumes nothing.
use mathlib.Core.Path.{◌≡◌, sym, ◌∙◌, ap}
use borrow.Author.Tests.{eq-eqb, ne_eqb}
use Rattle.arch.specs.Arch.{Arch}
use Rattle.arch.specs.Answers.{in_code}
use Rattle.arch.specs.declared.Arch2.{Arch2}
use Rattle.state.specs.State.{bare, with_first, entry}

module _ (a : Arch) (r : Arch2) (e : r ≡ in_code a) where
  -- the return address is in a slot
  pub entry-saved : (r.entry_ra_slot ≡ 0 → ⊥) → with_first (bare r.entry_cfa) r.ra r.entry_ra_slot ≡ entry a
  unfolding entry
  entry-saved z = simp (ne_eqb a.entry_slot 0 (λ s. z (ap (λ (x : Arch2). x.entry_ra_slot) e ∙ s))) (rw e)

  -- it is not
  pub entry-bare : r.entry_ra_slot ≡ 0 → bare r.entry_cfa ≡ entry a
  unfolding entry
  entry-bare z = simp (eq-eqb a.entry_slot 0 (sym (ap (λ (x : Arch2). x.entry_ra_slot) e) ∙ z)) (rw e)
