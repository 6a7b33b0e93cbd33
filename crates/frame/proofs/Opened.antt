-- Laws of `opened`, the tests for 28 that the public functions make first. Assumes nothing.
use mathlib.Core.Path.{◌≡◌, refl}
use mathlib.Core.Bool.{Bool, true, false}
use mathlib.Core.List.{List}
use Prim.Native.Nat.{ℕ, ◌≤◌, ◌<◌}
use borrow.Author.Tests.{lt-ltb, le-ltb}
use Rattle.failure.specs.Outcome.{Outcome, Refused, Answer, settled, ◌>>=◌}
use Rattle.failure.specs.Failure.{BadOpening}
use Rattle.failure.proofs.Outcome.{answer-refused}
use Rattle.mem.specs.Memory.{Lent}
use Rattle.mem.specs.Opening.{opens}
use Rattle.arch.specs.Arch.{Arch, numbers, is_known, known}
use Rattle.state.specs.declared.State.{State}
use Rattle.state.specs.State.{overfull}
use Rattle.frame.specs.Layout.{layout}
use Rattle.frame.specs.Apply as Apply
use Rattle.frame.specs.Step as Step
use Rattle.frame.specs.Public.{opened, apply, step}

module _ {A : Type 0} (f : Arch → Outcome A) (l : Lent) (n : ℕ) where
  -- what is lent is not accepted
  pub closed_refused : opens l ≡ false → Refused BadOpening ≡ (opened l n >>= f)
  unfolding opened
  closed_refused e = rw e

  -- an unknown architecture
  pub unknown_refused : opens l ≡ true → is_known n ≡ false → Refused BadOpening ≡ (opened l n >>= f)
  unfolding opened known
  unknown_refused e k = rw (e, k)

  -- otherwise what follows, at the architecture's numbers
  pub opened_goes_on : (o : Outcome A) → opens l ≡ true → is_known n ≡ true → o ≡ f (numbers n) → o ≡ (opened l n >>= f)
  unfolding opened known
  opened_goes_on o e k p = rw (e, k) p

module _ (l : Lent) (n : ℕ) (o : opens l ≡ true) (k : is_known n ≡ true) (file : List ℕ) where
  -- a state that counts too many pairs
  pub apply-counts : (st : State) → 32 < st.count → Refused BadOpening ≡ apply l n st file
  unfolding apply overfull
  apply-counts st h = opened_goes_on _ l n (Refused BadOpening) o k (rw (lt-ltb 32 st.count h))

  -- any other
  pub apply-passes : (st : State) → st.count ≤ 32 → Apply.apply (numbers n) l.regions (layout st) file ≡ apply l n st file
  unfolding apply overfull
  apply-passes st h =
      opened_goes_on _ l n (Apply.apply (numbers n) l.regions (layout st) file) o k (rw (le-ltb 32 st.count h))

  pub step-passes : (frame : ℕ) (first : Bool) → Step.step (numbers n) l.regions frame first file ≡ step l n frame first file
  unfolding step
  step-passes frame first = opened_goes_on _ l n (Step.step (numbers n) l.regions frame first file) o k refl

-- past both tests what is lent is accepted, and the architecture known
pub past_opened : (l : Lent) (n : ℕ) → Answer tt ≡ settled (opened l n) → (opens l ≡ true) × (is_known n ≡ true)
unfolding opened known
past_opened l n e = go (opens l) refl (is_known n) refl
  where
    go : (s : Bool) → opens l ≡ s → (t : Bool) → is_known n ≡ t → (opens l ≡ true) × (is_known n ≡ true)
    go true o true k = (o, k)
    go true o false k = answer-refused tt BadOpening (rw (o, k) at e)
    go false o t k = answer-refused tt BadOpening (rw o at e)
