-- Laws of the public `restore` and `slot`. Assumes nothing.
use mathlib.Core.Path.{◌≡◌}
use mathlib.Core.Bool.{true, false}
use Prim.Native.Nat.{ℕ, ◌≤◌, ◌<◌}
use lib.ListN.{get_or}
use borrow.Author.Tests.{lt-ltb, le-ltb}
use Rattle.failure.specs.Outcome.{Refused, Answer}
use Rattle.failure.specs.Failure.{BadOpening}
use Rattle.state.specs.declared.State.{State}
use Rattle.std.proofs.Common.{Some, None}
use Rattle.state.specs.State.{max_saved, overfull}
use Rattle.state.specs.Pairs.{place_of}
use Rattle.arch.specs.Arch.{numbers, is_known}
use Rattle.state.specs.Save as Save
use Rattle.state.specs.Restore as Restore
use Rattle.state.specs.Public.{restore, slot}

-- a restore on an architecture
module _ (arch : ℕ) (st : State) (reg : ℕ) where
  pub restore_unknown : is_known arch ≡ false → Save.BadOpening ≡ restore arch st reg
  unfolding restore
  restore_unknown e = rw e

  pub restore-known : is_known arch ≡ true → Restore.restore (numbers arch) st reg ≡ restore arch st reg
  unfolding restore
  restore-known e = rw e

-- the slot of a register
module _ (st : State) (reg : ℕ) where
  pub slot-overfull : max_saved < st.count → Refused BadOpening ≡ slot st reg
  unfolding slot overfull
  slot-overfull h = simp (lt-ltb max_saved st.count h)

  pub slot_at : (i : ℕ) → st.count ≤ max_saved → place_of st reg ≡ Some i → Answer (Some (get_or st.slots i 0)) ≡ slot st reg
  unfolding slot overfull
  slot_at i h e = simp (le-ltb max_saved st.count h, e)

  pub slot_none : st.count ≤ max_saved → place_of st reg ≡ None → Answer None ≡ slot st reg
  unfolding slot overfull
  slot_none h e = simp (le-ltb max_saved st.count h, e)
