-- Laws of `left_meets`, `right_meets` and `settle`. Assumes nothing.
use mathlib.Core.Path.{◌≡◌, ap}
use mathlib.Core.Bool.{true, false, or-true}
use Rattle.std.specs.Prelude.{None, Some}
use Prim.Native.Nat.{ℕ, ◌+◌, ◌-◌, ◌≤◌, ◌<◌}
use lib.Dec.{ltb}
use native.Mathlib.Omega.{arith}
use borrow.Author.Tests.{lt-ltb, le-ltb}
use Rattle.failure.specs.Outcome.{Refused, Answer}
use Rattle.failure.specs.Failure.{EkoUnsorted}
use Rattle.lookup.specs.Record.{holds}
use Rattle.lookup.specs.Search.{left_meets, right_meets, settle}
use Rattle.lookup.specs.declared.Record.{Record}

module _ (rec : ℕ → Record) (i : ℕ) where
  -- the first record has no left neighbour
  pub left_none : i ≡ 0 → false ≡ left_meets rec i
  unfolding left_meets
  left_none z = simp (le-ltb 0 i (omega arith))

  pub left_some : (s e : ℕ) → (i ≡ 0 → ⊥) → s ≡ (rec i).start → e ≡ (rec (i - 1)).end → ltb s e ≡ left_meets rec i
  unfolding left_meets
  left_some s e z p q = simp (lt-ltb 0 i (omega arith)) (rw (p, q))

  module _ (count : ℕ) where
    -- the last record has no right neighbour
    pub right_none : count ≤ i + 1 → false ≡ right_meets rec count i
    unfolding right_meets
    right_none z = simp (le-ltb (i + 1) count z)

    pub right_some : (s e : ℕ) → i + 1 < count → s ≡ (rec (i + 1)).start → e ≡ (rec i).end → ltb s e ≡ right_meets rec count i
    unfolding right_meets
    right_some s e h p q = simp (lt-ltb (i + 1) count h) (rw (p, q))

    module _ (pc : ℕ) where
      -- 19 by either neighbour
      pub settle_left : left_meets rec i ≡ true → Refused EkoUnsorted ≡ settle rec count pc i
      unfolding settle
      settle_left l = simp l

      pub settle_right : right_meets rec count i ≡ true → Refused EkoUnsorted ≡ settle rec count pc i
      unfolding settle
      settle_right r = simp (r, or-true)

      -- the record if it holds pc
      pub settle_not : left_meets rec i ≡ false → right_meets rec count i ≡ false → holds (rec i) pc ≡ false →
          Answer None ≡ settle rec count pc i
      unfolding settle
      settle_not l r h = simp (l, r, h)

      pub settle-held : (r' : Record) → left_meets rec i ≡ false → right_meets rec count i ≡ false → holds (rec i) pc ≡ true →
          r' ≡ rec i → Answer (Some r') ≡ settle rec count pc i
      unfolding settle
      settle-held r' l r h e = simp (l, r, h) (ap (λ (x : Record). Answer (Some x)) e)
