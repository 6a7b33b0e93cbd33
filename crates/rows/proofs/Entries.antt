-- Laws of `entry_at`, the neighbours' tests and `judged`: what each load and test comes to. Assumes nothing.
use Rattle.std.proofs.Common.{◌≡◌, sym, true, false, ℕ, ◌+◌, ◌-◌, ◌*◌, ◌≤◌, ◌<◌, leb, eq-eqb, ne_eqb, lt-ltb, le-ltb}
use Rattle.failure.specs.Outcome.{Outcome, Refused, Answer}
use Rattle.failure.specs.Failure.{EkoAmbiguousCallSite}
use Rattle.mem.specs.Memory.{Memory}
use Rattle.mem.specs.Word.{load}
use Rattle.mem.specs.Wrapping.{sum}
use Rattle.rows.specs.Row.{Found, checked}
use Rattle.rows.specs.Handler.{Entry, row, entry_at, left_breaks, right_breaks, judged}

module _ (m : Memory) (table i : ℕ) where
  -- the first word is refused; all three are read
  pub entry_first : (a x : ℕ) → a ≡ sum table (4 + 12 * i) → Refused x ≡ load m 4 a → Refused x ≡ entry_at m table i
  unfolding entry_at
  entry_first a x at e = rw (sym at, sym e)

  pub entry_whole : (a offset : ℕ) → a ≡ sum table (4 + 12 * i) → Answer offset ≡ load m 4 a →
      (b pad : ℕ) → b ≡ sum table (8 + 12 * i) → Answer pad ≡ load m 4 b →
      (d action : ℕ) → d ≡ sum table (12 + 12 * i) → Answer action ≡ load m 4 d → Answer (row offset pad action) ≡ entry_at m table i
  unfolding entry_at
  entry_whole a offset at first b pad at2 second d action at3 third = rw (sym at, sym first, sym at2, sym second, sym at3, sym third)

  -- the left neighbour: there is none; it is looked at
  pub left_none : (offset : ℕ) → i ≡ 0 → Answer false ≡ left_breaks m table i offset
  unfolding left_breaks
  left_none offset e = simp (eq-eqb i 0 e)

  pub left_seen : (offset : ℕ) (e : Entry) → (i ≡ 0 → ⊥) → Answer e ≡ entry_at m table (i - 1) →
      Answer (leb offset e.offset) ≡ left_breaks m table i offset
  unfolding left_breaks
  left_seen offset e h p = simp (ne_eqb i 0 h, sym p)

  module _ (count : ℕ) where
    -- the right neighbour likewise
    pub right_none : (offset : ℕ) → count ≤ i + 1 → Answer false ≡ right_breaks m table count i offset
    unfolding right_breaks
    right_none offset h = simp (le-ltb (i + 1) count h)

    pub right_seen : (offset : ℕ) (e : Entry) → i + 1 < count → Answer e ≡ entry_at m table (i + 1) →
        Answer (leb e.offset offset) ≡ right_breaks m table count i offset
    unfolding right_breaks
    right_seen offset e h p = simp (lt-ltb (i + 1) count h, sym p)

    module _ (e : Entry) where
      -- a found row: the left neighbour is refused or breaks; or the right one does; or the row is checked
      pub judged_left_refused : (x : ℕ) → Refused x ≡ left_breaks m table i e.offset → Refused x ≡ judged m table count i e
      unfolding judged
      judged_left_refused x p = rw (sym p)

      pub judged_left : Answer true ≡ left_breaks m table i e.offset → Refused EkoAmbiguousCallSite ≡ judged m table count i e
      unfolding judged
      judged_left p = rw (sym p)

      module _ (left : Answer false ≡ left_breaks m table i e.offset) where
        pub judged_right : Answer true ≡ right_breaks m table count i e.offset → Refused EkoAmbiguousCallSite ≡ judged m table count i e
        unfolding judged
        judged_right p = rw (sym left, sym p)

        pub judged-whole : Answer false ≡ right_breaks m table count i e.offset → (o : Outcome Found) → o ≡ checked e.pad e.action →
            o ≡ judged m table count i e
        unfolding judged
        judged-whole p o q = rw (sym left, sym p) q
