-- What halving has left to look at. Assumes nothing.
use Rattle.std.proofs.Common.{◌≡◌, refl, sym, ◌∙◌, ap, ℕ, zero, suc, ◌+◌, ◌-◌, ◌/◌, ◌≤◌, ◌<◌, arith, eq-eqb, ne_eqb, lt-ltb, le-ltb, le-leb}
use borrow.Author.Tests.{lt-leb}
use Rattle.failure.specs.Outcome.{Outcome, Answer}
use Rattle.mem.specs.Memory.{Memory}
use Rattle.mem.specs.Word.{load}
use Rattle.rows.specs.Row.{Found, None}
use Rattle.rows.specs.Handler.{Entry, entry_at, judged, halve, handler}

-- the rows from lo to hi are left, and `left` turns are enough for them
pub record Left (m : Memory) (table count ret lo hi : ℕ) : Type 0 where
  pub left : ℕ
  pub enough : hi - lo ≤ left
  pub within : hi ≤ count
  pub same : handler m table ret ≡ halve left m table count ret lo hi

module _ (m : Memory) (table ret : ℕ) where
  pub begin : (count : ℕ) → Answer count ≡ load m 4 table → Left m table count ret 0 count
  unfolding handler
  begin count e = record { left = count; enough = omega arith; within = omega arith; same = rw (sym e) }

  module _ (count lo hi : ℕ) (s : Left m table count ret lo hi) where
    -- nothing is left
    pub over : hi ≤ lo → Answer None ≡ handler m table ret
    over h = sym (s.same ∙ none s.left)
      where
        none : (k : ℕ) → halve k m table count ret lo hi ≡ Answer None
        none zero = refl
        none (suc k) = simp (le-leb hi lo h)

    module _ (some : lo < hi) where
      -- a turn is left where rows are
      turns : (P : Type 0) → ((k : ℕ) → hi - lo ≤ suc k → handler m table ret ≡ halve (suc k) m table count ret lo hi → P) → P
      turns P f = go s.left refl
        where
          go : (n : ℕ) → s.left ≡ n → P
          go zero e = absurd (omega (arith, s.enough, e))
          go (suc k) e = f k (omega (arith, s.enough, e)) (s.same ∙ ap (λ (n : ℕ). halve n m table count ret lo hi) e)

      module _ (e : Entry) (read : Answer e ≡ entry_at m table (lo + (hi - lo) / 2)) where
        -- it is the row
        pub turn_found : e.offset ≡ ret → (o : Outcome Found) → o ≡ judged m table count (lo + (hi - lo) / 2) e → o ≡ handler m table ret
        turn_found is o p =
            turns (o ≡ handler m table ret)
            (λ k n same. p ∙ sym (same ∙ simp (lt-leb hi lo some, sym read, eq-eqb e.offset ret is)))

        -- the row comes after it, or before it
        pub turn_above : (e.offset ≡ ret → ⊥) → e.offset < ret → Left m table count ret (lo + (hi - lo) / 2 + 1) hi
        turn_above other less =
            turns (Left m table count ret (lo + (hi - lo) / 2 + 1) hi)
            (λ k n same. record {
              left = k;
              enough = omega arith;
              within = s.within;
              same = same ∙ simp (lt-leb hi lo some, sym read, ne_eqb e.offset ret other, lt-ltb e.offset ret less);
            })

        pub turn_below : (e.offset ≡ ret → ⊥) → ret ≤ e.offset → Left m table count ret lo (lo + (hi - lo) / 2)
        turn_below other more =
            turns (Left m table count ret lo (lo + (hi - lo) / 2))
            (λ k n same. record {
              left = k;
              enough = omega arith;
              within = omega (arith, s.within);
              same = same ∙ simp (lt-leb hi lo some, sym read, ne_eqb e.offset ret other, le-ltb e.offset ret more);
            })
