-- Wherever `handler2` is not refused it answers the row of the offset among the table's readable rows, and none exactly where
-- they have none. Assumes nothing.
use Rattle.std.proofs.Common.{◌≡◌, refl, sym, ◌∙◌, Bool, true, false, ◌∷◌, ℕ, zero, suc, ◌+◌, ◌/◌, ◌%◌, ◌<◌, arith, eqb, ltb, ne_eqb, ltb-true}
use Rattle.failure.specs.Outcome.{Outcome, Refused, Answer}
use Rattle.failure.specs.Failure.{BadEkoRecord, EkoAmbiguousCallSite}
use Rattle.mem.specs.Memory.{Memory}
use Rattle.leb.specs.Reader.{Read}
use Rattle.rows.specs.Row.{Found, None, Pad, valid, checked}
use Rattle.rows.specs.Handler.{row}
use Rattle.rows.specs.Handler2.{uleb, next_delta, matched, decide, rows_from, handler2}
use Rattle.rows.specs.Prefix.{readable, prefix, rows_of, row_at}

-- a refusal is no answer
no_answer : (x : ℕ) (f : Found) (A : Type 0) → ◌≡◌ {A = Outcome Found} (Refused x) (Answer f) → A
no_answer x f A e = let z : ◌≡◌ {A = ℕ} 0 1 = cc in absurd (omega arith)

-- a row that is answered is the one that was checked
checked-is : (pad action : ℕ) (f : Found) → checked pad action ≡ Answer f → f ≡ Pad pad action
unfolding checked
checked-is pad action f e = go (valid pad action) refl
  where
    go : (b : Bool) → valid pad action ≡ b → f ≡ Pad pad action
    go true p =
        let q : Answer (Pad pad action) ≡ Answer f = rw p at e in
        sym cc
    go false p = no_answer BadEkoRecord f (f ≡ Pad pad action) (rw p at e)

module _ (m : Memory) (limit ret : ℕ) where
  -- rows past the offset do not have it
  pub past : (left pos at : ℕ) → ret < at → row_at ret (prefix left m limit pos at) ≡ None
  past zero pos at h = refl
  past (suc left) pos at h = first (λ n next. past left next n) (uleb m limit pos) refl
    where
      second : (delta : Read) (o : Outcome Read) → ((n next : ℕ) → ret < n → row_at ret (prefix left m limit next n) ≡ None) →
          row_at ret
          (readable o
          (λ word. row (at + delta.value) (word.value / 4) (word.value % 4) ∷ prefix left m limit word.next (at + delta.value)))
          ≡ None
      second delta (Refused x) rest = refl
      second delta (Answer word) rest =
          simp (ne_eqb (at + delta.value) ret (λ e. omega arith)) (rest (at + delta.value) word.next (omega arith))

      first : ((n next : ℕ) → ret < n → row_at ret (prefix left m limit next n) ≡ None) → (o : Outcome Read) → uleb m limit pos ≡ o →
          row_at ret (prefix (suc left) m limit pos at) ≡ None
      first rest (Refused x) e = rw e
      first rest (Answer delta) e = rw e (second delta (uleb m limit delta.next) rest)

  -- a found row has no fellow among those after it: the next delta was looked at
  matched-is : (left pos word : ℕ) (f : Found) → matched m limit left pos word ≡ Answer f → f ≡ Pad (word / 4) (word % 4)
  unfolding matched
  matched-is left pos word f e = next (next_delta m limit left pos) refl
    where
      next : (o : Outcome ℕ) → next_delta m limit left pos ≡ o → f ≡ Pad (word / 4) (word % 4)
      next (Refused x) p = no_answer x f (f ≡ Pad (word / 4) (word % 4)) (rw p at e)
      next (Answer d) p = test (eqb d 0) refl
        where
          test : (b : Bool) → eqb d 0 ≡ b → f ≡ Pad (word / 4) (word % 4)
          test true q = no_answer EkoAmbiguousCallSite f (f ≡ Pad (word / 4) (word % 4)) (rw q at (rw p at e))
          test false q = checked-is (word / 4) (word % 4) f (rw q at (rw p at e))

  -- the row that is answered among so many rows at pos
  answered : (left pos at : ℕ) (f : Found) → rows_from left m limit pos at ret ≡ Answer f → f ≡ row_at ret (prefix left m limit pos at)
  answered zero pos at f e = let same : Answer None ≡ Answer f = e in sym cc
  answered (suc left) pos at f e = first (λ next n p. answered left next n f p) (uleb m limit pos) refl
    where
      Rest : Type 0
      Rest = (next n : ℕ) → rows_from left m limit next n ret ≡ Answer f → f ≡ row_at ret (prefix left m limit next n)

      decided : Rest → (d w next : ℕ) →
          decide m limit ret left at d w next (rows_from left m limit next (at + d) ret) ≡ Answer f →
          f ≡ row_at ret (row (at + d) (w / 4) (w % 4) ∷ prefix left m limit next (at + d))
      decided rest d w next p = zero-delta (eqb d 0) refl
        where
          Goal : Type 0
          Goal = f ≡ row_at ret (row (at + d) (w / 4) (w % 4) ∷ prefix left m limit next (at + d))

          here : eqb d 0 ≡ false → ltb ret (at + d) ≡ false → (b : Bool) → eqb (at + d) ret ≡ b → Goal
          here z q true r =
              simp r (matched-is left next w f (rw r at (rw q at (rw z at p))))
          here z q false r = simp r (rest next (at + d) (rw r at (rw q at (rw z at p))))

          before : eqb d 0 ≡ false → (b : Bool) → ltb ret (at + d) ≡ b → Goal
          before z true q =
              let less = ltb-true ret (at + d) q in
              let same : Answer None ≡ Answer f = rw q at (rw z at p) in
              let is : f ≡ None = sym cc in
              simp (ne_eqb (at + d) ret (λ r. omega arith)) (is ∙ sym (past left next (at + d) less))
          before z false q = here z q (eqb (at + d) ret) refl

          zero-delta : (b : Bool) → eqb d 0 ≡ b → Goal
          zero-delta true z = no_answer EkoAmbiguousCallSite f Goal (rw z at p)
          zero-delta false z = before z (ltb ret (at + d)) refl

      second : Rest → (delta : Read) → uleb m limit pos ≡ Answer delta → (o : Outcome Read) → uleb m limit delta.next ≡ o →
          f ≡ row_at ret (prefix (suc left) m limit pos at)
      second rest delta p (Refused x) q = no_answer x f (f ≡ row_at ret (prefix (suc left) m limit pos at)) (rw q at (rw p at e))
      second rest delta p (Answer word) q = rw (p, q) (decided rest delta.value word.value word.next (rw q at (rw p at e)))

      first : Rest → (o : Outcome Read) → uleb m limit pos ≡ o → f ≡ row_at ret (prefix (suc left) m limit pos at)
      first rest (Refused x) p = no_answer x f (f ≡ row_at ret (prefix (suc left) m limit pos at)) (rw p at e)
      first rest (Answer delta) p = second rest delta p (uleb m limit delta.next) refl

-- the answer of the table
pub handler2-answers : (m : Memory) (table limit ret : ℕ) (f : Found) → handler2 m table limit ret ≡ Answer f → f ≡ row_at ret (rows_of m table limit)
unfolding handler2 rows_of
handler2-answers m table limit ret f e = first (uleb m limit table) refl
  where
    first : (o : Outcome Read) → uleb m limit table ≡ o → f ≡ row_at ret (rows_of m table limit)
    first (Refused x) p = no_answer x f (f ≡ row_at ret (rows_of m table limit)) (rw p at e)
    first (Answer rows) p = rw p (answered m limit ret rows.value rows.next 0 f (rw p at e))
