-- `handler2` is not refused exactly where `answered` holds of the table's readable rows and of how they end, and then it answers the row
-- that they have for the offset. Assumes nothing.
use Rattle.std.proofs.Common.{if◌then◌else◌, ◌≡◌, refl, sym, ◌∙◌, ap, Bool, true, false, not, ◌&&◌, ◌||◌, ◌∷◌, ℕ, zero, suc, ◌+◌, ◌/◌, ◌%◌, ◌<◌, arith, eqb, ltb, ne_eqb, lt-ltb, le-ltb, le-leb, eqb-true, ltb-true, ltb-false}
use borrow.Author.Tests.{lt-leb, eqb-false}
use Rattle.failure.specs.Outcome.{Outcome, Refused, Answer}
use Rattle.failure.specs.Failure.{EkoAmbiguousCallSite}
use Rattle.mem.specs.Memory.{Memory}
use Rattle.leb.specs.Reader.{Read}
use Rattle.rows.specs.Row.{Found, valid, checked}
use Rattle.rows.specs.Handler.{row}
use Rattle.rows.specs.Handler2.{uleb, next_delta, matched, decide, rows_from, handler2}
use Rattle.rows.specs.Prefix.{prefix, rows_of, row_at}
use Rattle.rows.specs.NotRefused.{not_refused, well_formed, ending, ending_of, next_above, followed, answered_after, answered}
use Rattle.rows.proofs.Prefix.{past, handler2-answers}

-- a number is not 0 exactly if it is above 0
above_0 : (p : ℕ) → not (eqb p 0) ≡ (ltb 0 p || false)
above_0 p = go (eqb p 0) refl
  where
    go : (t : Bool) → eqb p 0 ≡ t → not (eqb p 0) ≡ (ltb 0 p || false)
    go true e = rw (eqb-true p 0 e)
    go false e =
        let other = eqb-false p 0 e in
        rw (e, lt-ltb 0 p (omega arith))

-- a row is valid exactly if it is well-formed
pub valid_said : (pad action : ℕ) → valid pad action ≡ well_formed pad action
unfolding valid well_formed
valid_said pad zero = above_0 pad
valid_said pad (suc zero) = above_0 pad
valid_said pad (suc (suc zero)) = refl
valid_said pad (suc (suc (suc k))) =
    simp (
      ne_eqb (suc (suc (suc k))) 0 (λ e. omega arith),
      ne_eqb (suc (suc (suc k))) 1 (λ e. omega arith),
      ne_eqb (suc (suc (suc k))) 2 (λ e. omega arith),
      le-ltb (suc (suc (suc k))) 2 (omega arith),
    )

-- so a checked row is not refused exactly if it is
pub checked_said : (pad action : ℕ) → not_refused (checked pad action) ≡ well_formed pad action
unfolding checked
checked_said pad action = go (valid pad action) refl ∙ valid_said pad action
  where
    go : (t : Bool) → valid pad action ≡ t → not_refused (checked pad action) ≡ valid pad action
    go true e = rw e
    go false e = rw e

module _ (m : Memory) (limit ret : ℕ) where
  -- no row past the offset has it
  followed-past : (left pos at : ℕ) → ret < at → followed ret (prefix left m limit pos at) (ending left m limit pos at) ≡ true
  followed-past zero pos at h = refl
  followed-past (suc left) pos at h = first (λ n next. followed-past left next n) (uleb m limit pos) refl
    where
      Rest : Type 0
      Rest = (n next : ℕ) → ret < n → followed ret (prefix left m limit next n) (ending left m limit next n) ≡ true

      Goal : Type 0
      Goal = followed ret (prefix (suc left) m limit pos at) (ending (suc left) m limit pos at) ≡ true

      second : Rest → (delta : Read) → uleb m limit pos ≡ Answer delta → (o : Outcome Read) → uleb m limit delta.next ≡ o → Goal
      second rest delta p (Refused x) q = rw (p, q)
      second rest delta p (Answer word) q =
          simp (p, q, ne_eqb (at + delta.value) ret (λ e. omega arith)) (rest (at + delta.value) word.next (omega arith))

      first : Rest → (o : Outcome Read) → uleb m limit pos ≡ o → Goal
      first rest (Refused x) p = rw p
      first rest (Answer delta) p = second rest delta p (uleb m limit delta.next) refl

  -- a delta is above 0 exactly if the offset rises by it
  rises_by : (d : ℕ) → not (eqb d 0) ≡ ltb ret (ret + d)
  rises_by d = go (eqb d 0) refl
    where
      go : (t : Bool) → eqb d 0 ≡ t → not (eqb d 0) ≡ ltb ret (ret + d)
      go true e =
          let none = eqb-true d 0 e in
          rw (e, le-ltb ret (ret + d) (omega arith))
      go false e =
          let some = eqb-false d 0 e in
          rw (e, lt-ltb ret (ret + d) (omega arith))

  -- a row that was found, with so many rows left at pos
  matched_said : (left pos word : ℕ) →
      not_refused (matched m limit left pos word)
      ≡ (next_above ret (prefix left m limit pos ret) (ending left m limit pos ret) && well_formed (word / 4) (word % 4))
  unfolding matched next_delta
  matched_said zero pos word = checked_said (word / 4) (word % 4)
  matched_said (suc left) pos word = first (uleb m limit pos) refl
    where
      Goal : Type 0
      Goal =
          not_refused (matched m limit (suc left) pos word)
          ≡ (next_above ret (prefix (suc left) m limit pos ret) (ending (suc left) m limit pos ret) && well_formed (word / 4) (word % 4))

      -- the next delta is read
      by_delta : (d : ℕ) → not_refused (if eqb d 0 then Refused EkoAmbiguousCallSite else checked (word / 4) (word % 4))
          ≡ (ltb ret (ret + d) && well_formed (word / 4) (word % 4))
      by_delta d = go (eqb d 0) refl
        where
          go : (t : Bool) → eqb d 0 ≡ t →
              not_refused (if eqb d 0 then Refused EkoAmbiguousCallSite else checked (word / 4) (word % 4))
              ≡ (ltb ret (ret + d) && well_formed (word / 4) (word % 4))
          go true e = rw (sym (rises_by d), e)
          go false e = rw (sym (rises_by d), e) (checked_said (word / 4) (word % 4))

      second : (delta : Read) → uleb m limit pos ≡ Answer delta → (o : Outcome Read) → uleb m limit delta.next ≡ o → Goal
      second delta p (Refused x) q = rw (ne_eqb (suc left) 0 (λ e. omega arith), p, q) (by_delta delta.value)
      second delta p (Answer w) q = rw (ne_eqb (suc left) 0 (λ e. omega arith), p, q) (by_delta delta.value)

      first : (o : Outcome Read) → uleb m limit pos ≡ o → Goal
      first (Refused x) p = rw (ne_eqb (suc left) 0 (λ e. omega arith), p)
      first (Answer delta) p = second delta p (uleb m limit delta.next) refl

  -- the row among so many rows at pos
  not_refused_lem : (left pos at : ℕ) →
      not_refused (rows_from left m limit pos at ret) ≡ answered_after at ret (prefix left m limit pos at) (ending left m limit pos at)
  not_refused_lem zero pos at = refl
  not_refused_lem (suc left) pos at = first (λ next n. not_refused_lem left next n) (uleb m limit pos) refl
    where
      Rest : Type 0
      Rest = (next n : ℕ) → not_refused (rows_from left m limit next n ret) ≡ answered_after n ret (prefix left m limit next n) (ending left m limit next n)

      Goal : Type 0
      Goal = not_refused (rows_from (suc left) m limit pos at ret) ≡ answered_after at ret (prefix (suc left) m limit pos at) (ending (suc left) m limit pos at)

      -- both numbers are read
      decided : Rest → (d w next : ℕ) →
          not_refused (decide m limit ret left at d w next (rows_from left m limit next (at + d) ret))
          ≡ answered_after at ret (row (at + d) (w / 4) (w % 4) ∷ prefix left m limit next (at + d)) (ending left m limit next (at + d))
      decided rest d w next = zero-delta (eqb d 0) refl
        where
          Decided : Type 0
          Decided =
              not_refused (decide m limit ret left at d w next (rows_from left m limit next (at + d) ret))
              ≡ answered_after at ret (row (at + d) (w / 4) (w % 4) ∷ prefix left m limit next (at + d)) (ending left m limit next (at + d))

          here : eqb d 0 ≡ false → at < at + d → ltb ret (at + d) ≡ false → (b : Bool) → eqb (at + d) ret ≡ b → Decided
          here z up q true r =
              let is = eqb-true (at + d) ret r in
              simp (z, q, r, lt-ltb at (at + d) up, le-ltb (at + d) ret (omega arith), le-leb ret (at + d) (omega arith))
              (matched_said left next w
              ∙ ap (λ (n : ℕ). next_above ret (prefix left m limit next n) (ending left m limit next n) && well_formed (w / 4) (w % 4)) (sym is))
          here z up q false r =
              let other = eqb-false (at + d) ret r in
              let low = ltb-false ret (at + d) q in
              simp (z, q, r, lt-ltb at (at + d) up, lt-ltb (at + d) ret (omega arith), lt-leb ret (at + d) (omega arith))
              (rest next (at + d))

          before : eqb d 0 ≡ false → at < at + d → (b : Bool) → ltb ret (at + d) ≡ b → Decided
          before z up true q =
              let less = ltb-true ret (at + d) q in
              simp (
                z,
                q,
                lt-ltb at (at + d) up,
                le-ltb (at + d) ret (omega arith),
                le-leb ret (at + d) (omega arith),
                ne_eqb (at + d) ret (λ r. omega arith),
                followed-past left next (at + d) less,
                past m limit ret left next (at + d) less,
              )
          before z up false q = here z up q (eqb (at + d) ret) refl

          zero-delta : (b : Bool) → eqb d 0 ≡ b → Decided
          zero-delta true z =
              let none = eqb-true d 0 z in
              simp (z, le-ltb at (at + d) (omega arith))
          zero-delta false z =
              let some = eqb-false d 0 z in
              before z (omega arith) (ltb ret (at + d)) refl

      second : Rest → (delta : Read) → uleb m limit pos ≡ Answer delta → (o : Outcome Read) → uleb m limit delta.next ≡ o → Goal
      second rest delta p (Refused x) q = rw (p, q)
      second rest delta p (Answer word) q = rw (p, q) (decided rest delta.value word.value word.next)

      first : Rest → (o : Outcome Read) → uleb m limit pos ≡ o → Goal
      first rest (Refused x) p = rw p
      first rest (Answer delta) p = second rest delta p (uleb m limit delta.next) refl

-- the row of a version 2 table is not refused exactly where it is answered
pub handler2_not_refused : (m : Memory) (table limit ret : ℕ) →
    not_refused (handler2 m table limit ret) ≡ answered ret (rows_of m table limit) (ending_of m table limit)
unfolding handler2 rows_of ending_of answered
handler2_not_refused m table limit ret = first (uleb m limit table) refl
  where
    first : (o : Outcome Read) → uleb m limit table ≡ o →
        not_refused (handler2 m table limit ret) ≡ answered ret (rows_of m table limit) (ending_of m table limit)
    first (Refused x) p = rw p
    first (Answer rows) p = rw p (not_refused_lem m limit ret rows.value rows.next 0)

-- an outcome that is not refused is the answer that every answer of it is
pub answer_of_lem : (o : Outcome Found) (x : Found) → not_refused o ≡ true → ((f : Found) → o ≡ Answer f → f ≡ x) → o ≡ Answer x
answer_of_lem (Refused n) x e each = let z : ◌≡◌ {A = ℕ} 0 1 = cc in absurd (omega arith)
answer_of_lem (Answer f) x e each = ap Answer (each f refl)

-- and then it is the row that the table's rows have
pub handler2-is : (m : Memory) (table limit ret : ℕ) → answered ret (rows_of m table limit) (ending_of m table limit) ≡ true →
    handler2 m table limit ret ≡ Answer (row_at ret (rows_of m table limit))
handler2-is m table limit ret e =
    answer_of_lem (handler2 m table limit ret) (row_at ret (rows_of m table limit)) (handler2_not_refused m table limit ret ∙ e)
    (λ f p. handler2-answers m table limit ret f p)
