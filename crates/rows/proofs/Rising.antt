-- A version 1 table that is whole and rises strictly: `handler` answers the row of an offset, or none where there is none.
-- Assumes nothing.
use Rattle.std.proofs.Common.{◌≡◌, refl, sym, ◌∙◌, ap, subst, Bool, true, false, ⊎_elim, ℕ, zero, suc, ◌+◌, ◌-◌, ◌/◌, ◌≤◌, ◌<◌, lt_trans, arith, eqb, ltb, eq-eqb, ne_eqb, lt-ltb, le-ltb, le-leb, eqb-true, ltb-true, ltb-false}
use borrow.Author.Tests.{lt-leb, eqb-false}
use Rattle.failure.specs.Outcome.{Answer}
use Rattle.mem.specs.Memory.{Memory}
use Rattle.mem.specs.Word.{load}
use Rattle.mem.proofs.Tests.{lt_or_le}
use Rattle.rows.specs.Row.{None, checked}
use Rattle.rows.specs.Handler.{Entry, entry_at, left_breaks, right_breaks, judged, halve, handler}
use Rattle.rows.proofs.Entries.{left_none, left_seen, right_none, right_seen, judged-whole}

-- the table at an address has count rows, which can all be read, row i being `row i`, and their offsets rise strictly
pub record Rising (m : Memory) (table count : ℕ) (row : ℕ → Entry) : Type 0 where
  pub counted : load m 4 table ≡ Answer count
  pub each : (i : ℕ) → i < count → entry_at m table i ≡ Answer (row i)
  pub rises : (i : ℕ) → i + 1 < count → (row i).offset < (row (i + 1)).offset

module _ (m : Memory) (table count : ℕ) (row : ℕ → Entry) (t : Rising m table count row) where
  -- a later row has a higher offset
  rises_by : (d i : ℕ) → i + 1 + d < count → (row i).offset < (row (i + 1 + d)).offset
  rises_by zero i h =
      let e : i + 1 ≡ i + 1 + 0 = omega arith in
      subst (λ (j : ℕ). (row i).offset < (row j).offset) e (t.rises i (omega arith))
  rises_by (suc d) i h =
      let e : i + 1 + d + 1 ≡ i + 1 + suc d = omega arith in
      subst (λ (j : ℕ). (row i).offset < (row j).offset) e
      (lt_trans (rises_by d i (omega arith)) (t.rises (i + 1 + d) (omega arith)))

  rising : (i j : ℕ) → i < j → j < count → (row i).offset < (row j).offset
  rising i j l h =
      let e : i + 1 + (j - (i + 1)) ≡ j = omega arith in
      subst (λ (k : ℕ). (row i).offset < (row k).offset) e (rises_by (j - (i + 1)) i (omega arith))

  -- its neighbours keep the order, so a row that was found is checked
  judged_in_order : (i : ℕ) → i < count → judged m table count i (row i) ≡ checked (row i).pad (row i).action
  judged_in_order i h =
      sym
      (judged-whole m table i count (row i) (left (eqb i 0) refl) (right (ltb (i + 1) count) refl)
      (checked (row i).pad (row i).action) refl)
    where
      left : (b : Bool) → eqb i 0 ≡ b → Answer false ≡ left_breaks m table i (row i).offset
      left true e = left_none m table i (row i).offset (eqb-true i 0 e)
      left false e =
          let other = eqb-false i 0 e in
          ap Answer (sym (lt-leb (row i).offset (row (i - 1)).offset (rising (i - 1) i (omega arith) h)))
          ∙ left_seen m table i (row i).offset (row (i - 1)) other (sym (t.each (i - 1) (omega arith)))

      right : (b : Bool) → ltb (i + 1) count ≡ b → Answer false ≡ right_breaks m table count i (row i).offset
      right true e =
          let more = ltb-true (i + 1) count e in
          ap Answer (sym (lt-leb (row (i + 1)).offset (row i).offset (t.rises i more)))
          ∙ right_seen m table i count (row i).offset (row (i + 1)) more (sym (t.each (i + 1) more))
      right false e = right_none m table i count (row i).offset (ltb-false (i + 1) count e)

  -- halving between lo and hi comes to the row that lies there
  there_in : (i : ℕ) → i < count → (k lo hi : ℕ) → lo ≤ i → i < hi → hi ≤ count → hi - lo ≤ k →
      halve k m table count (row i).offset lo hi ≡ judged m table count i (row i)
  there_in i h zero lo hi l r w n = absurd (omega arith)
  there_in i h (suc k) lo hi l r w n =
      let mid = lo + (hi - lo) / 2 in
      simp (lt-leb hi lo (omega arith), t.each mid (omega arith))
      (⊎_elim
      (λ (below : mid < i).
      let less = rising mid i below h in
      simp (ne_eqb (row mid).offset (row i).offset (λ e. omega arith), lt-ltb (row mid).offset (row i).offset less)
      (there_in i h k (mid + 1) hi (omega arith) r w (omega arith)))
      (λ (above : i ≤ mid).
      ⊎_elim
      (λ (beyond : i < mid).
      let more = rising i mid beyond (omega arith) in
      simp (ne_eqb (row mid).offset (row i).offset (λ e. omega arith), le-ltb (row mid).offset (row i).offset (omega arith))
      (there_in i h k lo mid l beyond (omega arith) (omega arith)))
      (λ (at : mid ≤ i).
      let is : mid ≡ i = omega arith in
      simp (eq-eqb (row mid).offset (row i).offset (ap (λ (j : ℕ). (row j).offset) is))
      (ap (λ (j : ℕ). judged m table count j (row j)) is))
      (lt_or_le i mid))
      (lt_or_le mid i))

  -- the row of an offset is answered
  pub there : (i : ℕ) → i < count → handler m table (row i).offset ≡ checked (row i).pad (row i).action
  unfolding handler
  there i h =
      rw t.counted (there_in i h count 0 count (omega arith) h (omega arith) (omega arith) ∙ judged_in_order i h)

  nowhere_in : (ret : ℕ) → ((i : ℕ) → i < count → (row i).offset ≡ ret → ⊥) → (k lo hi : ℕ) → hi ≤ count →
      halve k m table count ret lo hi ≡ Answer None
  nowhere_in ret none zero lo hi w = refl
  nowhere_in ret none (suc k) lo hi w =
      let mid = lo + (hi - lo) / 2 in
      ⊎_elim
      (λ (some : lo < hi).
      ⊎_elim
      (λ (less : (row mid).offset < ret).
      simp (
        lt-leb hi lo some,
        t.each mid (omega arith),
        ne_eqb (row mid).offset ret (none mid (omega arith)),
        lt-ltb (row mid).offset ret less,
      )
      (nowhere_in ret none k (mid + 1) hi w))
      (λ (more : ret ≤ (row mid).offset).
      simp (
        lt-leb hi lo some,
        t.each mid (omega arith),
        ne_eqb (row mid).offset ret (none mid (omega arith)),
        le-ltb (row mid).offset ret more,
      )
      (nowhere_in ret none k lo mid (omega arith)))
      (lt_or_le (row mid).offset ret))
      (λ (over : hi ≤ lo). simp (le-leb hi lo over))
      (lt_or_le lo hi)

  -- an offset that no row has is answered with none
  pub nowhere : (ret : ℕ) → ((i : ℕ) → i < count → (row i).offset ≡ ret → ⊥) → handler m table ret ≡ Answer None
  unfolding handler
  nowhere ret none = rw t.counted (nowhere_in ret none count 0 count (omega arith))
