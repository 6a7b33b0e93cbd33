-- Laws of version 2 rows: what each number and test comes to. Assumes nothing.
use Rattle.std.proofs.Common.{◌≡◌, sym, ℕ, suc, ◌+◌, ◌/◌, ◌%◌, eq-eqb, ne_eqb}
use Rattle.failure.specs.Outcome.{Outcome, Refused, Answer}
use Rattle.failure.specs.Failure.{EkoAmbiguousCallSite}
use Rattle.mem.specs.Memory.{Memory}
use Rattle.leb.specs.Reader.{Read}
use Rattle.rows.specs.Row.{Found, checked}
use Rattle.rows.specs.Handler2.{uleb, next_delta, matched, decide, rows_from, handler2}

module _ (m : Memory) (limit : ℕ) where
  module _ (left pos word : ℕ) where
    -- a found row: the last one; the next delta is refused; it is 0; it is above 0
    pub matched-last : left ≡ 0 → (o : Outcome Found) → o ≡ checked (word / 4) (word % 4) → o ≡ matched m limit left pos word
    unfolding matched next_delta
    matched-last e o p = simp (eq-eqb left 0 e) p

    module _ (some : left ≡ 0 → ⊥) where
      pub matched_refused : (x : ℕ) → Refused x ≡ uleb m limit pos → Refused x ≡ matched m limit left pos word
      unfolding matched next_delta
      matched_refused x e = simp (ne_eqb left 0 some, sym e)

      pub matched_ambiguous : (r : Read) → Answer r ≡ uleb m limit pos → r.value ≡ 0 → Refused EkoAmbiguousCallSite ≡ matched m limit left pos word
      unfolding matched next_delta
      matched_ambiguous r e z = simp (ne_eqb left 0 some, sym e, eq-eqb r.value 0 z)

      pub matched-whole : (r : Read) → Answer r ≡ uleb m limit pos → (r.value ≡ 0 → ⊥) → (o : Outcome Found) →
          o ≡ checked (word / 4) (word % 4) → o ≡ matched m limit left pos word
      unfolding matched next_delta
      matched-whole r e z o p = simp (ne_eqb left 0 some, sym e, ne_eqb r.value 0 z) p

  module _ (left pos at ret : ℕ) where
    -- a row: its delta is refused; its word is; both are read
    pub row_first : (x : ℕ) → Refused x ≡ uleb m limit pos → Refused x ≡ rows_from (suc left) m limit pos at ret
    row_first x e = rw (sym e)

    module _ (delta : Read) (first : Answer delta ≡ uleb m limit pos) where
      pub row-second : (x : ℕ) → Refused x ≡ uleb m limit delta.next → Refused x ≡ rows_from (suc left) m limit pos at ret
      row-second x e = rw (sym first, sym e)

      pub row-whole : (word : Read) → Answer word ≡ uleb m limit delta.next → (o : Outcome Found) →
          o ≡ decide m limit ret left at delta.value word.value word.next (rows_from left m limit word.next (at + delta.value) ret) →
          o ≡ rows_from (suc left) m limit pos at ret
      row-whole word e o p = rw (sym first, sym e) p

  -- the table's count is refused, or read
  pub rows_refused : (table ret x : ℕ) → Refused x ≡ uleb m limit table → Refused x ≡ handler2 m table limit ret
  unfolding handler2
  rows_refused table ret x e = rw (sym e)

  pub rows-read : (table ret : ℕ) (r : Read) → Answer r ≡ uleb m limit table → (o : Outcome Found) →
      o ≡ rows_from r.value m limit r.next 0 ret → o ≡ handler2 m table limit ret
  unfolding handler2
  rows-read table ret r e o p = rw (sym e) p
