-- A version 2 table is refused with 30 and 31 exactly where specs/Faults.antt says. Assumes nothing.
use Rattle.std.proofs.Common.{if◌then◌else◌, ◌≡◌, refl, sym, ◌∙◌, ap, Bool, true, false, ◌≢◌, ℕ, zero, suc, ◌+◌, ◌/◌, ◌%◌, arith, eqb, ltb, eq-eqb, ne_eqb, le-ltb, eqb-true, ltb-false}
use borrow.Author.Tests.{eqb-false}
use Rattle.failure.specs.Outcome.{Outcome, Refused, Answer, ◌>>=◌}
use Rattle.failure.specs.Failure.{BadEkoRecord, EkoAmbiguousCallSite}
use Rattle.mem.specs.Memory.{Memory, Bytes}
use Rattle.leb.specs.Reader.{Read, read_number}
use Rattle.leb.specs.Faults.{NumberFaults}
use Rattle.leb.proofs.Faults.{number_faults}
use Rattle.rows.specs.Row.{None, Pad, valid, checked}
use Rattle.rows.specs.Handler2.{uleb, next_delta, matched, decide, rows_from, handler2}
use Rattle.rows.specs.Faults.{Comes, first, later, Reads, count, delta, word, peeked, TableFaults, RowFaults}
use Rattle.rows.proofs.Rows2.{row_first, row-second, row-whole, matched_refused, rows_refused, rows-read}

module _ (m : Memory) (table limit ret : ℕ) where
  -- the search, from where it comes to
  from_here : (left pos at : ℕ) → Comes m table limit ret left pos at → handler2 m table limit ret ≡ rows_from left m limit pos at ret
  from_here left pos at (first c e) = sym (rows-read m limit table ret c (sym e) _ refl)
  from_here left pos at (later l p a c d e w f some before) =
      from_here (suc l) p a c
      ∙ sym (row-whole m limit l p a ret d (sym e) w (sym f) _ on)
    where
      on : rows_from l m limit w.next (a + d.value) ret
          ≡ decide m limit ret l a d.value w.value w.next (rows_from l m limit w.next (a + d.value) ret)
      on =
          simp (
            ne_eqb d.value 0 some,
            le-ltb ret (a + d.value) (omega arith),
            ne_eqb (a + d.value) ret (λ q. omega arith),
          )

  -- a number that is read and refused
  reads_refused : (n q : ℕ) → Reads m table limit ret q → read_number m limit q ≡ Refused n → handler2 m table limit ret ≡ Refused n
  reads_refused n q count e = sym (rows_refused m limit table ret n (sym e))
  reads_refused n q (delta left pos at c) e = from_here (suc left) pos at c ∙ sym (row_first m limit left pos at ret n (sym e))
  reads_refused n q (word left pos at c d f) e =
      from_here (suc left) pos at c
      ∙ sym (row-second m limit left pos at ret d (sym f) n (sym e))
  reads_refused n q (peeked left pos at c d f w g some here) e =
      from_here (suc (suc left)) pos at c
      ∙ sym (row-whole m limit (suc left) pos at ret d (sym f) w (sym g) (Refused n) matches)
    where
      next : Refused n ≡ matched m limit (suc left) w.next w.value
      next = matched_refused m limit (suc left) w.next w.value (λ z. omega arith) n (sym e)

      matches : Refused n
          ≡ decide m limit ret (suc left) at d.value w.value w.next (rows_from (suc left) m limit w.next (at + d.value) ret)
      matches =
          simp (
            ne_eqb d.value 0 some,
            le-ltb ret (at + d.value) (omega arith),
            eq-eqb (at + d.value) ret here,
          )
          next

  -- and the other way round, for a number that is neither 18 nor 24
  module _ (n : ℕ) (not-18 : BadEkoRecord ≡ n → ⊥) (not-24 : EkoAmbiguousCallSite ≡ n → ⊥) where
    abbrev Unread : Type 0
    Unread = (q : ℕ) × Reads m table limit ret q × (read_number m limit q ≡ Refused n)

    one : {A : Type 0} (k : ℕ) → ◌≡◌ {A = Outcome A} (Refused k) (Refused n) → k ≡ n
    one k e = cc

    -- a number at q that is refused
    bears : (q k : ℕ) → Reads m table limit ret q → uleb m limit q ≡ Refused k → k ≡ n → Unread
    bears q k r e p = (q, r, e ∙ ap Refused p)

    checked_not : (pad action : ℕ) → checked pad action ≡ Refused n → ⊥
    unfolding checked
    checked_not pad action = go (valid pad action)
      where
        go : (t : Bool) → (if t then Answer (Pad pad action) else Refused BadEkoRecord) ≡ Refused n → ⊥
        go true e = let z : ◌≡◌ {A = ℕ} 0 1 = cc in omega arith
        go false e = not-18 (one BadEkoRecord e)

    -- the next row's delta is peeked
    peek : (left pos w : ℕ) →
        matched m limit (suc left) pos w
        ≡ ((uleb m limit pos >>= λ v. Answer v.value) >>= λ v. (if eqb v 0 then Refused EkoAmbiguousCallSite else checked (w / 4) (w % 4)))
    unfolding matched next_delta
    peek left pos w = simp (ne_eqb (suc left) 0 (λ z. omega arith))

    matched_unread : (left pos at : ℕ) → Comes m table limit ret (suc left) pos at → (d : Read) → read_number m limit pos ≡ Answer d →
        (w : Read) → read_number m limit d.next ≡ Answer w → d.value ≢ 0 → at + d.value ≡ ret →
        matched m limit left w.next w.value ≡ Refused n → Unread
    unfolding matched next_delta
    matched_unread zero pos at c d f w g some here = λ e. absurd (checked_not (w.value / 4) (w.value % 4) e)
    matched_unread (suc left) pos at c d f w g some here =
        λ e. go (uleb m limit w.next) refl (sym (peek left w.next w.value) ∙ e)
      where
        settled : (v : Read) (t : Bool) →
            (if t then Refused EkoAmbiguousCallSite else checked (w.value / 4) (w.value % 4)) ≡ Refused n → Unread
        settled v true e = absurd (not-24 (one EkoAmbiguousCallSite e))
        settled v false e = absurd (checked_not (w.value / 4) (w.value % 4) e)

        go : (x : Outcome Read) → uleb m limit w.next ≡ x →
            ((x >>= λ v. Answer v.value) >>= λ v. (if eqb v 0 then Refused EkoAmbiguousCallSite else checked (w.value / 4) (w.value % 4)))
            ≡ Refused n →
            Unread
        go (Refused k) q e = bears w.next k (peeked left pos at c d f w g some here) q (one k e)
        go (Answer v) q e = settled v (eqb v.value 0) e

    rows_unread : (left pos at : ℕ) → Comes m table limit ret left pos at → rows_from left m limit pos at ret ≡ Refused n → Unread
    rows_unread zero pos at c = λ e. (let z : ◌≡◌ {A = ℕ} 0 1 = cc in absurd (omega arith))
    rows_unread (suc left) pos at c = read (λ q b k e. rows_unread left q b k e) (uleb m limit pos) refl
      where
        decided : ((q b : ℕ) → Comes m table limit ret left q b → rows_from left m limit q b ret ≡ Refused n → Unread) →
            (d w : Read) → read_number m limit pos ≡ Answer d → read_number m limit d.next ≡ Answer w → (none past here : Bool) →
            eqb d.value 0 ≡ none → ltb ret (at + d.value) ≡ past → eqb (at + d.value) ret ≡ here →
            (if none then Refused EkoAmbiguousCallSite
            else if past then Answer None
            else if here then matched m limit left w.next w.value
            else rows_from left m limit w.next (at + d.value) ret)
            ≡ Refused n →
            Unread
        decided on d w f g true past here p q r e = absurd (not-24 (one EkoAmbiguousCallSite e))
        decided on d w f g false true here p q r e = let z : ◌≡◌ {A = ℕ} 0 1 = cc in absurd (omega arith)
        decided on d w f g false false true p q r e =
            matched_unread left pos at c d f w g (eqb-false d.value 0 p) (eqb-true (at + d.value) ret r) e
        decided on d w f g false false false p q r e =
            let some = eqb-false d.value 0 p in
            let low = ltb-false ret (at + d.value) q in
            let other = eqb-false (at + d.value) ret r in
            on w.next (at + d.value) (later left pos at c d f w g some (omega arith)) e

        second : ((q b : ℕ) → Comes m table limit ret left q b → rows_from left m limit q b ret ≡ Refused n → Unread) →
            (d : Read) → read_number m limit pos ≡ Answer d → (x : Outcome Read) → uleb m limit d.next ≡ x →
            (x >>= λ w. decide m limit ret left at d.value w.value w.next (rows_from left m limit w.next (at + d.value) ret))
            ≡ Refused n →
            Unread
        second on d f (Refused k) q e = bears d.next k (word left pos at c d f) q (one k e)
        second on d f (Answer w) q e =
            decided on d w f q (eqb d.value 0) (ltb ret (at + d.value)) (eqb (at + d.value) ret) refl refl refl e

        read : ((q b : ℕ) → Comes m table limit ret left q b → rows_from left m limit q b ret ≡ Refused n → Unread) →
            (x : Outcome Read) → uleb m limit pos ≡ x →
            (x >>= λ d. (uleb m limit d.next >>= λ w.
            decide m limit ret left at d.value w.value w.next (rows_from left m limit w.next (at + d.value) ret)))
            ≡ Refused n →
            Unread
        read on (Refused k) q e = bears pos k (delta left pos at c) q (one k e)
        read on (Answer d) q e = second on d q (uleb m limit d.next) refl e

    table_unread : handler2 m table limit ret ≡ Refused n → Unread
    unfolding handler2
    table_unread = go (uleb m limit table) refl
      where
        go : (x : Outcome Read) → uleb m limit table ≡ x →
            (x >>= λ r. rows_from r.value m limit r.next 0 ret) ≡ Refused n → Unread
        go (Refused k) q e = bears table k count q (one k e)
        go (Answer r) q e = rows_unread r.value r.next 0 (first r q) e

  module _ (holds : Bytes m) where
    faults : (q : ℕ) → NumberFaults m limit q
    faults q = number_faults m limit q holds

    faults_of_table : TableFaults m table limit ret
    faults_of_table =
        record {
          truncated = (
            λ e. (let r = table_unread 30 (λ p. omega arith) (λ p. omega arith) e in (r.0, r.1, (faults r.0).truncated.0 r.2)),
            λ x. reads_refused 30 x.0 x.1 ((faults x.0).truncated.1 x.2),
          );
          bad_uleb = (
            λ e. (let r = table_unread 31 (λ p. omega arith) (λ p. omega arith) e in (r.0, r.1, (faults r.0).bad_uleb.0 r.2)),
            λ x. reads_refused 31 x.0 x.1 ((faults x.0).bad_uleb.1 x.2),
          );
        }

pub table_faults : RowFaults
table_faults = λ m holds table limit ret. faults_of_table m table limit ret holds
