-- Laws of short numbers in the section, and of the rows that they make. Assumes nothing.
use Rattle.std.proofs.Common.{◌≡◌, ℕ, suc, ◌+◌, ◌-◌, ◌*◌, ◌^◌, ◌≤◌, ◌<◌, List, length, get_or, refl, sym, ◌∙◌, ap, arith, lt-ltb, le-ltb, eq-eqb, ne_eqb}
use Rattle.failure.specs.Outcome.{Outcome, Answer}
use Rattle.mem.specs.Memory.{Memory}
use Rattle.mem.specs.Place.{bytes_at}
use Rattle.mem.specs.Word.{load}
use Rattle.mem.proofs.Place.{holds_when}
use Rattle.leb.specs.Reader.{Read, read_byte, read_number}
use Rattle.leb.proofs.Reader.{byte-loaded}
use Rattle.rows.specs.Row.{Found}
use Rattle.rows.specs.Handler2.{uleb, matched, rows_from}
use Rattle.rows.specs.Held.{alone}
use Rattle.rows.proofs.Held.{word_more}
use Rattle.rows.proofs.Rows2.{row-whole}

-- a byte of the section
module _ (section : List ℕ) (base end : ℕ) (inside : end ≤ length section) where
  load_one : (k : ℕ) → k < end → Answer (get_or section k 0) ≡ load (alone section base) 1 (base + k)
  unfolding load bytes_at
  load_one k h =
      rw (holds_when base (length section) (base + k) 1 (omega arith) (omega arith))
      (ap Answer (omega (arith, word_more section (base + k - base) (base + k - base + 1) 0 refl (omega arith), here)))
    where
      here : get_or section (base + k - base) 0 ≡ get_or section k 0
      here = ap (λ (j : ℕ). get_or section j 0) (omega arith)

  pub byte_in : (k pos v : ℕ) → k < end → pos ≡ base + k → v ≡ get_or section k 0 → read_byte (alone section base) (base + end) pos ≡ Answer v
  byte_in k pos v h p e =
      rw p
      (sym (byte-loaded (alone section base) (base + end) (base + k) (omega arith) (Answer v) (ap Answer e ∙ load_one k h)))

module _ (m : Memory) (limit : ℕ) where
  -- numbers of one, two and three bytes, and the position after each
  module _ (pos next a : ℕ) (p : read_byte m limit pos ≡ Answer a) where
    pub one : a < 128 → next ≡ pos + 1 → Answer (record { value = a; next = next }) ≡ uleb m limit pos
    unfolding read_number
    one h e = simp (p, lt-ltb a 128 h, lt-ltb a (2 ^ 32) (omega arith), e)

    module _ (more : 128 ≤ a) (small : a < 256) (b : ℕ) (q : read_byte m limit (pos + 1) ≡ Answer b) where
      pub two : b < 128 → next ≡ pos + 1 + 1 → Answer (record { value = a - 128 + 128 * b; next = next }) ≡ uleb m limit pos
      unfolding read_number
      two h e = simp (p, le-ltb a 128 more, q, lt-ltb b 128 h, lt-ltb (a - 128 + 128 * b) (2 ^ 32) (omega arith), e)

      pub three : 128 ≤ b → b < 256 → (d : ℕ) → read_byte m limit (pos + 1 + 1) ≡ Answer d → d < 128 → next ≡ pos + 1 + 1 + 1 →
          Answer (record { value = a - 128 + 128 * (b - 128 + 128 * d); next = next }) ≡ uleb m limit pos
      unfolding read_number
      three more' small' d r h e =
          simp (
            p,
            le-ltb a 128 more,
            q,
            le-ltb b 128 more',
            r,
            lt-ltb d 128 h,
            lt-ltb (a - 128 + 128 * (b - 128 + 128 * d)) (2 ^ 32) (omega arith),
            e,
          )

  -- a row whose two numbers are read: it is the one of ret; it comes before it
  module _ (left n pos at ret : ℕ) (e : n ≡ suc left) (delta : Read) (p : Answer delta ≡ uleb m limit pos) (word : Read)
      (q : Answer word ≡ uleb m limit delta.next) (some : delta.value ≡ 0 → ⊥) where
    counted : (o : Outcome Found) → o ≡ rows_from (suc left) m limit pos at ret → o ≡ rows_from n m limit pos at ret
    counted o r = r ∙ ap (λ (k : ℕ). rows_from k m limit pos at ret) (sym e)

    pub row_here : at + delta.value ≡ ret → matched m limit left word.next word.value ≡ rows_from n m limit pos at ret
    row_here is =
        let o = matched m limit left word.next word.value in
        counted o
        (row-whole m limit left pos at ret delta p word q o
        (simp (ne_eqb delta.value 0 some, le-ltb ret (at + delta.value) (omega arith), eq-eqb (at + delta.value) ret is)))

    pub row_on : at + delta.value ≤ ret → (at + delta.value ≡ ret → ⊥) →
        rows_from left m limit word.next (at + delta.value) ret ≡ rows_from n m limit pos at ret
    row_on within other =
        let rest = rows_from left m limit word.next (at + delta.value) ret in
        counted rest
        (row-whole m limit left pos at ret delta p word q rest
        (simp (ne_eqb delta.value 0 some, le-ltb ret (at + delta.value) within, ne_eqb (at + delta.value) ret other)))
