-- Laws of a table that lies whole in the section. Assumes nothing.
use Rattle.std.proofs.Common.{if◌then◌else◌, ◌≡◌, refl, sym, ◌∙◌, ap, subst, Bool, true, false, List, [], ◌∷◌, ℕ, suc, ◌+◌, ◌-◌, ◌*◌, ◌/◌, ◌^◌, ◌≤◌, ◌<◌, mod-eq_of_lt, add-one, arith, eqb, ltb, leb, length, get_or, take, drop, drop-cons, eqb-true, ltb-true, ltb-false, leb-true, leb-false, lt-ltb, le-ltb}
use mir.Val.{bool_byte}
use borrow.Author.Tests.{eqb-false, lt-leb}
use Rattle.failure.specs.Outcome.{Outcome, Answer}
use Rattle.mem.specs.Memory.{Memory}
use Rattle.mem.specs.Place.{bytes_at}
use Rattle.mem.specs.Word.{little_endian, word_at, load}
use Rattle.mem.specs.Wrapping.{sum}
use Rattle.mem.proofs.Place.{holds_when}
use Rattle.rows.specs.Row.{Found}
use Rattle.rows.specs.Handler.{Entry, row, entry_at, left_breaks, right_breaks, judged, handler}
use Rattle.rows.specs.Held.{alone, Whole, Held, number, RowAt, judged_at}
use Rattle.rows.proofs.Entries.{entry_whole, left_none, left_seen, right_none, right_seen}
use Rattle.rows.proofs.Section.{handler-same}
use Rattle.rows.proofs.Halving.{Left, begin, turn_found, turn_above, turn_below}

-- below the next number is not above the number
ltb_next : (a v : ℕ) → ltb a (v + 1 - 0) ≡ leb a v
ltb_next a v = go (leb a v) refl
  where
    go : (t : Bool) → leb a v ≡ t → ltb a (v + 1 - 0) ≡ t
    go true e = lt-ltb a (v + 1 - 0) (omega (arith, leb-true a v e))
    go false e = le-ltb a (v + 1 - 0) (omega (arith, leb-false a v e))

-- the number in some bytes is the first one and 256 times the number in the others
pub word_more : (b : List ℕ) (k j n : ℕ) → j ≡ k + 1 → k < length b →
    little_endian (take (suc n) (drop k b)) ≡ get_or b k 0 + 256 * little_endian (take n (drop j b))
word_more b k j n e h = rw (e, add-one, drop-cons b k 0)

-- what is said of a row that is read holds of the row judged where it stands
pub judged_there : (m : Memory) (table count i : ℕ) (e : Entry) → Answer e ≡ entry_at m table i → (o : Outcome Found) →
    o ≡ judged m table count i e → o ≡ judged_at m table count i
unfolding judged_at
judged_there m table count i e p o q = q ∙ rw (sym p)

module _ (section : List ℕ) (base : ℕ) where
  -- the word at an address in the section
  abbrev pub word : ℕ → ℕ
  word a = little_endian (take 4 (drop (a - base) section))

  pub load_in : (a : ℕ) → base ≤ a → a + 4 ≤ base + length section → Answer (word a) ≡ load (alone section base) 4 a
  unfolding load bytes_at
  load_in a l h = rw (holds_when base (length section) a 4 l h)

  -- the word at an offset is the one at its address
  pub read_at : (k v a : ℕ) → v ≡ word_at section k → base + k ≡ a → k + 4 ≤ length section → Answer v ≡ load (alone section base) 4 a
  read_at k v a p q h =
      let e : k ≡ a - base = omega arith in
      ap Answer (p ∙ ap (word_at section) e) ∙ load_in a (omega arith) (omega arith)

  -- the test that a table lies whole in the section, which has so many bytes from its address on
  pub held : (table count : ℕ) → base + length section ≤ 2 ^ 64 → base ≤ table → count ≡ word_at section (table - base) →
      count < 2 ^ 32 → (rest : ℕ) → table + rest ≡ base + length section → leb (4 + 12 * count) rest ≡ true → Held section base table
  held table count low above is few rest e fits =
      let whole : 4 + 12 * count ≤ rest = leb-true (4 + 12 * count) rest fits in
      record {
        count = count;
        counted = read_at (table - base) count table is (omega arith) (omega arith);
        whole = record { low = low; above = above; whole = omega arith; few = few };
      }

  -- as many rows as the table says
  pub whole_of : (table : ℕ) → Held section base table → (count : ℕ) → Answer count ≡ load (alone section base) 4 table →
      Whole section base table count
  whole_of table h count e =
      let q : Answer h.count ≡ Answer count = h.counted ∙ sym e in
      let same : h.count ≡ count = cc in
      subst (λ (k : ℕ). Whole section base table k) same h.whole

  -- the row is the same whatever else is lent
  pub handler_lent : (table : ℕ) → Held section base table → (rest : Memory) (ret : ℕ) →
      handler (alone section base) table ret ≡ handler (record { base = base; bytes = section } ∷ rest) table ret
  handler_lent table h rest ret =
      let w = h.whole in
      sym (handler-same (record { base = base; bytes = section }) rest [] table h.count w.above w.whole w.low ret (sym h.counted))

  module _ (table count : ℕ) (w : Whole section base table count) where
    -- a word of row i
    at : (d i : ℕ) → i < count → d ≤ 12 → table + d + 12 * i ≡ sum table (d + 12 * i)
    at d i h l =
        let e : table + d + 12 * i ≡ table + (d + 12 * i) = omega arith in
        e ∙ sym (mod-eq_of_lt (omega (arith, w.low, w.whole)))

    there : (d i : ℕ) → i < count → d ≤ 12 → Answer (word (table + d + 12 * i)) ≡ load (alone section base) 4 (table + d + 12 * i)
    there d i h l = load_in (table + d + 12 * i) (omega (arith, w.above)) (omega (arith, w.whole))

    -- row i, from its three words, or from its first
    pub entry_in : (i offset pad action : ℕ) → i < count → Answer offset ≡ load (alone section base) 4 (table + 4 + 12 * i) →
        Answer pad ≡ load (alone section base) 4 (table + 8 + 12 * i) → Answer action ≡ load (alone section base) 4 (table + 12 + 12 * i) →
        Answer (row offset pad action) ≡ entry_at (alone section base) table i
    entry_in i offset pad action h p q r =
        entry_whole (alone section base) table i (table + 4 + 12 * i) offset (at 4 i h (omega arith)) p (table + 8 + 12 * i) pad (at 8 i h (omega arith)) q
        (table + 12 + 12 * i) action (at 12 i h (omega arith)) r

    abbrev pub entry_of : ℕ → ℕ → Entry
    entry_of i offset = row offset (word (table + 8 + 12 * i)) (word (table + 12 + 12 * i))

    pub entry_there : (i offset : ℕ) → i < count → Answer offset ≡ load (alone section base) 4 (table + 4 + 12 * i) →
        Answer (entry_of i offset) ≡ entry_at (alone section base) table i
    entry_there i offset h p =
        entry_in i offset (word (table + 8 + 12 * i)) (word (table + 12 + 12 * i)) h p (there 8 i h (omega arith)) (there 12 i h (omega arith))

    -- the words of the row at offset k, and of its neighbours
    module _ (k offset : ℕ) (r : RowAt section base table count k offset) where
      abbrev i : ℕ
      i = number base table k

      -- a word so many bytes from offset k, in row j
      near : (j d l v : ℕ) → j < count → d ≤ 12 → base + l ≡ table + d + 12 * j → v ≡ word_at section l →
          Answer v ≡ load (alone section base) 4 (table + d + 12 * j)
      near j d l v h f e p = read_at l v (table + d + 12 * j) p e (omega (arith, w.whole))

      pub here : Answer (entry_of i offset) ≡ entry_at (alone section base) table i
      here = entry_there i offset r.inside (near i 4 k offset r.inside (omega arith) r.place r.read)

      pub row_here : (pad action : ℕ) → pad ≡ word_at section (k + 4) → action ≡ word_at section (k + 8) →
          Answer (row offset pad action) ≡ entry_at (alone section base) table i
      row_here pad action p q =
          entry_in i offset pad action r.inside (near i 4 k offset r.inside (omega arith) r.place r.read)
          (near i 8 (k + 4) pad r.inside (omega arith) (omega (arith, r.place)) p)
          (near i 12 (k + 8) action r.inside (omega arith) (omega (arith, r.place)) q)

      -- row j beside it
      beside : (j l v : ℕ) → j < count → base + l ≡ table + 4 + 12 * j → v ≡ word_at section l →
          Answer (entry_of j v) ≡ entry_at (alone section base) table j
      beside j l v h e p = entry_there j v h (near j 4 l v h (omega arith) e p)

      left_none_in : k ≡ table - base + 4 → Answer false ≡ left_breaks (alone section base) table i offset
      left_none_in e = left_none (alone section base) table i offset (omega (arith, w.above, r.place))

      left_in : (k ≡ table - base + 4 → ⊥) → (v : ℕ) → v ≡ word_at section (k - 12) →
          Answer (leb offset v) ≡ left_breaks (alone section base) table i offset
      left_in n v p =
          let some : i ≡ 0 → ⊥ = λ z. n (omega (arith, w.above, r.place)) in
          left_seen (alone section base) table i offset (entry_of (i - 1) v) some
          (beside (i - 1) (k - 12) v (omega (arith, r.inside)) (omega (arith, w.above, r.place)) p)

      -- the first row is compared with itself
      pub left_said : (t : Bool) → eqb k (table - base + 4) ≡ t → (v : ℕ) → v ≡ word_at section (k + 12 * bool_byte t - 12) →
          Answer (ltb offset (v + 1 - bool_byte t)) ≡ left_breaks (alone section base) table i offset
      left_said true e v p =
          let place : k + 12 * 1 - 12 ≡ k = omega arith in
          let same : v ≡ offset = p ∙ ap (word_at section) place ∙ sym r.read in
          ap (λ (b : Bool). Answer b) (le-ltb offset (v + 1 - 1) (omega arith)) ∙ left_none_in (eqb-true k (table - base + 4) e)
      left_said false e v p =
          let place : k + 12 * 0 - 12 ≡ k - 12 = omega arith in
          let there : v ≡ word_at section (k - 12) = p ∙ ap (word_at section) place in
          ap (λ (b : Bool). Answer b) (ltb_next offset v) ∙ left_in (eqb-false k (table - base + 4) e) v there

      right_none_in : k + 12 ≡ table - base + 4 + 12 * count → Answer false ≡ right_breaks (alone section base) table count i offset
      right_none_in e = right_none (alone section base) table i count offset (omega (arith, w.above, r.place))

      right_there : (k + 12 ≡ table - base + 4 + 12 * count → ⊥) → k + 12 + 4 ≤ length section
      right_there n = omega (arith, r.place, r.inside, w.above, w.whole, n)

      right_in : (k + 12 ≡ table - base + 4 + 12 * count → ⊥) → (v : ℕ) → v ≡ word_at section (k + 12) →
          Answer (leb v offset) ≡ right_breaks (alone section base) table count i offset
      right_in n v p = go (ltb (i + 1) count) refl
        where
          go : (t : Bool) → ltb (i + 1) count ≡ t → Answer (leb v offset) ≡ right_breaks (alone section base) table count i offset
          go true t =
              let h = ltb-true (i + 1) count t in
              right_seen (alone section base) table i count offset (entry_of (i + 1) v) h
              (beside (i + 1) (k + 12) v h (omega (arith, r.place)) p)
          go false t = absurd (n (omega (arith, ltb-false (i + 1) count t, r.inside, w.above, r.place)))

      -- the last row is compared with itself
      pub right_said : (t : Bool) → eqb (k + 12) (table - base + 4 + 12 * count) ≡ t → (v : ℕ) →
          v ≡ word_at section (k + 12 - 12 * bool_byte t) →
          Answer (leb (v + bool_byte t) offset) ≡ right_breaks (alone section base) table count i offset
      right_said true e v p =
          let place : k + 12 - 12 * 1 ≡ k = omega arith in
          let same : v ≡ offset = p ∙ ap (word_at section) place ∙ sym r.read in
          ap (λ (b : Bool). Answer b) (lt-leb (v + 1) offset (omega arith)) ∙ right_none_in (eqb-true (k + 12) (table - base + 4 + 12 * count) e)
      right_said false e v p =
          let place : k + 12 - 12 * 0 ≡ k + 12 = omega arith in
          let there : v ≡ word_at section (k + 12) = p ∙ ap (word_at section) place in
          let plain : v + 0 ≡ v = omega arith in
          ap (λ (x : ℕ). Answer (leb x offset)) plain ∙ right_in (eqb-false (k + 12) (table - base + 4 + 12 * count) e) v there

-- n rows are left, the first of them at offset at
pub record LeftIn (section : List ℕ) (base table count ret at n : ℕ) : Type 0 where
  pub whole : Whole section base table count
  pub lo : ℕ
  pub place : base + at ≡ table + 4 + 12 * lo
  pub left : Left (alone section base) table count ret lo (lo + n)

module _ (section : List ℕ) (base table ret count : ℕ) where
  -- all rows are left at first
  pub begin_in : Held section base table → count ≡ word_at section (table - base) →
      LeftIn section base table count ret (table - base + 4) count
  begin_in h e =
      let w = h.whole in
      let counted = read_at section base (table - base) count table e (omega (arith, w.above)) (omega (arith, w.above, w.whole)) in
      let all : count ≡ 0 + count = omega arith in
      record {
        whole = whole_of section base table h count counted;
        lo = 0;
        place = omega (arith, w.above);
        left = subst (λ (k : ℕ). Left (alone section base) table count ret 0 k) all (begin (alone section base) table ret count counted);
      }

  -- a turn: the row in the middle
  module _ (at n : ℕ) (s : LeftIn section base table count ret at n) (some : 0 < n)
      (offset : ℕ) (p : offset ≡ word_at section (at + 12 * (n / 2))) where
    mid : number base table (at + 12 * (n / 2)) ≡ s.lo + n / 2
    mid = omega (arith, s.place)

    middle : s.lo + n / 2 ≡ s.lo + (s.lo + n - s.lo) / 2
    middle = omega arith

    pub row-middle : RowAt section base table count (at + 12 * (n / 2)) offset
    row-middle =
        record {
          whole = s.whole;
          inside = omega (arith, mid, s.left.within);
          place = omega (arith, mid, s.place);
          read = p;
        }

    abbrev it : Entry
    it = entry_of section base table count s.whole (number base table (at + 12 * (n / 2))) offset

    read : Answer it ≡ entry_at (alone section base) table (s.lo + (s.lo + n - s.lo) / 2)
    read =
        here section base table count s.whole (at + 12 * (n / 2)) offset row-middle
        ∙ ap (λ (k : ℕ). entry_at (alone section base) table k) (mid ∙ middle)

    pub turn_found_in : offset ≡ ret → (o : Outcome Found) →
        o ≡ judged_at (alone section base) table count (number base table (at + 12 * (n / 2))) → o ≡ handler (alone section base) table ret
    unfolding judged_at
    turn_found_in is o q =
        turn_found (alone section base) table ret count s.lo (s.lo + n) s.left (omega arith) it read is o
        (q ∙ ap (λ (k : ℕ). judged_at (alone section base) table count k) (mid ∙ middle) ∙ rw (sym read))

    module _ (other : offset ≡ ret → ⊥) where
      -- the rows left from lo to hi, by where the first of them stands and how many they are
      left_at : (l h next m : ℕ) → base + next ≡ table + 4 + 12 * l → h ≡ l + m → Left (alone section base) table count ret l h →
          LeftIn section base table count ret next m
      left_at l h next m e f x =
          record { whole = s.whole; lo = l; place = e; left = subst (λ (k : ℕ). Left (alone section base) table count ret l k) f x }

      pub turn_in : (down : Bool) → ltb ret offset ≡ down → (next : ℕ) → next ≡ (if down then at else at + 12 * (n / 2) + 12) →
          LeftIn section base table count ret next ((n - 1 + bool_byte (ltb ret offset)) / 2)
      turn_in true t next e =
          rw t
          (left_at s.lo (s.lo + (s.lo + n - s.lo) / 2) next ((n - 1 + 1) / 2) (omega (arith, s.place)) (omega arith)
          (turn_below (alone section base) table ret count s.lo (s.lo + n) s.left (omega arith) it read other (omega (arith, ltb-true ret offset t))))
      turn_in false t next e =
          rw t
          (left_at (s.lo + (s.lo + n - s.lo) / 2 + 1) (s.lo + n) next ((n - 1 + 0) / 2) (omega (arith, s.place)) (omega arith)
          (turn_above (alone section base) table ret count s.lo (s.lo + n) s.left (omega arith) it read other (omega (arith, ltb-false ret offset t, other))))
