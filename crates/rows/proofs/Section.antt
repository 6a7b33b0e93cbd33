-- A row table that lies in the section has the same rows whatever else is lent. Assumes nothing.
use Rattle.std.proofs.Common.{if◌then◌else◌, ◌≡◌, refl, Bool, true, false, ◌∷◌, ℕ, zero, suc, ◌+◌, ◌-◌, ◌*◌, ◌/◌, ◌^◌, ◌≤◌, ◌<◌, mod-eq_of_lt, arith, leb, ltb, eqb, leb-false, ltb-true}
use Rattle.failure.specs.Outcome.{Outcome, Refused, Answer, ◌>>=◌}
use Rattle.mem.specs.Memory.{Region, Memory, size}
use Rattle.mem.specs.Place.{bytes_at}
use Rattle.mem.specs.Word.{load}
use Rattle.mem.specs.Wrapping.{sum}
use Rattle.mem.proofs.Place.{holds_when}
use Rattle.leb.specs.Reader.{Read}
use Rattle.leb.proofs.Numbers.{small}
use Rattle.leb.proofs.Section.{uleb-same}
use Rattle.rows.specs.Handler.{Entry, entry_at, left_breaks, right_breaks, judged, halve, handler}
use Rattle.rows.specs.Handler2.{uleb, next_delta, matched, decide, rows_from, handler2}

module _ (r : Region) (m m' : Memory) where
  -- a word of the region
  load_same : (n a : ℕ) → r.base ≤ a → a + n ≤ r.base + size r → load (r ∷ m) n a ≡ load (r ∷ m') n a
  unfolding load bytes_at
  load_same n a l h = rw (holds_when r.base (size r) a n l h)

  -- version 2: table and limit in the region
  module _ (limit : ℕ) (inside : limit ≤ r.base + size r) where
    number_same : (pos : ℕ) → r.base ≤ pos → uleb (r ∷ m) limit pos ≡ uleb (r ∷ m') limit pos
    number_same = uleb-same r m m' limit inside

    -- a number that is read moves on
    moves : (pos : ℕ) (x : Read) → uleb (r ∷ m') limit pos ≡ Answer x → r.base ≤ pos → r.base ≤ x.next
    moves pos x p h = omega (arith, (small (r ∷ m') limit pos x p).next)

    matched-same : (left pos word : ℕ) → r.base ≤ pos → matched (r ∷ m) limit left pos word ≡ matched (r ∷ m') limit left pos word
    unfolding matched next_delta
    matched-same left pos word h = rw (number_same pos h)

    rows_same_from : (left pos at ret : ℕ) → r.base ≤ pos → rows_from left (r ∷ m) limit pos at ret ≡ rows_from left (r ∷ m') limit pos at ret
    rows_same_from zero pos at ret h = refl
    rows_same_from (suc left) pos at ret h =
        rw (number_same pos h) (first (λ p n l. rows_same_from left p n ret l) (uleb (r ∷ m') limit pos) refl)
      where
        Rest : Type 0
        Rest = (p n : ℕ) → r.base ≤ p → rows_from left (r ∷ m) limit p n ret ≡ rows_from left (r ∷ m') limit p n ret

        both : (d w next : ℕ) → r.base ≤ next → Rest →
            decide (r ∷ m) limit ret left at d w next (rows_from left (r ∷ m) limit next (at + d) ret)
            ≡ decide (r ∷ m') limit ret left at d w next (rows_from left (r ∷ m') limit next (at + d) ret)
        both d w next l rest = rw (matched-same left next w l, rest next (at + d) l)

        second : Rest → (delta : Read) → r.base ≤ delta.next → (o : Outcome Read) → uleb (r ∷ m') limit delta.next ≡ o →
            (o >>= λ word. decide (r ∷ m) limit ret left at delta.value word.value word.next
            (rows_from left (r ∷ m) limit word.next (at + delta.value) ret))
            ≡ (o >>= λ word. decide (r ∷ m') limit ret left at delta.value word.value word.next
            (rows_from left (r ∷ m') limit word.next (at + delta.value) ret))
        second rest delta l (Refused n) q = refl
        second rest delta l (Answer word) q = both delta.value word.value word.next (moves delta.next word q l) rest

        first : Rest → (o : Outcome Read) → uleb (r ∷ m') limit pos ≡ o →
            (o >>= λ delta. uleb (r ∷ m) limit delta.next >>= λ word.
            decide (r ∷ m) limit ret left at delta.value word.value word.next
            (rows_from left (r ∷ m) limit word.next (at + delta.value) ret))
            ≡ (o >>= λ delta. uleb (r ∷ m') limit delta.next >>= λ word.
            decide (r ∷ m') limit ret left at delta.value word.value word.next
            (rows_from left (r ∷ m') limit word.next (at + delta.value) ret))
        first rest (Refused n) p = refl
        first rest (Answer delta) p =
            let l = moves pos delta p h in
            rw (number_same delta.next l) (second rest delta l (uleb (r ∷ m') limit delta.next) refl)

    -- a version 2 table between an address of the region and the limit
    pub handler2-same : (table ret : ℕ) → r.base ≤ table → handler2 (r ∷ m) table limit ret ≡ handler2 (r ∷ m') table limit ret
    unfolding handler2
    handler2-same table ret h = rw (number_same table h) (go (uleb (r ∷ m') limit table) refl)
      where
        go : (o : Outcome Read) → uleb (r ∷ m') limit table ≡ o →
            (o >>= λ rows. rows_from rows.value (r ∷ m) limit rows.next 0 ret)
            ≡ (o >>= λ rows. rows_from rows.value (r ∷ m') limit rows.next 0 ret)
        go (Refused n) p = refl
        go (Answer rows) p = rows_same_from rows.value rows.next 0 ret (moves table rows p h)

  -- version 1: a table of count rows that lies whole in the region, which ends below 2^64
  module _ (table count : ℕ) (above : r.base ≤ table) (whole : table + 4 + 12 * count ≤ r.base + size r) (low : r.base + size r ≤ 2 ^ 64) where
    -- a word of the table
    word_same : (k : ℕ) → 4 ≤ k → k + 4 ≤ 4 + 12 * count → load (r ∷ m) 4 (sum table k) ≡ load (r ∷ m') 4 (sum table k)
    word_same k l h =
        let at : sum table k ≡ table + k = mod-eq_of_lt (omega arith) in
        rw at (load_same 4 (table + k) (omega arith) (omega arith))

    entry-same : (i : ℕ) → i < count → entry_at (r ∷ m) table i ≡ entry_at (r ∷ m') table i
    unfolding entry_at
    entry-same i h =
        rw (
          word_same (4 + 12 * i) (omega arith) (omega arith),
          word_same (8 + 12 * i) (omega arith) (omega arith),
          word_same (12 + 12 * i) (omega arith) (omega arith),
        )

    left_same : (i offset : ℕ) → i < count → left_breaks (r ∷ m) table i offset ≡ left_breaks (r ∷ m') table i offset
    unfolding left_breaks
    left_same i offset h = rw (entry-same (i - 1) (omega arith))

    right_same : (i offset : ℕ) → right_breaks (r ∷ m) table count i offset ≡ right_breaks (r ∷ m') table count i offset
    unfolding right_breaks
    right_same i offset = go (ltb (i + 1) count) refl
      where
        go : (t : Bool) → ltb (i + 1) count ≡ t → right_breaks (r ∷ m) table count i offset ≡ right_breaks (r ∷ m') table count i offset
        go true p = rw (p, entry-same (i + 1) (ltb-true (i + 1) count p))
        go false p = rw p

    judged-same : (i : ℕ) (e : Entry) → i < count → judged (r ∷ m) table count i e ≡ judged (r ∷ m') table count i e
    unfolding judged
    judged-same i e h = rw (left_same i e.offset h, right_same i e.offset)

    halve-same : (k ret lo hi : ℕ) → hi ≤ count → halve k (r ∷ m) table count ret lo hi ≡ halve k (r ∷ m') table count ret lo hi
    halve-same zero ret lo hi w = refl
    halve-same (suc k) ret lo hi w = go (λ lo hi w. halve-same k ret lo hi w) (leb hi lo) refl
      where
        mid : ℕ
        mid = lo + (hi - lo) / 2

        Rest : Type 0
        Rest = (lo hi : ℕ) → hi ≤ count → halve k (r ∷ m) table count ret lo hi ≡ halve k (r ∷ m') table count ret lo hi

        next : Rest → mid < count → (e : Entry) (t : Bool) → ltb e.offset ret ≡ t →
            (if eqb e.offset ret then judged (r ∷ m) table count mid e
            else halve k (r ∷ m) table count ret (if t then mid + 1 else lo) (if t then hi else mid))
            ≡ (if eqb e.offset ret then judged (r ∷ m') table count mid e
            else halve k (r ∷ m') table count ret (if t then mid + 1 else lo) (if t then hi else mid))
        next rest h e true p = rw (judged-same mid e h, rest (mid + 1) hi w)
        next rest h e false p = rw (judged-same mid e h, rest lo mid (omega arith))

        each : Rest → mid < count → (o : Outcome Entry) →
            (o >>= λ e. if eqb e.offset ret then judged (r ∷ m) table count mid e
            else halve k (r ∷ m) table count ret (if ltb e.offset ret then mid + 1 else lo) (if ltb e.offset ret then hi else mid))
            ≡ (o >>= λ e. if eqb e.offset ret then judged (r ∷ m') table count mid e
            else halve k (r ∷ m') table count ret (if ltb e.offset ret then mid + 1 else lo) (if ltb e.offset ret then hi else mid))
        each rest h (Refused n) = refl
        each rest h (Answer e) = next rest h e (ltb e.offset ret) refl

        go : Rest → (t : Bool) → leb hi lo ≡ t → halve (suc k) (r ∷ m) table count ret lo hi ≡ halve (suc k) (r ∷ m') table count ret lo hi
        go rest true p = rw p
        go rest false p =
            let h : mid < count = omega (arith, leb-false hi lo p) in
            rw (p, entry-same mid h) (each rest h (entry_at (r ∷ m') table mid))

    -- the table's rows
    pub handler-same : (ret : ℕ) → load (r ∷ m') 4 table ≡ Answer count → handler (r ∷ m) table ret ≡ handler (r ∷ m') table ret
    unfolding handler
    handler-same ret counted =
        rw (load_same 4 table above (omega arith), counted) (halve-same count ret 0 count (omega arith))
