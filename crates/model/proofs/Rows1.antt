-- The row that the code finds in a version 1 table is that of the table's list of rows, and is not refused exactly where the list says so,
-- whatever else is lent. Assumes nothing.
use mathlib.Core.Path.{◌≡◌, refl, ◌∙◌, ap, subst}
use mathlib.Core.Bool.{Bool, true, false, ◌&&◌}
use mathlib.Core.List.{List, [], ◌∷◌}
use Prim.Native.Nat.{ℕ, zero, suc, ◌+◌, ◌*◌, ◌^◌, ◌≤◌, ◌<◌}
use native.Mathlib.Nat.{add-zero, zero-add}
use native.Mathlib.Numerals.{add-one}
use native.Mathlib.Omega.{arith}
use lib.Dec.{eqb, ltb, lit<}
use lib.ListN.{length, get_or}
use borrow.Author.Tests.{eqb-true, ltb-true}
use Rattle.failure.specs.Outcome.{Outcome, Refused, Answer, ◌>>=◌}
use Rattle.failure.specs.Failure.{OutsideMemory}
use Rattle.mem.specs.Memory.{Region, Memory, Bytes, size}
use Rattle.mem.specs.Place.{holds, bytes_at}
use Rattle.mem.specs.Word.{load}
use Rattle.mem.specs.Wrapping.{sum}
use Rattle.mem.proofs.Tests.{both}
use Rattle.mem.proofs.Place.{holds_range}
use Rattle.mem.proofs.Bytes.{load_below}
use Rattle.rows.specs.Handler.{Entry, row, entry_at, handler}
use Rattle.rows.specs.Prefix.{row_at}
use Rattle.rows.specs.NotRefused.{not_refused, none_or_well_formed}
use Rattle.rows.proofs.Rising.{Rising}
use Rattle.rows.proofs.Listed.{nth, handler_not_refused, handler-is}
use Rattle.rows.proofs.Section.{handler-same}
use Rattle.model.specs.Throw.{readable, rows_from1, rows1}
use Rattle.model.specs.Sound.{rises_from, rises, counts, whole_table}
use Rattle.model.proofs.InSection.{Bounds}

-- a list that rises does so from each row to the next
rises-at : (e : Entry) (es : List Entry) → rises_from e es ≡ true → (i : ℕ) → suc i < length (e ∷ es) →
    (nth (e ∷ es) i).offset < (nth (e ∷ es) (suc i)).offset
rises-at e [] h i l = absurd (omega arith)
rises-at e (f ∷ es) h zero l = ltb-true e.offset f.offset (both (ltb e.offset f.offset) (rises_from f es) h).0
rises-at e (f ∷ es) h (suc i) l =
    rises-at f es (both (ltb e.offset f.offset) (rises_from f es) h).1 i (omega arith)

-- the same from the list's first row on
rising : (es : List Entry) → rises es ≡ true → (i : ℕ) → i + 1 < length es → (nth es i).offset < (nth es (i + 1)).offset
rising [] h i l = absurd (omega arith)
rising (e ∷ es) h i l = rw add-one (rises-at e es h i (omega arith))

-- where all rows can be read, each is what stands there
each_row : (m : Memory) (table n i : ℕ) → length (rows_from1 n m table i) ≡ n → (j : ℕ) → j < n →
    entry_at m table (i + j) ≡ Answer (nth (rows_from1 n m table i) j)
each_row m table zero i h j l = absurd (omega arith)
each_row m table (suc n) i h j l = go (entry_at m table i) refl h (λ p k q. each_row m table n (i + 1) p k q) j l
  where
    go : (o : Outcome Entry) → entry_at m table i ≡ o → length (readable o (λ e. e ∷ rows_from1 n m table (i + 1))) ≡ suc n →
        (length (rows_from1 n m table (i + 1)) ≡ n → (k : ℕ) → k < n →
        entry_at m table (i + 1 + k) ≡ Answer (nth (rows_from1 n m table (i + 1)) k)) →
        (j : ℕ) → j < suc n → entry_at m table (i + j) ≡ Answer (nth (readable o (λ e. e ∷ rows_from1 n m table (i + 1))) j)
    go (Refused x) p q rest j l = absurd (omega (arith, q))
    go (Answer e) p q rest zero l = rw (add-zero i) p
    go (Answer e) p q rest (suc j) l =
        let next : i + 1 + j ≡ i + suc j = omega arith in
        subst (λ (k : ℕ). entry_at m table k ≡ Answer (nth (rows_from1 n m table (i + 1)) j)) next (rest (omega (arith, q)) j (omega arith))

-- a whole table has a count, and is one that rises
record Whole (m : Memory) (table : ℕ) : Type 0 where
  pub count : ℕ
  pub long : length (rows1 m table) ≡ count
  pub rising : Rising m table count (nth (rows1 m table))

-- what the test says
whole : (m : Memory) (table : ℕ) → whole_table m table ≡ true → Whole m table
unfolding whole_table rows1
whole m table h = go (load m 4 table) refl h
  where
    go : (o : Outcome ℕ) → load m 4 table ≡ o →
        (counts o (readable o (λ count. rows_from1 count m table 0)) && rises (readable o (λ count. rows_from1 count m table 0))) ≡ true →
        Whole m table
    go (Refused x) p q = let z : ◌≡◌ {A = ℕ} 0 1 = cc in absurd (omega arith)
    go (Answer count) p q =
        let es = rows_from1 count m table 0 in
        let t = both (eqb (length es) count) (rises es) q in
        let long : length es ≡ count = eqb-true (length es) count t.0 in
        record {
          count = count;
          long = rw p long;
          rising =
              record {
                counted = p;
                each = λ i l. rw p (rw (zero-add i) at (each_row m table count 0 long i l));
                rises = λ i l. rw p (rising es t.1 i (omega arith));
              };
        }

-- what is loaded from one region lies in it
load_in : (r : Region) (n a v : ℕ) → load (r ∷ []) n a ≡ Answer v → (r.base ≤ a) × (a + n ≤ r.base + size r)
unfolding load bytes_at
load_in r n a v = go (holds r.base (size r) a n) refl
  where
    go : (t : Bool) → holds r.base (size r) a n ≡ t → load (r ∷ []) n a ≡ Answer v → (r.base ≤ a) × (a + n ≤ r.base + size r)
    go true p e = holds_range r.base (size r) a n p
    go false p e =
        let q : ◌≡◌ {A = Outcome ℕ} (Refused OutsideMemory) (Answer v) = rw p at e in
        let z : ◌≡◌ {A = ℕ} 0 1 = cc in
        absurd (omega arith)

-- so does the last word of a row that is read there
entry_in : (r : Region) (table i : ℕ) (e : Entry) → entry_at (r ∷ []) table i ≡ Answer e → sum table (12 + 12 * i) + 4 ≤ r.base + size r
unfolding entry_at
entry_in r table i e = first (load (r ∷ []) 4 (sum table (4 + 12 * i)))
  where
    Goal : Type 0
    Goal = sum table (12 + 12 * i) + 4 ≤ r.base + size r

    third : (offset pad : ℕ) (o : Outcome ℕ) → load (r ∷ []) 4 (sum table (12 + 12 * i)) ≡ o →
        (o >>= λ action. Answer (row offset pad action)) ≡ Answer e → Goal
    third offset pad (Refused x) p q = let z : ◌≡◌ {A = ℕ} 0 1 = cc in absurd (omega arith)
    third offset pad (Answer v) p q = (load_in r 4 (sum table (12 + 12 * i)) v p).1

    second : (offset : ℕ) (o : Outcome ℕ) →
        (o >>= λ pad. load (r ∷ []) 4 (sum table (12 + 12 * i)) >>= λ action. Answer (row offset pad action)) ≡ Answer e → Goal
    second offset (Refused x) q = let z : ◌≡◌ {A = ℕ} 0 1 = cc in absurd (omega arith)
    second offset (Answer pad) q = third offset pad (load (r ∷ []) 4 (sum table (12 + 12 * i))) refl q

    first : (o : Outcome ℕ) →
        (o >>= λ offset. load (r ∷ []) 4 (sum table (8 + 12 * i)) >>= λ pad.
        load (r ∷ []) 4 (sum table (12 + 12 * i)) >>= λ action. Answer (row offset pad action)) ≡ Answer e → Goal
    first (Refused x) q = let z : ◌≡◌ {A = ℕ} 0 1 = cc in absurd (omega arith)
    first (Answer offset) q = second offset (load (r ∷ []) 4 (sum table (8 + 12 * i))) q

module _ (section : Region) (b : Bounds section) (bytes : (k : ℕ) → get_or section.bytes k 0 < 256) (table : ℕ)
    (w : Whole (section ∷ []) table) where
  -- the section alone is bytes
  one-bytes : Bytes (section ∷ [])
  one-bytes zero k = bytes k
  one-bytes (suc i) k = lit< tt

  -- the table lies in the section
  table_in : (section.base ≤ table) × (table + 4 + 12 * w.count ≤ section.base + size section)
  table_in = go w.count refl
    where
      first : (section.base ≤ table) × (table + 4 ≤ section.base + size section)
      first = load_in section 4 table w.count w.rising.counted

      few : w.count < 2 ^ 32
      few = load_below (section ∷ []) one-bytes 4 table w.count w.rising.counted

      go : (n : ℕ) → w.count ≡ n → (section.base ≤ table) × (table + 4 + 12 * w.count ≤ section.base + size section)
      go zero p = (first.0, omega (arith, first.1))
      go (suc n) p =
          let last = entry_in section table n (nth (rows1 (section ∷ []) table) n) (w.rising.each n (omega arith)) in
          (first.0, omega (arith, last, first.1, few, b.below, b.small))

  -- it is read in the section
  in_section : (m : Memory) (ret : ℕ) → handler (section ∷ m) table ret ≡ handler (section ∷ []) table ret
  in_section m ret =
      handler-same section m [] table w.count table_in.0 table_in.1 (omega (arith, b.below, b.small)) ret w.rising.counted

module _ (section : Region) (m : Memory) (table ret : ℕ) (b : Bounds section) (bytes : (k : ℕ) → get_or section.bytes k 0 < 256)
    (h : whole_table (section ∷ []) table ≡ true) where
  abbrev w : Whole (section ∷ []) table
  w = whole (section ∷ []) table h

  -- when the row of a version 1 table that is whole is not refused
  pub row_not_refused1 : not_refused (handler (section ∷ m) table ret) ≡ none_or_well_formed (row_at ret (rows1 (section ∷ []) table))
  row_not_refused1 =
      ap not_refused (in_section section b bytes table w m ret)
      ∙ handler_not_refused (section ∷ []) table (rows1 (section ∷ []) table) w.count w.long w.rising ret

  -- then it is that of the list
  pub row_found1 : none_or_well_formed (row_at ret (rows1 (section ∷ []) table)) ≡ true →
      handler (section ∷ m) table ret ≡ Answer (row_at ret (rows1 (section ∷ []) table))
  row_found1 good =
      in_section section b bytes table w m ret
      ∙ handler-is (section ∷ []) table (rows1 (section ∷ []) table) w.count w.long w.rising ret good
