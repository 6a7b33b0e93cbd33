-- The search of a chunk whose records are in order. Assumes nothing.
use mathlib.Core.Path.{◌≡◌, refl, sym, ◌∙◌, subst}
use mathlib.Core.Bool.{Bool, true, false, ◌&&◌, not}
use Rattle.std.specs.Prelude.{None, Some}
use Prim.Native.Nat.{ℕ, zero, suc, ◌+◌, ◌-◌, ◌≤◌, ◌<◌}
use native.Mathlib.Omega.{arith}
use lib.Dec.{leb, ltb, eqb}
use borrow.Author.Tests.{le-ltb, ltb-true, ltb-false, leb-true, leb-false, eqb-true, eqb-false, not-true}
use Rattle.failure.specs.Outcome.{Answer}
use Rattle.mem.proofs.Tests.{both}
use Rattle.lookup.specs.Record.{holds}
use Rattle.lookup.specs.Search.{middle, halve, left_meets, right_meets, search}
use Rattle.lookup.specs.Lookup.{in_range}
use Rattle.lookup.specs.declared.Record.{Record}
use Rattle.lookup.proofs.Records.{within-holds}
use Rattle.lookup.proofs.Halving.{halve_up, halve_down, halve-last}
use Rattle.lookup.proofs.Neighbours.{left_none, left_some, right_none, right_some, settle_not, settle-held}
use Rattle.lookup.proofs.InRange.{range_within}

-- start ≤ end ≤ next start
pub record InOrder (rec : ℕ → Record) (count : ℕ) : Type 0 where
  pub proper : (i : ℕ) → i < count → (rec i).start ≤ (rec i).end
  pub ordered : (i : ℕ) → i + 1 < count → (rec i).end ≤ (rec (i + 1)).start

-- the last record that starts at or below pc, if starts rise
record Last (rec : ℕ → Record) (count pc i : ℕ) : Type 0 where
  pub below : i < count
  pub starts : (rec i).start ≤ pc
  pub next : i + 1 < count → pc < (rec (i + 1)).start

-- that is what halving finds, once the first record starts at or below pc
halve-finds : (n : ℕ) (rec : ℕ → Record) (count pc lo hi : ℕ) → lo < hi → hi ≤ count → hi ≤ n + lo → (rec lo).start ≤ pc →
    (hi < count → pc < (rec hi).start) → Last rec count pc (halve n rec pc lo hi)
halve-finds zero rec count pc lo hi l h f s e = absurd (omega arith)
halve-finds (suc n) rec count pc lo hi l h f s e =
    go (ltb 1 (hi - lo)) refl (leb (rec (middle lo hi)).start pc) refl
    (λ u v w x y z. halve-finds n rec count pc u v w x y z)
  where
    go : (more : Bool) → ltb 1 (hi - lo) ≡ more → (up : Bool) → leb (rec (middle lo hi)).start pc ≡ up →
        ((u v : ℕ) → u < v → v ≤ count → v ≤ n + u → (rec u).start ≤ pc → (v < count → pc < (rec v).start) → Last rec count pc (halve n rec pc u v)) →
        Last rec count pc (halve (suc n) rec pc lo hi)
    go false m up u rest =
        let one : hi ≡ lo + 1 = omega (arith, ltb-false 1 (hi - lo) m) in
        rw (halve-last (suc n) rec pc lo hi (ltb-false 1 (hi - lo) m))
        (record { below = omega arith; starts = s; next = λ r. subst (λ (x : ℕ). pc < (rec x).start) one (e (omega arith)) })
    go true m true u rest =
        let more = ltb-true 1 (hi - lo) m in
        let low = leb-true (rec (middle lo hi)).start pc u in
        rw (halve_up n rec pc lo hi more low) (rest (middle lo hi) hi (omega arith) h (omega arith) low e)
    go true m false u rest =
        let more = ltb-true 1 (hi - lo) m in
        let high = leb-false (rec (middle lo hi)).start pc u in
        rw (halve_down n rec pc lo hi more high) (rest lo (middle lo hi) (omega arith) (omega arith) (omega arith) s (λ _. high))

-- a test that cannot hold fails
pub fails : (t : Bool) → (t ≡ true → ⊥) → t ≡ false
fails true h = absurd (h refl)
fails false h = refl

module _ (rec : ℕ → Record) (count : ℕ) (o : InOrder rec count) where
  -- a record ends before each later one starts
  ends-before : (d i j : ℕ) → j ≡ i + suc d → j < count → (rec i).end ≤ (rec j).start
  ends-before zero i j e h = rw e (o.ordered i (omega arith))
  ends-before (suc d) i j e h =
      let k = i + suc d in
      let one : j ≡ k + 1 = omega arith in
      let near = ends-before d i k refl (omega arith) in
      let mid = o.proper k (omega arith) in
      rw one (omega (arith, o.ordered k (omega arith)))

  before : (i j : ℕ) → i < j → j < count → (rec i).end ≤ (rec j).start
  before i j l h = ends-before (j - (i + 1)) i j (omega arith) h

  starts_rise : (i j : ℕ) → i ≤ j → j < count → (rec i).start ≤ (rec j).start
  starts_rise i j l h = go (ltb i j) refl
    where
      go : (t : Bool) → ltb i j ≡ t → (rec i).start ≤ (rec j).start
      go true e = omega (arith, o.proper i (omega arith), before i j (ltb-true i j e) h)
      go false e =
          let same : i ≡ j = omega (arith, ltb-false i j e) in
          rw same (omega arith)

  -- neighbours do not overlap a record
  left_apart : (i : ℕ) → i < count → left_meets rec i ≡ false
  left_apart i h = go (eqb i 0) refl
    where
      go : (z : Bool) → eqb i 0 ≡ z → left_meets rec i ≡ false
      go true e = sym (left_none rec i (eqb-true i 0 e))
      go false e =
          let some : i ≡ 0 → ⊥ = eqb-false i 0 e in
          sym (left_some rec i (rec i).start (rec (i - 1)).end some refl refl) ∙
          le-ltb (rec i).start (rec (i - 1)).end (before (i - 1) i (omega arith) h)

  right_apart : (i : ℕ) → right_meets rec count i ≡ false
  right_apart i = go (ltb (i + 1) count) refl
    where
      go : (z : Bool) → ltb (i + 1) count ≡ z → right_meets rec count i ≡ false
      go false e = sym (right_none rec i count (ltb-false (i + 1) count e))
      go true e =
          let more = ltb-true (i + 1) count e in
          sym (right_some rec i count (rec (i + 1)).start (rec i).end more refl refl) ∙
          le-ltb (rec (i + 1)).start (rec i).end (o.ordered i more)

  module _ (pc : ℕ) where
    -- the record that holds pc is the last that starts at or below it
    only : (i l : ℕ) → i < count → holds (rec i) pc ≡ true → Last rec count pc l → l ≡ i
    only i l h e last = go (ltb i l) refl (ltb l i) refl
      where
        in_i : ((rec i).start ≤ pc) × (pc < (rec i).end)
        in_i = within-holds (rec i) pc e

        go : (s : Bool) → ltb i l ≡ s → (t : Bool) → ltb l i ≡ t → l ≡ i
        go true s t u =
            let far = before i l (ltb-true i l s) last.below in
            absurd (omega (arith, in_i.1, last.starts))
        go false s true u =
            let less = ltb-true l i u in
            absurd (omega (arith, last.next (omega arith), starts_rise (l + 1) i (omega arith) h, in_i.0))
        go false s false u = omega (arith, ltb-false i l s, ltb-false l i u)

    -- what the search finds in a chunk that has it
    pub search-held : (i : ℕ) → i < count → holds (rec i) pc ≡ true → search rec count pc ≡ Answer (Some (rec i))
    unfolding search
    search-held i h e =
        let at = within-holds (rec i) pc e in
        let last = halve-finds count rec count pc 0 count (omega arith) (omega arith) (omega arith) (omega (arith, starts_rise 0 i (omega arith) h, at.0)) (λ f. absurd (omega arith)) in
        rw (only i (halve count rec pc 0 count) h e last)
        (sym (settle-held rec i count pc (rec i) (left_apart i h) (right_apart i) e refl))

    -- and in one that has not
    pub search_not : 0 < count → (rec 0).start ≤ pc → ((i : ℕ) → i < count → holds (rec i) pc ≡ false) → search rec count pc ≡ Answer None
    unfolding search
    search_not many s away =
        let i = halve count rec pc 0 count in
        let last = halve-finds count rec count pc 0 count many (omega arith) (omega arith) s (λ f. absurd (omega arith)) in
        sym (settle_not rec i count pc (left_apart i last.below) (right_apart i) (away i last.below))

    -- pc is in the range where a record holds it
    pub range_held : (i : ℕ) → i < count → holds (rec i) pc ≡ true → in_range rec count pc ≡ true
    range_held i h e =
        let at = within-holds (rec i) pc e in
        range_within rec count pc (λ z. omega arith) (omega (arith, starts_rise 0 i (omega arith) h, at.0)) (last_end (eqb i (count - 1)) refl at.1)
      where
        last_end : (t : Bool) → eqb i (count - 1) ≡ t → pc < (rec i).end → pc < (rec (count - 1)).end
        last_end true q l = rw (eqb-true i (count - 1) q) at l
        last_end false q l =
            let other : i ≡ count - 1 → ⊥ = eqb-false i (count - 1) q in
            omega (arith, before i (count - 1) (omega arith) (omega arith), o.proper (count - 1) (omega arith))

-- pc in the range: the chunk has records, and the first starts at or below pc
pub range_tells : (rec : ℕ → Record) (count pc : ℕ) → in_range rec count pc ≡ true → (0 < count) × ((rec 0).start ≤ pc)
unfolding in_range
range_tells rec count pc g =
    let (front, ends) = both (not (eqb count 0) && leb (rec 0).start pc) (ltb pc (rec (count - 1)).end) g in
    let (many, starts) = both (not (eqb count 0)) (leb (rec 0).start pc) front in
    let some : count ≡ 0 → ⊥ = eqb-false count 0 (not-true (eqb count 0) many) in
    (omega arith, leb-true (rec 0).start pc starts)
