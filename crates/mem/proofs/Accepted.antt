-- What follows from an accepted opening: laws of `bounded`, `apart`, `accepted` and `opens`. Assumes nothing.
use Rattle.std.proofs.Common.{◌≡◌, ℕ, suc, ◌+◌, ◌-◌, ◌^◌, ◌<◌, ◌≤◌, Bool, true, false, ◌&&◌, ◌||◌, eqb, leb, ◌⊎◌, [], ◌∷◌, sym, refl, ap, ◌∙◌, inl, inr, ⊎_elim, add-zero, arith, eqb-true, leb-true}
use Rattle.failure.specs.Outcome.{Answer}
use Rattle.mem.specs.Memory.{Region, Memory, Lent, size}
use Rattle.mem.specs.Opening.{bounded, apart, apart_from, accepted, opens}
use Rattle.mem.specs.Place.{Spot, on, holds, place_from, place_of}
use Rattle.mem.proofs.Tests.{both, either}
use Rattle.mem.proofs.Place.{holds_range, holds_when, no_place}

-- a base address is 1 to 2^62, a length 0 to 2^31
pub bounded_range : (base size : ℕ) → bounded base size ≡ true → (1 ≤ base) × (base ≤ 2 ^ 62) × (size ≤ 2 ^ 31)
unfolding bounded
bounded_range base size e =
    let (bases, length) = both (leb 1 base && leb base (2 ^ 62)) (leb size (2 ^ 31)) e in
    let (low, high) = both (leb 1 base) (leb base (2 ^ 62)) bases in
    (leb-true 1 base low, leb-true base (2 ^ 62) high, leb-true size (2 ^ 31) length)

-- ranges that share no address: one is empty, or one ends before the other begins
pub apart_cases :
    (base size base' size' : ℕ) → apart base size base' size' ≡ true →
    ((size ≡ 0) ⊎ (size' ≡ 0)) ⊎ ((base + size ≤ base') ⊎ (base' + size' ≤ base))
unfolding apart
apart_cases base size base' size' e =
    ⊎_elim
    (λ p. ⊎_elim
    (λ q. inl (⊎_elim (λ z. inl (eqb-true size 0 z)) (λ z. inr (eqb-true size' 0 z)) (either (eqb size 0) (eqb size' 0) q)))
    (λ l. inr (inl (leb-true (base + size) base' l)))
    (either (eqb size 0 || eqb size' 0) (leb (base + size) base') p))
    (λ l. inr (inr (leb-true (base' + size') base l)))
    (either (eqb size 0 || eqb size' 0 || leb (base + size) base') (leb (base' + size') base) e)

-- of bytes that one of two such ranges holds, the other holds none
pub not_both :
    (base size base' size' a n : ℕ) → apart base size base' size' ≡ true → holds base' size' a n ≡ true →
    (b w : ℕ) → a ≤ b → b + w ≤ a + n → 0 < w → holds base size b w ≡ false
not_both base size base' size' a n e h b w low high some = go (holds base size b w) refl
  where
    there : (base' ≤ a) × (a + n ≤ base' + size')
    there = holds_range base' size' a n h

    go : (t : Bool) → holds base size b w ≡ t → t ≡ false
    go false g = refl
    go true g =
        let here = holds_range base size b w g in
        absurd (⊎_elim
        (λ q. ⊎_elim (λ z. omega (arith, here.0, here.1)) (λ z. omega (arith, there.0, there.1)) q)
        (λ q. ⊎_elim (λ l. omega (arith, here.1, there.0)) (λ l. omega (arith, here.0, there.1)) q)
        (apart_cases base size base' size' e))

-- what it says that a region and those after it are accepted
pub accepted_parts : (r : Region) (m : Memory) → accepted (r ∷ m) ≡ true → (bounded r.base (size r) ≡ true) × (apart_from r m ≡ true) × (accepted m ≡ true)
accepted_parts r m e =
    let (front, rest) = both (bounded r.base (size r) && apart_from r m) (accepted m) e in
    let (bounds, away) = both (bounded r.base (size r)) (apart_from r m) front in
    (bounds, away, rest)

module _ (a n : ℕ) (s : Spot) where
  -- of bytes that a later region holds, a region that is apart from all of them holds none
  passed_over :
      (r : Region) (i : ℕ) (m : Memory) → apart_from r m ≡ true → place_from i m a n ≡ Answer s →
      (b w : ℕ) → a ≤ b → b + w ≤ a + n → 0 < w → holds r.base (size r) b w ≡ false
  passed_over r i [] e p b w low high some = no_place (holds r.base (size r) b w ≡ false) s p
  passed_over r i (q ∷ m) e p b w low high some =
      go (holds q.base (size q) a n) refl (λ f. passed_over r (suc i) m away.1 f b w low high some)
    where
      away : (apart r.base (size r) q.base (size q) ≡ true) × (apart_from r m ≡ true)
      away = both (apart r.base (size r) q.base (size q)) (apart_from r m) e

      go : (t : Bool) → holds q.base (size q) a n ≡ t →
          (place_from (suc i) m a n ≡ Answer s → holds r.base (size r) b w ≡ false) → holds r.base (size r) b w ≡ false
      go true h rest = not_both r.base (size r) q.base (size q) a n away.0 h b w low high some
      go false h rest = rest (rw h at p)

  -- where bytes are found, so are any of them, in the same region, and they end at 2^62 + 2^31 at the most
  record Whole (i : ℕ) (m : Memory) : Type 0 where
    pub each : (k w : ℕ) → 0 < w → k + w ≤ n → place_from i m (a + k) w ≡ Answer (on k s)
    pub ends : a + n ≤ 2 ^ 62 + 2 ^ 31

  whole : (i : ℕ) (m : Memory) → accepted m ≡ true → place_from i m a n ≡ Answer s → Whole i m
  whole i [] e p = no_place (Whole i []) s p
  whole i (r ∷ m) e p = go (holds r.base (size r) a n) refl (λ f. whole (suc i) m parts.2 f)
    where
      parts : (bounded r.base (size r) ≡ true) × (apart_from r m ≡ true) × (accepted m ≡ true)
      parts = accepted_parts r m e

      go : (t : Bool) → holds r.base (size r) a n ≡ t → (place_from (suc i) m a n ≡ Answer s → Whole (suc i) m) → Whole i (r ∷ m)
      go true h rest =
          let p' : Answer (record { region = i; offset = a - r.base }) ≡ Answer s = rw h at p in
          let here : record { region = i; offset = a - r.base } ≡ s = cc in
          let (low, high) = holds_range r.base (size r) a n h in
          let (_, base, length) = bounded_range r.base (size r) parts.0 in
          record {
            each = λ k w some fits.
                let further : a + k - r.base ≡ a - r.base + k = omega arith in
                rw (holds_when r.base (size r) (a + k) w (omega arith) (omega arith))
                (ap (λ (x : ℕ). Answer (record { region = i; offset = x })) further ∙ ap (λ (t : Spot). Answer (on k t)) here);
            ends = omega arith;
          }
      go false h rest =
          let later = rest (rw h at p) in
          record {
            each = λ k w some fits.
                rw (passed_over r (suc i) m parts.1 (rw h at p) (a + k) w (omega arith) (omega arith) some) (later.each k w some fits);
            ends = later.ends;
          }

-- where bytes are found in what is accepted, so are any of them, in the same slice
pub place-within :
    (l : Lent) → opens l ≡ true → (a n : ℕ) (s : Spot) → place_of l.regions a n ≡ Answer s →
    (k w : ℕ) → 0 < w → k + w ≤ n → place_of l.regions (a + k) w ≡ Answer (on k s)
unfolding opens place_of
place-within l e a n s p = (whole a n s 0 l.regions e p).each

-- so are the first of them
pub place_front :
    (l : Lent) → opens l ≡ true → (a n : ℕ) (s : Spot) → place_of l.regions a n ≡ Answer s →
    (w : ℕ) → 0 < w → w ≤ n → place_of l.regions a w ≡ Answer s
place_front l e a n s p w some fits =
    ap (λ (x : ℕ). place_of l.regions x w) (sym (add-zero a)) ∙
    place-within l e a n s p 0 w some (omega arith) ∙
    ap (λ (k : ℕ). Answer (record { region = s.region; offset = k })) (add-zero s.offset)

-- they end at 2^62 + 2^31 at the most
pub place-ends : (l : Lent) → opens l ≡ true → (a n : ℕ) (s : Spot) → place_of l.regions a n ≡ Answer s → a + n ≤ 2 ^ 62 + 2 ^ 31
unfolding opens place_of
place-ends l e a n s p = (whole a n s 0 l.regions e p).ends
