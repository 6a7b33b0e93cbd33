-- Laws of `holds`, `place_of` and `bytes_at`. Assumes nothing.
use Rattle.std.proofs.Common.{◌≡◌, ℕ, suc, ◌+◌, ◌-◌, ◌<◌, ◌≤◌, Bool, true, false, leb, [], ◌∷◌, length, take, drop, sym, refl, ap, ◌∙◌, subst, arith, le-leb, leb-true}
use Rattle.failure.specs.Outcome.{Outcome, Refused, Answer}
use Rattle.failure.specs.Failure.{OutsideMemory}
use Rattle.mem.specs.Memory.{Memory, size, bytes_of}
use Rattle.mem.specs.Place.{Spot, on, holds, place_from, place_of, bytes_at}
use Rattle.mem.proofs.Tests.{both}

-- what a range of addresses that holds n bytes at a comes to
pub holds_range : (base size a n : ℕ) → holds base size a n ≡ true → (base ≤ a) × (a + n ≤ base + size)
unfolding holds
holds_range base size a n e =
    let (l, r) = both (leb base a) (leb (a + n) (base + size)) e in
    (leb-true base a l, leb-true (a + n) (base + size) r)

-- and the other way round
pub holds_when : (base size a n : ℕ) → base ≤ a → a + n ≤ base + size → holds base size a n ≡ true
unfolding holds
holds_when base size a n l r = simp (le-leb base a l, le-leb (a + n) (base + size) r)

-- an answer is no refusal
pub no_place : (A : Type 0) (s : Spot) → Refused OutsideMemory ≡ Answer s → A
no_place A s e = let z : ◌≡◌ {A = ℕ} 0 1 = cc in absurd (omega arith)

-- the n bytes at a stand at the spot s: region j of m, which is counted from i
record Found (i : ℕ) (m : Memory) (a n : ℕ) (s : Spot) : Type 0 where
  pub j : ℕ
  pub region : s.region ≡ i + j
  pub fits : s.offset + n ≤ length (bytes_of m j)
  pub bytes : bytes_at m a n ≡ Answer (take n (drop s.offset (bytes_of m j)))

found : (i : ℕ) (m : Memory) (a n : ℕ) (s : Spot) → place_from i m a n ≡ Answer s → Found i m a n s
unfolding bytes_at
found i [] a n s e = no_place (Found i [] a n s) s e
found i (r ∷ m) a n s e = go (λ p. found (suc i) m a n s p) (holds r.base (size r) a n) refl
  where
    here : holds r.base (size r) a n ≡ true → Found i (r ∷ m) a n s
    here h =
        let p : Answer (record { region = i; offset = a - r.base }) ≡ Answer s = rw h at e in
        let k : a - r.base ≡ s.offset = cc in
        let b = holds_range r.base (size r) a n h in
        record {
          j = 0;
          region = let q : i ≡ s.region = cc in omega arith;
          fits = omega (arith, b.0, b.1);
          bytes = rw h (ap (λ (x : ℕ). Answer (take n (drop x r.bytes))) k);
        }

    there : Found (suc i) m a n s → holds r.base (size r) a n ≡ false → Found i (r ∷ m) a n s
    there f h =
        record { j = suc f.j; region = f.region ∙ omega arith; fits = f.fits; bytes = rw h f.bytes }

    go : (place_from (suc i) m a n ≡ Answer s → Found (suc i) m a n s) → (t : Bool) → holds r.base (size r) a n ≡ t → Found i (r ∷ m) a n s
    go rest true h = here h
    go rest false h = there (rest (rw h at e)) h

-- where a place is found, it lies in its region, and the bytes at the address are those at the place
pub place_found :
    (m : Memory) (a n : ℕ) (s : Spot) → place_of m a n ≡ Answer s →
    (s.offset + n ≤ length (bytes_of m s.region)) × (bytes_at m a n ≡ Answer (take n (drop s.offset (bytes_of m s.region))))
unfolding place_of
place_found m a n s e =
    let f = found 0 m a n s e in
    let q : f.j ≡ s.region = omega (arith, f.region) in
    (subst (λ (i : ℕ). s.offset + n ≤ length (bytes_of m i)) q f.fits, subst (λ (i : ℕ). bytes_at m a n ≡ Answer (take n (drop s.offset (bytes_of m i)))) q f.bytes)

-- where no place is found, the bytes are refused with 27
none : (i : ℕ) (m : Memory) (a n x : ℕ) → place_from i m a n ≡ Refused x → bytes_at m a n ≡ Refused OutsideMemory
unfolding bytes_at
none i [] a n x e = refl
none i (r ∷ m) a n x e = go (λ p. none (suc i) m a n x p) (holds r.base (size r) a n) refl
  where
    clash : ◌≡◌ {A = Outcome Spot} (Answer (record { region = i; offset = a - r.base })) (Refused x) → ⊥
    clash p = let z : ◌≡◌ {A = ℕ} 0 1 = cc in omega arith

    go : (place_from (suc i) m a n ≡ Refused x → bytes_at m a n ≡ Refused OutsideMemory) → (t : Bool) → holds r.base (size r) a n ≡ t
        → bytes_at (r ∷ m) a n ≡ Refused OutsideMemory
    go rest true h = absurd (clash (rw h at e))
    go rest false h = rw h (rest (rw h at e))

pub place_none : (m : Memory) (a n x : ℕ) → place_of m a n ≡ Refused x → bytes_at m a n ≡ Refused OutsideMemory
unfolding place_of
place_none m a n x e = none 0 m a n x e

-- where bytes are found, and those right after them in the same region, they are found as one
module _ (a n w : ℕ) (s : Spot) where
  -- the first bytes of those that a range holds it holds too
  front : (base size : ℕ) → holds base size a n ≡ false → (t : Bool) → holds base size a (n + w) ≡ t → t ≡ false
  front base size h true g =
      let (low, high) = holds_range base size a (n + w) g in
      sym (holds_when base size a n low (omega arith)) ∙ h
  front base size h false g = refl

  joined : (i : ℕ) (m : Memory) → place_from i m a n ≡ Answer s → place_from i m (a + n) w ≡ Answer (on n s) → place_from i m a (n + w) ≡ Answer s
  joined i [] e f = no_place (place_from i [] a (n + w) ≡ Answer s) s e
  joined i (r ∷ m) e f =
      go (holds r.base (size r) a n) refl (holds r.base (size r) (a + n) w) refl (λ p q. joined (suc i) m p q)
    where
      -- the region's own number, and those of later ones
      own : (k : ℕ) (t : Spot) → Answer (record { region = i; offset = k }) ≡ Answer t → i ≡ t.region
      own k t p = cc

      later : (b k : ℕ) (t : Spot) → place_from (suc i) m b k ≡ Answer t → i < t.region
      later b k t p = let there = found (suc i) m b k t p in omega (arith, there.region)

      go : (t : Bool) → holds r.base (size r) a n ≡ t → (u : Bool) → holds r.base (size r) (a + n) w ≡ u →
          (place_from (suc i) m a n ≡ Answer s → place_from (suc i) m (a + n) w ≡ Answer (on n s) → place_from (suc i) m a (n + w) ≡ Answer s) →
          place_from i (r ∷ m) a (n + w) ≡ Answer s
      go true h true g rest =
          let (low, _) = holds_range r.base (size r) a n h in
          let (_, high) = holds_range r.base (size r) (a + n) w g in
          rw (holds_when r.base (size r) a (n + w) low (omega arith)) (rw h at e)
      go true h false g rest = absurd (omega (arith, own (a - r.base) s (rw h at e), later (a + n) w (on n s) (rw g at f)))
      go false h true g rest = absurd (omega (arith, own (a + n - r.base) (on n s) (rw g at f), later a n s (rw h at e)))
      go false h false g rest = rw (front r.base (size r) h (holds r.base (size r) a (n + w)) refl) (rest (rw h at e) (rw g at f))

pub place_joined : (m : Memory) (a n w : ℕ) (s : Spot) → place_of m a n ≡ Answer s → place_of m (a + n) w ≡ Answer (on n s) → place_of m a (n + w) ≡ Answer s
unfolding place_of
place_joined m a n w s e f = joined a n w s 0 m e f
