-- Numbers read from bytes fit their width. Assumes nothing.
use Rattle.std.proofs.Common.{◌≡◌, ℕ, suc, ◌+◌, ◌^◌, ◌<◌, ◌≤◌, List, [], ◌∷◌, length, get_or, take, drop, sym, refl, ap, ◌∙◌, subst, ⊎_elim, pow-suc, arith, lit<, length-drop, length-take, get_or-drop, get_or-take}
use lib.ListN.{get_or-eq_default}
use Rattle.failure.specs.Outcome.{Outcome, Refused, Answer}
use Rattle.failure.specs.Failure.{OutsideMemory}
use Rattle.mem.specs.Memory.{Memory, bytes_of, Bytes}
use Rattle.mem.specs.Place.{Spot, place_of, bytes_at}
use Rattle.mem.specs.Word.{little_endian, load}
use Rattle.mem.proofs.Tests.{lt_or_le}
use Rattle.mem.proofs.Place.{place_found, place_none}

-- each element is a byte
AllBytes : List ℕ → Type 0
AllBytes bs = (k : ℕ) → get_or bs k 0 < 256

-- a number in n bytes is below 256 ^ n
below : (bs : List ℕ) → AllBytes bs → little_endian bs < 256 ^ length bs
unfolding AllBytes
below [] h = lit< tt
below (b ∷ bs) h = omega (arith, pow-suc 256 (length bs), h 0, below bs (λ k. h (suc k)))

-- a part of bytes is bytes
part_bytes : (n k : ℕ) (l : List ℕ) → AllBytes l → AllBytes (take n (drop k l))
unfolding AllBytes
part_bytes n k l h i =
    ⊎_elim
    (λ (lt : i < n). subst (λ (x : ℕ). x < 256) (sym (get_or-take n (drop k l) i 0 lt ∙ get_or-drop k l i 0)) (h (k + i)))
    (λ (ge : n ≤ i). subst (λ (x : ℕ). x < 256) (sym (get_or-eq_default (take n (drop k l)) 0 (simp length-take (omega arith)))) (lit< tt))
    (lt_or_le i n)

-- what stands at a place: n bytes
pub bytes_there : (m : Memory) → Bytes m → (a n : ℕ) (bs : List ℕ) → bytes_at m a n ≡ Answer bs → (length bs ≡ n) × ((k : ℕ) → get_or bs k 0 < 256)
unfolding AllBytes
bytes_there m h a n bs e = go (place_of m a n) refl
  where
    go : (o : Outcome Spot) → place_of m a n ≡ o → (length bs ≡ n) × ((k : ℕ) → get_or bs k 0 < 256)
    go (Refused x) p =
        let q : ◌≡◌ {A = Outcome (List ℕ)} (Refused OutsideMemory) (Answer bs) = sym (place_none m a n x p) ∙ e in
        let z : ◌≡◌ {A = ℕ} 0 1 = cc in
        absurd (omega arith)
    go (Answer s) p =
        let f = place_found m a n s p in
        let q : Answer (take n (drop s.offset (bytes_of m s.region))) ≡ Answer bs = sym f.1 ∙ e in
        let is : take n (drop s.offset (bytes_of m s.region)) ≡ bs = cc in (
          ap length (sym is) ∙ simp (length-take, length-drop) (omega (arith, f.0)),
          subst (λ (l : List ℕ). (k : ℕ) → get_or l k 0 < 256) is (part_bytes n s.offset (bytes_of m s.region) (λ k. h s.region k)),
        )

-- a number loaded from n bytes is below 256 ^ n
pub load_below : (m : Memory) → Bytes m → (n a v : ℕ) → load m n a ≡ Answer v → v < 256 ^ n
unfolding load AllBytes
load_below m h n a v e = go (bytes_at m a n) refl
  where
    go : (o : Outcome (List ℕ)) → bytes_at m a n ≡ o → v < 256 ^ n
    go (Refused x) p =
        let q : ◌≡◌ {A = Outcome ℕ} (Refused x) (Answer v) = rw p at e in
        let z : ◌≡◌ {A = ℕ} 0 1 = cc in
        absurd (omega arith)
    go (Answer bs) p =
        let q : Answer (little_endian bs) ≡ Answer v = rw p at e in
        let is : little_endian bs ≡ v = cc in
        let there = bytes_there m h a n bs p in
        subst (λ (k : ℕ). k < 256 ^ n) is (subst (λ (k : ℕ). little_endian bs < 256 ^ k) there.0 (below bs there.1))

-- a load is refused with 27 alone
pub load_refused : (m : Memory) (n a x : ℕ) → load m n a ≡ Refused x → load m n a ≡ Refused OutsideMemory
unfolding load
load_refused m n a x e = go (place_of m a n) refl
  where
    go : (o : Outcome Spot) → place_of m a n ≡ o → load m n a ≡ Refused OutsideMemory
    go (Refused y) p = rw (place_none m a n y p)
    go (Answer s) p =
        let f = (place_found m a n s p).1 in
        let q : ◌≡◌ {A = Outcome ℕ} (Answer (little_endian (take n (drop s.offset (bytes_of m s.region))))) (Refused x) = rw f at e in
        let z : ◌≡◌ {A = ℕ} 0 1 = cc in
        absurd (omega arith)
