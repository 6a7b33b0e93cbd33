-- Where a number that is loaded stands, and what a part that was returned for the n bytes at an address says of the number there, over the
-- width. Assumes nothing.
use Rattle.std.proofs.Common.{◌≡◌, ℕ, ◌<◌, List, length, take, drop, sym, refl, ap, ◌∙◌, ⊎_elim, arith, length-drop, length-take, Bor, eq-eqb, ne_eqb}
use Rattle.std.specs.Prelude.{◌==◌, if◌then◌else◌}
use Rattle.failure.specs.Outcome.{Outcome, Refused, Answer}
use Rattle.failure.specs.Failure.{OutsideMemory}
use Rattle.mem.specs.Memory.{Memory, lent, bytes_of}
use Rattle.mem.specs.Place.{Spot, place_of, bytes_at}
use Rattle.mem.specs.Part.{PartOf}
use Rattle.mem.specs.Word.{little_endian, load}
use Rattle.mem.proofs.Place.{place_found, place_none}
use Rattle.mem.proofs.Part.{part_shows}

-- where a place is found, the number in the bytes there is loaded
pub load_found :
    (m : Memory) (n a : ℕ) (s : Spot) → place_of m a n ≡ Answer s →
    load m n a ≡ Answer (little_endian (take n (drop s.offset (bytes_of m s.region))))
unfolding load
load_found m n a s p = rw (place_found m a n s p).1

-- a number that is loaded is that in the bytes at some place
pub record Stands (m : Memory) (n a v : ℕ) : Type 0 where
  pub spot : Spot
  pub held : place_of m a n ≡ Answer spot
  pub is : v ≡ little_endian (take n (drop spot.offset (bytes_of m spot.region)))

pub load-stands : (m : Memory) (n a v : ℕ) → load m n a ≡ Answer v → Stands m n a v
unfolding load
load-stands m n a v e = go (place_of m a n) refl
  where
    go : (o : Outcome Spot) → place_of m a n ≡ o → Stands m n a v
    go (Refused x) p =
        let q : ◌≡◌ {A = Outcome ℕ} (Refused OutsideMemory) (Answer v) = rw (place_none m a n x p) at e in
        let z : ◌≡◌ {A = ℕ} 0 1 = cc in
        absurd (omega arith)
    go (Answer s) p =
        let q : Answer (little_endian (take n (drop s.offset (bytes_of m s.region)))) ≡ Answer v = sym (load_found m n a s p) ∙ e in
        record { spot = s; held = p; is = cc }

-- the bytes are there: the number is that of the part
pub load_there : (m : Memory) (a n v : ℕ) (bs : List ℕ) → bytes_at m a n ≡ Answer bs → v ≡ little_endian bs → Answer v ≡ load m n a
unfolding load
load_there m a n v bs e p = rw e (ap Answer p)

-- they are not
load-nowhere : (m : Memory) (a n : ℕ) → bytes_at m a n ≡ Refused OutsideMemory → Refused OutsideMemory ≡ load m n a
unfolding load
load-nowhere m a n e = rw e

-- n bytes are found at an address as n of them
pub bytes_length : (m : Memory) (a n : ℕ) (bs : List ℕ) → bytes_at m a n ≡ Answer bs → length bs ≡ n
bytes_length m a n bs e = go (place_of m a n) refl
  where
    go : (o : Outcome Spot) → place_of m a n ≡ o → length bs ≡ n
    go (Refused x) p =
        let q : ◌≡◌ {A = Outcome (List ℕ)} (Refused OutsideMemory) (Answer bs) = sym (place_none m a n x p) ∙ e in
        let z : ◌≡◌ {A = ℕ} 0 1 = cc in
        absurd (omega arith)
    go (Answer s) p =
        let f = place_found m a n s p in
        let q : Answer bs ≡ Answer (take n (drop s.offset (bytes_of m s.region))) = sym e ∙ f.1 in
        let r : bs ≡ take n (drop s.offset (bytes_of m s.region)) = cc in
        ap length r ∙ simp (length-take, length-drop) (omega (arith, f.0))

-- what a part that was returned for the n bytes at an address says of the number there
module _ (section stack : Bor (List ℕ)) (section_base stack_base a n : ℕ) (r : Bor (List ℕ)) (some : 0 < n) where
  -- a whole part gives the number
  pub loads_value :
      PartOf section stack n (place_of (lent section.now section_base stack.now stack_base).regions a n) r →
      length r.now ≡ n → (v : ℕ) → v ≡ little_endian r.now →
      Answer v ≡ load (lent section.now section_base stack.now stack_base).regions n a
  loads_value p whole v is =
      ⊎_elim (λ s. load_there _ a n v r.now s.1 is) (λ s. absurd (omega arith))
      (part_shows section stack section_base stack_base a n r some p)

  -- any other gives 27
  pub loads_outside :
      PartOf section stack n (place_of (lent section.now section_base stack.now stack_base).regions a n) r →
      (length r.now ≡ n → ⊥) → Refused OutsideMemory ≡ load (lent section.now section_base stack.now stack_base).regions n a
  loads_outside p part =
      ⊎_elim (λ s. absurd (part s.0)) (λ s. load-nowhere _ a n s.1)
      (part_shows section stack section_base stack_base a n r some p)

  -- so the number is that in the part if it is whole, and otherwise 27
  pub loads_word :
      PartOf section stack n (place_of (lent section.now section_base stack.now stack_base).regions a n) r →
      (if length r.now == n then Answer (little_endian r.now) else Refused OutsideMemory)
      ≡ load (lent section.now section_base stack.now stack_base).regions n a
  loads_word p =
      ⊎_elim (λ s. rw (eq-eqb _ _ s.0) (load_there _ a n (little_endian r.now) r.now s.1 refl))
      (λ s. let part : length r.now ≡ n → ⊥ = λ e. omega (arith, s.0) in rw (ne_eqb _ _ part) (load-nowhere _ a n s.1))
      (part_shows section stack section_base stack_base a n r some p)
