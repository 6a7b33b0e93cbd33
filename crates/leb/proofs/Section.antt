-- A number whose bytes lie in the first region, up to the limit, is the same whatever else is lent. Assumes nothing.
use Rattle.std.proofs.Common.{◌≡◌, ℕ, zero, suc, ◌+◌, ◌≤◌, ◌∷◌, Bool, true, false, leb, refl, ◌∙◌, ap, arith, leb-false}
use Rattle.failure.specs.Outcome.{Outcome, ◌>>=◌}
use Rattle.mem.specs.Memory.{Region, Memory, size}
use Rattle.mem.specs.Place.{holds, bytes_at}
use Rattle.mem.specs.Word.{load}
use Rattle.mem.proofs.Place.{holds_when}
use Rattle.leb.specs.Reader.{Read, read_byte, read_from, read_in, at_most32_bits, read_number}

-- two memories with the same first region, in which the limit lies
module _ (r : Region) (m m' : Memory) (limit : ℕ) (inside : limit ≤ r.base + size r) where
  -- a byte of the region
  pub byte-same : (pos : ℕ) → r.base ≤ pos → read_byte (r ∷ m) limit pos ≡ read_byte (r ∷ m') limit pos
  unfolding read_byte load bytes_at
  byte-same pos h = go (leb limit pos) refl
    where
      go : (t : Bool) → leb limit pos ≡ t → read_byte (r ∷ m) limit pos ≡ read_byte (r ∷ m') limit pos
      go true p = rw p
      go false p =
          let held : holds r.base (size r) pos 1 ≡ true =
          holds_when r.base (size r) pos 1 h (omega (arith, leb-false limit pos p)) in
          rw (p, held)

  -- a number that starts in the region
  same_in : (k pos : ℕ) → r.base ≤ pos → read_in k (r ∷ m) limit pos ≡ read_in k (r ∷ m') limit pos
  same_in zero pos h = refl
  same_in (suc k) pos h =
      ap (λ (o : Outcome ℕ). o >>= λ (b : ℕ). read_from pos b (read_in k (r ∷ m) limit (pos + 1))) (byte-same pos h)
      ∙ ap (λ (o : Outcome Read). read_byte (r ∷ m') limit pos >>= λ (b : ℕ). read_from pos b o) (same_in k (pos + 1) (omega arith))

  pub uleb-same : (pos : ℕ) → r.base ≤ pos → read_number (r ∷ m) limit pos ≡ read_number (r ∷ m') limit pos
  unfolding read_number
  uleb-same pos h = ap (λ (o : Outcome Read). o >>= at_most32_bits) (same_in 5 pos h)
