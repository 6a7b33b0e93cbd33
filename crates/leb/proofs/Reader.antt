-- Laws of `read_byte`. Assumes nothing.
use Rattle.std.proofs.Common.{◌≡◌, ℕ, ◌≤◌, ◌<◌, Bool, true, false, leb, ◌⊎◌, refl, inl, inr, arith, le-leb, leb-true, leb-false}
use borrow.Author.Tests.{lt-leb}
use Rattle.failure.specs.Outcome.{Outcome, Refused, Answer}
use Rattle.failure.specs.Failure.{OutsideMemory, EkoTruncated}
use Rattle.mem.specs.Memory.{Memory}
use Rattle.mem.specs.Word.{load}
use Rattle.mem.proofs.Bytes.{load_refused}
use Rattle.leb.specs.Reader.{read_byte}

module _ (m : Memory) (limit pos : ℕ) where
  pub byte-limit : limit ≤ pos → Refused EkoTruncated ≡ read_byte m limit pos
  unfolding read_byte
  byte-limit h = simp (le-leb limit pos h)

  -- below the limit a byte is what memory holds
  pub byte-loaded : pos < limit → (o : Outcome ℕ) → o ≡ load m 1 pos → o ≡ read_byte m limit pos
  unfolding read_byte
  byte-loaded h o e = simp (lt-leb limit pos h) e

  -- what each outcome of a byte says
  pub byte-read : (b : ℕ) → read_byte m limit pos ≡ Answer b → (pos < limit) × (load m 1 pos ≡ Answer b)
  unfolding read_byte
  byte-read b e = go (leb limit pos) refl
    where
      go : (t : Bool) → leb limit pos ≡ t → (pos < limit) × (load m 1 pos ≡ Answer b)
      go true p = let q : ◌≡◌ {A = Outcome ℕ} (Refused EkoTruncated) (Answer b) = rw p at e in absurd cc
      go false p = (leb-false limit pos p, rw p at e)

  pub byte_unread :
      (n : ℕ) → read_byte m limit pos ≡ Refused n →
      ((n ≡ EkoTruncated) × (limit ≤ pos)) ⊎ ((n ≡ OutsideMemory) × (pos < limit) × (load m 1 pos ≡ Refused OutsideMemory))
  unfolding read_byte
  byte_unread n e = go (leb limit pos) refl
    where
      go : (t : Bool) → leb limit pos ≡ t →
          ((n ≡ EkoTruncated) × (limit ≤ pos)) ⊎ ((n ≡ OutsideMemory) × (pos < limit) × (load m 1 pos ≡ Refused OutsideMemory))
      go true p =
          let q : ◌≡◌ {A = Outcome ℕ} (Refused EkoTruncated) (Refused n) = rw p at e in
          inl (cc, leb-true limit pos p)
      go false p =
          let q : load m 1 pos ≡ Refused n = rw p at e in
          let none = load_refused m 1 pos n q in
          inr (cc, leb-false limit pos p, none)

  pub byte_cut : read_byte m limit pos ≡ Refused EkoTruncated → limit ≤ pos
  byte_cut e = go (byte_unread EkoTruncated e)
    where
      go :
          ((EkoTruncated ≡ EkoTruncated) × (limit ≤ pos))
          ⊎ ((EkoTruncated ≡ OutsideMemory) × (pos < limit) × (load m 1 pos ≡ Refused OutsideMemory)) → limit ≤ pos
      go (inl x) = x.1
      go (inr x) = absurd (omega (arith, x.0))

  pub byte-outside : read_byte m limit pos ≡ Refused OutsideMemory → (pos < limit) × (load m 1 pos ≡ Refused OutsideMemory)
  byte-outside e = go (byte_unread OutsideMemory e)
    where
      go :
          ((OutsideMemory ≡ EkoTruncated) × (limit ≤ pos))
          ⊎ ((OutsideMemory ≡ OutsideMemory) × (pos < limit) × (load m 1 pos ≡ Refused OutsideMemory)) →
          (pos < limit) × (load m 1 pos ≡ Refused OutsideMemory)
      go (inl x) = absurd (omega (arith, x.0))
      go (inr x) = (x.1, x.2)
