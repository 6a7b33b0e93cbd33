-- A byte and a number that are not read have the numbers of specs/Faults.antt, each exactly where it says. Assumes nothing.
use Rattle.std.proofs.Common.{◌≡◌, ℕ, zero, suc, ◌+◌, ◌-◌, ◌*◌, ◌≤◌, ◌<◌, ◌^◌, Bool, true, false, ltb, ◌⊎◌, refl, sym, subst, inl, inr, arith}
use Rattle.failure.specs.Outcome.{Outcome, Refused, Answer}
use Rattle.failure.specs.Failure.{OutsideMemory, EkoTruncated, BadUleb}
use Rattle.failure.proofs.Outcome.{refused_then}
use Rattle.mem.specs.Memory.{Memory, Bytes}
use Rattle.mem.specs.Word.{load}
use Rattle.leb.specs.Reader.{Read, read_byte, read_from, read_in, at_most32_bits, read_number}
use Rattle.leb.specs.Meaning.{Cut, Leaves, Endless, Means}
use Rattle.leb.specs.Faults.{ByteFaults, AboveAll, NumberFaults, ExactFaults}
use Rattle.leb.proofs.Reader.{byte-limit, byte-loaded, byte_unread, byte_cut, byte-outside}
use Rattle.leb.proofs.Meaning.{means, exact}

module _ (m : Memory) (limit : ℕ) where
  -- a byte that is refused has one of two numbers, a number one of three
  pub byte_refused : (pos n : ℕ) → read_byte m limit pos ≡ Refused n → (n ≡ 30) ⊎ (n ≡ 27)
  byte_refused pos n e = go (byte_unread m limit pos n e)
    where
      go :
          ((n ≡ EkoTruncated) × (limit ≤ pos)) ⊎ ((n ≡ OutsideMemory) × (pos < limit) × (load m 1 pos ≡ Refused OutsideMemory)) →
          (n ≡ 30) ⊎ (n ≡ 27)
      go (inl x) = inl x.0
      go (inr x) = inr x.0

  refused_in : (k pos n : ℕ) → read_in k m limit pos ≡ Refused n → (n ≡ 30) ⊎ (n ≡ 31) ⊎ (n ≡ 27)
  refused_in zero pos n e = inr (inl cc)
  refused_in (suc k) pos n e =
      go (refused_in k (pos + 1) n) (refused_then (read_byte m limit pos) (λ b. read_from pos b (read_in k m limit (pos + 1))) n e)
    where
      byte : (n ≡ 30) ⊎ (n ≡ 27) → (n ≡ 30) ⊎ (n ≡ 31) ⊎ (n ≡ 27)
      byte (inl x) = inl x
      byte (inr x) = inr (inr x)

      after : (o : Outcome Read) (b : ℕ) (t : Bool) → ltb b 128 ≡ t → read_from pos b o ≡ Refused n → o ≡ Refused n
      after o b true p q = let z : ◌≡◌ {A = Outcome Read} (Answer (record { value = b; next = pos + 1 })) (Refused n) = rw p at q in absurd cc
      after (Refused x) b false p q = let z : ◌≡◌ {A = Outcome Read} (Refused x) (Refused n) = rw p at q in z
      after (Answer x) b false p q =
          let z : ◌≡◌ {A = Outcome Read} (Answer (record { value = b - 128 + 128 * x.value; next = x.next })) (Refused n) = rw p at q in
          absurd cc

      go : (read_in k m limit (pos + 1) ≡ Refused n → (n ≡ 30) ⊎ (n ≡ 31) ⊎ (n ≡ 27)) →
          (read_byte m limit pos ≡ Refused n)
          ⊎ ((b : ℕ) × (read_byte m limit pos ≡ Answer b) × (read_from pos b (read_in k m limit (pos + 1)) ≡ Refused n)) →
          (n ≡ 30) ⊎ (n ≡ 31) ⊎ (n ≡ 27)
      go rest (inl x) = byte (byte_refused pos n x)
      go rest (inr x) = rest (after (read_in k m limit (pos + 1)) x.0 (ltb x.0 128) refl x.2)

  pub number_refused : (pos n : ℕ) → read_number m limit pos ≡ Refused n → (n ≡ 30) ⊎ (n ≡ 31) ⊎ (n ≡ 27)
  unfolding read_number
  number_refused pos n e = go (refused_then (read_in 5 m limit pos) at_most32_bits n e)
    where
      large : (x : Read) (t : Bool) → ltb x.value (2 ^ 32) ≡ t → at_most32_bits x ≡ Refused n → n ≡ 31
      large x true p q = let z : ◌≡◌ {A = Outcome Read} (Answer x) (Refused n) = rw p at q in absurd cc
      large x false p q = let z : ◌≡◌ {A = Outcome Read} (Refused BadUleb) (Refused n) = rw p at q in cc

      go : (read_in 5 m limit pos ≡ Refused n)
          ⊎ ((x : Read) × (read_in 5 m limit pos ≡ Answer x) × (at_most32_bits x ≡ Refused n)) → (n ≡ 30) ⊎ (n ≡ 31) ⊎ (n ≡ 27)
      go (inl x) = refused_in 5 pos n x
      go (inr x) = inr (inl (large x.0 (ltb x.0.value (2 ^ 32)) refl x.2))

module _ (m : Memory) (limit pos : ℕ) where
  pub byte_faults : ByteFaults m limit pos
  byte_faults =
      record {
        truncated = (byte_cut m limit pos, λ h. sym (byte-limit m limit pos h));
        outside = (byte-outside m limit pos, λ h. sym (byte-loaded m limit pos h.0 (Refused 27) (sym h.1)));
        no_other = byte_refused m limit pos;
      }

  -- what a number's refusal says
  cut : Means m limit pos (Refused 30) → Cut m limit 5 pos
  cut (inl r) = r.1
  cut (inr (inl r)) = absurd (omega (arith, r.0))
  cut (inr (inr r)) = absurd (omega (arith, r.0))

  leaves : Means m limit pos (Refused 27) → Leaves m limit 5 pos
  leaves (inl r) = absurd (omega (arith, r.0))
  leaves (inr (inl r)) = r.1
  leaves (inr (inr r)) = absurd (omega (arith, r.0))

  bad : Means m limit pos (Refused 31) → Endless m limit 5 pos ⊎ AboveAll m limit pos
  bad (inl r) = absurd (omega (arith, r.0))
  bad (inr (inl r)) = absurd (omega (arith, r.0))
  bad (inr (inr r)) = r.1

  pub number_faults : Bytes m → NumberFaults m limit pos
  number_faults holds =
      record {
        truncated = (λ e. cut (meant e), λ r. exact m limit pos (Refused 30) (inl (refl, r)));
        bad_uleb = (λ e. bad (meant e), λ r. exact m limit pos (Refused 31) (inr (inr (refl, r))));
        outside = (λ e. leaves (meant e), λ r. exact m limit pos (Refused 27) (inr (inl (refl, r))));
        no_other = number_refused m limit pos;
      }
    where
      meant : {o : Outcome Read} → read_number m limit pos ≡ o → Means m limit pos o
      meant e = subst (Means m limit pos) e (means m limit holds pos)

pub exact_faults : ExactFaults
exact_faults = λ m holds limit pos. (byte_faults m limit pos, number_faults m limit pos holds)
