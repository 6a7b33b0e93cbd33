-- The number reader gives an outcome exactly where the outcome means what it says (specs/Meaning.antt). Assumes nothing.
use Rattle.std.proofs.Common.{◌≡◌, ℕ, zero, suc, ◌+◌, ◌-◌, ◌*◌, ◌^◌, ◌≤◌, ◌<◌, Bool, true, false, ltb, ◌⊎◌, List, [], ◌∷◌, length, refl, sym, ◌∙◌, ap, subst, inl, inr, arith, lt-ltb, le-ltb, ltb-true, ltb-false}
use native.Mathlib.Nat.{add-zero}
use Rattle.failure.specs.Outcome.{Outcome, Refused, Answer, ◌>>=◌}
use Rattle.failure.specs.Failure.{OutsideMemory, EkoTruncated, BadUleb}
use Rattle.mem.specs.Memory.{Memory, Bytes}
use Rattle.mem.specs.Word.{load}
use Rattle.mem.proofs.Bytes.{load_below}
use Rattle.leb.specs.Encoding.{Encodes, last, more}
use Rattle.leb.specs.Reader.{Read, read_byte, read_from, read_in, at_most32_bits, read_number}
use Rattle.leb.specs.Meaning.{Stand, Unended, Encoded, Cut, Leaves, Endless, Means}
use Rattle.leb.proofs.Reader.{byte-limit, byte-loaded, byte-read, byte_unread}

-- what an outcome means where k bytes may be read, before a number is held to 32 bits
abbrev MeansIn : Memory → ℕ → ℕ → ℕ → Outcome Read → Type 0
MeansIn m limit k pos (Answer x) = Encoded m limit k pos x.value x.next
MeansIn m limit k pos (Refused n) =
    ((n ≡ EkoTruncated) × Cut m limit k pos) ⊎ ((n ≡ OutsideMemory) × Leaves m limit k pos) ⊎ ((n ≡ BadUleb) × Endless m limit k pos)

-- what stands after an unended byte b, with its group below it
abbrev on : ℕ → Outcome Read → Outcome Read
on b o = o >>= λ x. Answer (record { value = b - 128 + 128 * x.value; next = x.next })

module _ (m : Memory) (limit : ℕ) where
  -- an unended byte before what stands after it
  prepend : (k pos b : ℕ) → pos < limit → load m 1 pos ≡ Answer b → 128 ≤ b → b < 256 →
      (o : Outcome Read) → MeansIn m limit k (pos + 1) o → MeansIn m limit (suc k) pos (on b o)
  prepend k pos b l e big small (Answer x) r =
      record {
        bytes = b ∷ r.bytes;
        encodes = more b r.bytes x.value big small r.encodes;
        short = omega (arith, r.short);
        stand = (l, e, r.stand);
        after = omega (arith, r.after);
      }
  prepend k pos b l e big small (Refused n) (inl (is, r)) =
      inl (
        is,
        record {
          bytes = b ∷ r.bytes;
          unended = (big, r.unended);
          short = omega (arith, r.short);
          stand = (l, e, r.stand);
          cut = omega (arith, r.cut);
        },
      )
  prepend k pos b l e big small (Refused n) (inr (inl (is, r))) =
      inr (inl (
        is,
        record {
          bytes = b ∷ r.bytes;
          unended = (big, r.unended);
          short = omega (arith, r.short);
          stand = (l, e, r.stand);
          below = omega (arith, r.below);
          nowhere =
              subst (λ (a : ℕ). load m 1 a ≡ Refused OutsideMemory) (omega arith) r.nowhere;
        },
      ))
  prepend k pos b l e big small (Refused n) (inr (inr (is, r))) =
      inr (inr (
        is,
        record {
          bytes = b ∷ r.bytes;
          unended = (big, r.unended);
          long = omega (arith, r.long);
          stand = (l, e, r.stand);
        },
      ))

  -- no byte
  none : (k pos n : ℕ) → read_byte m limit pos ≡ Refused n → MeansIn m limit (suc k) pos (Refused n)
  none k pos n e = go (byte_unread m limit pos n e)
    where
      go :
          ((n ≡ EkoTruncated) × (limit ≤ pos)) ⊎ ((n ≡ OutsideMemory) × (pos < limit) × (load m 1 pos ≡ Refused OutsideMemory)) →
          MeansIn m limit (suc k) pos (Refused n)
      go (inl (is, over)) =
          inl (is, record { bytes = []; unended = tt; short = omega arith; stand = tt; cut = omega arith })
      go (inr (is, below, out)) =
          inr (inl (
            is,
            record {
              bytes = [];
              unended = tt;
              short = omega arith;
              stand = tt;
              below = omega arith;
              nowhere = subst (λ (a : ℕ). load m 1 a ≡ Refused OutsideMemory) (sym (add-zero pos)) out;
            },
          ))

  module _ (holds : Bytes m) where
    at_byte : (k pos : ℕ) (x : Outcome ℕ) → read_byte m limit pos ≡ x → (o : Outcome Read) → MeansIn m limit k (pos + 1) o →
        MeansIn m limit (suc k) pos (x >>= λ b. read_from pos b o)
    at_byte k pos (Refused n) e o r = none k pos n e
    at_byte k pos (Answer b) e o r = go (ltb b 128) refl
      where
        go : (t : Bool) → ltb b 128 ≡ t → MeansIn m limit (suc k) pos (read_from pos b o)
        go true p =
            let read = byte-read m limit pos b e in
            rw p
            (record {
              bytes = b ∷ [];
              encodes = last b (ltb-true b 128 p);
              short = omega arith;
              stand = (read.0, read.1, tt);
              after = refl;
            })
        go false p =
            let read = byte-read m limit pos b e in
            rw p
            (prepend k pos b read.0 read.1 (ltb-false b 128 p) (load_below m holds 1 pos b read.1) o r)

    means_in : (k pos : ℕ) → MeansIn m limit k pos (read_in k m limit pos)
    means_in zero pos = inr (inr (refl, record { bytes = []; unended = tt; long = refl; stand = tt }))
    means_in (suc k) pos = at_byte k pos (read_byte m limit pos) refl (read_in k m limit (pos + 1)) (means_in k (pos + 1))

    -- the reader's outcome means what it says
    pub means : (pos : ℕ) → Means m limit pos (read_number m limit pos)
    unfolding read_number
    means pos = go (read_in 5 m limit pos) (means_in 5 pos)
      where
        go : (o : Outcome Read) → MeansIn m limit 5 pos o → Means m limit pos (o >>= at_most32_bits)
        go (Answer x) r = small (ltb x.value (2 ^ 32)) refl
          where
            small : (t : Bool) → ltb x.value (2 ^ 32) ≡ t → Means m limit pos (at_most32_bits x)
            small true p = rw p (r, ltb-true x.value (2 ^ 32) p)
            small false p = rw p (inr (inr (refl, inr (x.value, x.next, r, ltb-false x.value (2 ^ 32) p))))
        go (Refused n) (inl r) = inl r
        go (Refused n) (inr (inl r)) = inr (inl r)
        go (Refused n) (inr (inr (is, r))) = inr (inr (is, inl r))

  -- a byte that stands is read
  reads : (pos b : ℕ) → pos < limit → load m 1 pos ≡ Answer b → read_byte m limit pos ≡ Answer b
  reads pos b l e = sym (byte-loaded m limit pos l (Answer b) (sym e))

  -- an encoding that stands is read
  encoded_in : (bs : List ℕ) (v : ℕ) → Encodes bs v → (k pos : ℕ) → length bs ≤ k → Stand m limit pos bs →
      read_in k m limit pos ≡ Answer (record { value = v; next = pos + length bs })
  encoded_in bs v (last b small) zero pos short stand = absurd (omega arith)
  encoded_in bs v (last b small) (suc k) pos short stand =
      ap (λ (x : Outcome ℕ). x >>= λ c. read_from pos c (read_in k m limit (pos + 1))) (reads pos b stand.0 stand.1)
      ∙ simp (lt-ltb b 128 small)
  encoded_in bs v (more b bs' v' big small enc) zero pos short stand = absurd (omega arith)
  encoded_in bs v (more b bs' v' big small enc) (suc k) pos short stand =
      ap (λ (x : Outcome ℕ). x >>= λ c. read_from pos c (read_in k m limit (pos + 1))) (reads pos b stand.0 stand.1)
      ∙ simp (le-ltb b 128 big)
      (ap (on b) (encoded_in bs' v' enc k (pos + 1) (omega arith) stand.2)
      ∙ ap (λ (a : ℕ). Answer (record { value = b - 128 + 128 * v'; next = a })) (omega arith))

  -- what is refused after unended bytes is refused before them
  through : (n : ℕ) (bs : List ℕ) (k pos : ℕ) → Unended bs → Stand m limit pos bs →
      read_in k m limit (pos + length bs) ≡ Refused n → read_in (length bs + k) m limit pos ≡ Refused n
  through n [] k pos un stand e =
      let none : 0 + k ≡ k = omega arith in
      ap (λ (i : ℕ). read_in i m limit pos) none ∙ ap (λ (a : ℕ). read_in k m limit a) (sym (add-zero pos)) ∙ e
  through n (b ∷ bs) k pos un stand e =
      let one : suc (length bs) + k ≡ suc (length bs + k) = omega arith in
      let place : pos + 1 + length bs ≡ pos + suc (length bs) = omega arith in
      let next : read_in (length bs + k) m limit (pos + 1) ≡ Refused n =
      through n bs k (pos + 1) un.1 stand.2 (ap (λ (a : ℕ). read_in k m limit a) place ∙ e) in
      ap (λ (i : ℕ). read_in i m limit pos) one
      ∙ ap (λ (x : Outcome ℕ). x >>= λ c. read_from pos c (read_in (length bs + k) m limit (pos + 1))) (reads pos b stand.0 stand.1)
      ∙ simp (le-ltb b 128 un.0) (ap (on b) next)

  -- fewer than five unended bytes, and then what the next byte is refused with
  refused : (pos : ℕ) (bs : List ℕ) → length bs < 5 → (n : ℕ) → Unended bs → Stand m limit pos bs →
      Refused n ≡ read_byte m limit (pos + length bs) → read_in 5 m limit pos ≡ Refused n
  refused pos bs short n un stand e =
      let k : length bs + suc (4 - length bs) ≡ 5 = omega arith in
      ap (λ (i : ℕ). read_in i m limit pos) (sym k)
      ∙ through n bs (suc (4 - length bs)) pos un stand
      (ap (λ (x : Outcome ℕ). x >>= λ b. read_from (pos + length bs) b (read_in (4 - length bs) m limit (pos + length bs + 1))) (sym e))

  -- and the other way round: the reader gives every outcome that means what it says
  pub exact : (pos : ℕ) (o : Outcome Read) → Means m limit pos o → read_number m limit pos ≡ o
  unfolding read_number
  exact pos (Answer x) r =
      ap (λ (o : Outcome Read). o >>= at_most32_bits) (encoded_in r.0.bytes x.value r.0.encodes 5 pos r.0.short r.0.stand)
      ∙ simp (lt-ltb x.value (2 ^ 32) r.1) (ap (λ (a : ℕ). Answer (record { value = x.value; next = a })) (sym r.0.after))
  exact pos (Refused n) (inl (is, r)) =
      ap (λ (o : Outcome Read). o >>= at_most32_bits)
      (refused pos r.bytes r.short EkoTruncated r.unended r.stand (byte-limit m limit (pos + length r.bytes) r.cut))
      ∙ ap Refused (sym is)
  exact pos (Refused n) (inr (inl (is, r))) =
      ap (λ (o : Outcome Read). o >>= at_most32_bits)
      (refused pos r.bytes r.short OutsideMemory r.unended r.stand
      (byte-loaded m limit (pos + length r.bytes) r.below (Refused OutsideMemory) (sym r.nowhere)))
      ∙ ap Refused (sym is)
  exact pos (Refused n) (inr (inr (is, inl r))) =
      let five : length r.bytes + 0 ≡ 5 = omega (arith, r.long) in
      ap (λ (o : Outcome Read). o >>= at_most32_bits)
      (ap (λ (i : ℕ). read_in i m limit pos) (sym five) ∙ through BadUleb r.bytes 0 pos r.unended r.stand refl)
      ∙ ap Refused (sym is)
  exact pos (Refused n) (inr (inr (is, inr r))) =
      ap (λ (o : Outcome Read). o >>= at_most32_bits) (encoded_in r.2.bytes r.0 r.2.encodes 5 pos r.2.short r.2.stand)
      ∙ simp (le-ltb r.0 (2 ^ 32) r.3) (ap Refused (sym is))
