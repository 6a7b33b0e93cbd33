-- Laws of the number reader: a number that is read is below 2^32 and its bytes lie before the next address. Assumes nothing.
use Rattle.std.proofs.Common.{◌≡◌, ℕ, zero, suc, ◌+◌, ◌^◌, ◌<◌, Bool, true, false, ltb, refl, arith, ltb-true}
use Rattle.failure.specs.Outcome.{Outcome, Refused, Answer}
use Rattle.failure.specs.Failure.{BadUleb}
use Rattle.failure.proofs.Outcome.{answer_then}
use Rattle.mem.specs.Memory.{Memory}
use Rattle.leb.specs.Reader.{Read, read_byte, read_from, read_in, at_most32_bits, read_number}

module _ (m : Memory) (limit : ℕ) where
  moves-on : (k pos : ℕ) (x : Read) → read_in k m limit pos ≡ Answer x → pos < x.next
  moves-on zero pos x e = absurd cc
  moves-on (suc k) pos x e =
      let byte = answer_then (read_byte m limit pos) (λ b. read_from pos b (read_in k m limit (pos + 1))) x e in
      go byte.0 (ltb byte.0 128) refl (moves-on k (pos + 1)) byte.2
    where
      go : (b : ℕ) (t : Bool) → ltb b 128 ≡ t → ((y : Read) → read_in k m limit (pos + 1) ≡ Answer y → pos + 1 < y.next) →
          read_from pos b (read_in k m limit (pos + 1)) ≡ Answer x → pos < x.next
      go b true h more p =
          let q : Answer (record { value = b; next = pos + 1 }) ≡ Answer x = rw h at p in
          let same : pos + 1 ≡ x.next = cc in
          omega arith
      go b false h more p =
          let rest = answer_then (read_in k m limit (pos + 1)) _ x (rw h at p) in
          let after : rest.0.next ≡ x.next = cc (rest.2) in
          omega (arith, more rest.0 rest.1)

  -- what is said of a number that is read
  pub record Small (pos : ℕ) (r : Read) : Type 0 where
    pub value : r.value < 2 ^ 32
    pub next : pos < r.next

  pub small : (pos : ℕ) (r : Read) → read_number m limit pos ≡ Answer r → Small pos r
  unfolding read_number
  small pos r e =
      let x = answer_then (read_in 5 m limit pos) at_most32_bits r e in
      go x.0 (ltb x.0.value (2 ^ 32)) refl (moves-on 5 pos x.0 x.1) x.2
    where
      go : (x : Read) (t : Bool) → ltb x.value (2 ^ 32) ≡ t → pos < x.next → at_most32_bits x ≡ Answer r → Small pos r
      go x true h l p =
          let q : Answer x ≡ Answer r = rw h at p in
          let value : x.value ≡ r.value = cc in
          let next : x.next ≡ r.next = cc in
          record { value = omega (arith, ltb-true x.value (2 ^ 32) h); next = omega arith }
      go x false h l p = let q : ◌≡◌ {A = Outcome Read} (Refused BadUleb) (Answer r) = rw h at p in absurd cc
