-- What the number reader's loop has read so far, and what a turn adds to it. Assumes nothing.
use Rattle.std.proofs.Common.{◌≡◌, ℕ, suc, ◌+◌, ◌-◌, ◌*◌, ◌%◌, ◌^◌, ◌≤◌, ◌<◌, refl, sym, ◌∙◌, ap, arith, lit<, lt-ltb, le-ltb, pow-suc, add-one}
use native.Mathlib.Nat.{pow-le-pow_right, mul-le-mul_right}
use Rattle.failure.specs.Outcome.{Outcome, Refused, Answer, ◌>>=◌, map}
use Rattle.failure.specs.Failure.{BadUleb}
use Rattle.mem.specs.Memory.{Memory}
use Rattle.leb.specs.Reader.{Read, read_byte, read_from, read_in, at_most32_bits, read_number}

-- the number v, and weight times the number that follows
abbrev plus : ℕ → ℕ → Read → Read
plus v weight x = record { value = v + weight * x.value; next = x.next }

-- after i bytes the number so far is v, the next group has this weight, and the reader stands at `at`
pub record Sofar (m : Memory) (limit pos v weight at i : ℕ) : Type 0 where
  pub bytes : i ≤ 5
  pub power : weight ≡ 128 ^ i
  pub small : v < weight
  pub rest : read_in 5 m limit pos ≡ map (plus v weight) (read_in (5 - i) m limit at)

plus_none : (o : Outcome Read) → o ≡ map (plus 0 1) o
plus_none (Refused n) = refl
plus_none (Answer x) = ap (λ (k : ℕ). Answer (record { value = k; next = x.next })) (omega arith)

plus_above : (v weight low : ℕ) (o : Outcome Read) →
    map (plus v weight) (o >>= λ x. Answer (record { value = low + 128 * x.value; next = x.next }))
    ≡ map (plus (v + low * weight) (weight * 128)) o
plus_above v weight low (Refused n) = refl
plus_above v weight low (Answer x) = ap (λ (k : ℕ). Answer (record { value = k; next = x.next })) (omega arith)

module _ (m : Memory) (limit pos : ℕ) where
  pub begin : Sofar m limit pos 0 1 pos 0
  begin =
      record { bytes = omega arith; power = refl; small = lit< tt; rest = plus_none (read_in 5 m limit pos) }

  module _ (v weight at i : ℕ) (s : Sofar m limit pos v weight at i) where
    -- a group's weight while a byte is left
    pub weight_bound : i < 5 → weight ≤ 268435456
    weight_bound h =
        let p : 128 ^ i ≤ 128 ^ 4 = pow-le-pow_right (lit< tt) {i = i} {j = 4} (omega arith) in
        omega (arith, s.power)

    -- what the byte at the reader comes to
    at_byte : i < 5 → (b : Outcome ℕ) → read_byte m limit at ≡ b →
        read_in 5 m limit pos ≡ map (plus v weight) (b >>= λ x. read_from at x (read_in (5 - (i + 1)) m limit (at + 1)))
    at_byte h b e =
        let n : 5 - i ≡ suc (5 - (i + 1)) = omega arith in
        s.rest ∙ ap (λ (k : ℕ). map (plus v weight) (read_in k m limit at)) n
        ∙ ap (λ (o : Outcome ℕ). map (plus v weight) (o >>= λ x. read_from at x (read_in (5 - (i + 1)) m limit (at + 1)))) e

    -- a byte with bit 7 set: the next turn
    pub turn : i < 5 → (b : ℕ) → Answer b ≡ read_byte m limit at → 128 ≤ b → b < 256 →
        Sofar m limit pos (v + (b % 128) * weight) (weight * 128) (at + 1) (i + 1)
    turn h b e big byteSized =
        let low : b % 128 ≡ b - 128 = omega arith in
        let group : (b % 128) * weight ≤ 127 * weight = mul-le-mul_right weight (omega arith) in
        record {
          bytes = omega arith;
          power = ap (λ (k : ℕ). k * 128) s.power ∙ sym (pow-suc 128 i) ∙ ap (λ (k : ℕ). 128 ^ k) (sym (add-one i));
          small = omega (arith, s.small);
          rest =
              at_byte h (Answer b) (sym e)
              ∙ simp (le-ltb b 128 big)
              (plus_above v weight (b - 128) (read_in (5 - (i + 1)) m limit (at + 1))
              ∙ ap (λ (k : ℕ). map (plus (v + k * weight) (weight * 128)) (read_in (5 - (i + 1)) m limit (at + 1))) (sym low));
        }

    -- a byte with bit 7 clear: the number's end
    pub ends : i < 5 → (b : ℕ) → Answer b ≡ read_byte m limit at → b < 128 →
        at_most32_bits (record { value = v + (b % 128) * weight; next = at + 1 }) ≡ read_number m limit pos
    unfolding read_number
    ends h b e small =
        let low : b % 128 ≡ b = omega arith in
        let sum : v + (b % 128) * weight ≡ v + weight * b = omega (arith, ap (λ (k : ℕ). k * weight) low) in
        let whole : read_in 5 m limit pos ≡ Answer (record { value = v + weight * b; next = at + 1 }) =
        at_byte h (Answer b) (sym e) ∙ simp (lt-ltb b 128 small) in
        ap (λ (k : ℕ). at_most32_bits (record { value = k; next = at + 1 })) sum
        ∙ sym (ap (λ (o : Outcome Read). o >>= at_most32_bits) whole)

    -- no byte
    pub stops : i < 5 → (n : ℕ) → Refused n ≡ read_byte m limit at → Refused n ≡ read_number m limit pos
    unfolding read_number
    stops h n e = sym (ap (λ (o : Outcome Read). o >>= at_most32_bits) (at_byte h (Refused n) (sym e)))

    -- five bytes without an end
    pub over : 5 ≤ i → Refused BadUleb ≡ read_number m limit pos
    unfolding read_number
    over h =
        let n : 5 - i ≡ 0 = omega (arith, s.bytes) in
        sym
        (ap (λ (o : Outcome Read). o >>= at_most32_bits)
        (s.rest ∙ ap (λ (k : ℕ). map (plus v weight) (read_in k m limit at)) n))
