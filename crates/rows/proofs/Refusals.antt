-- A version 2 table is refused with 18, 24, 27, 30 or 31 and no other number. Assumes nothing.
use Rattle.std.proofs.Common.{if◌then◌else◌, ◌≡◌, refl, sym, subst, Bool, true, false, ◌⊎◌, inl, inr, ℕ, zero, suc, ◌+◌, ◌/◌, ◌%◌, eqb, ltb}
use Rattle.failure.specs.Outcome.{Outcome, Refused, Answer, ◌>>=◌}
use Rattle.failure.specs.Failure.{BadEkoRecord, EkoAmbiguousCallSite, OutsideMemory, EkoTruncated, BadUleb}
use Rattle.mem.specs.Memory.{Memory}
use Rattle.leb.specs.Reader.{Read}
use Rattle.leb.proofs.Faults.{number_refused}
use Rattle.rows.specs.Row.{Found, None, Pad, valid, checked}
use Rattle.rows.specs.Handler2.{uleb, next_delta, matched, decide, rows_from, handler2}

-- the numbers of a refusal
pub data Refusal : ℕ → Type 0 where
  bad_record_lem : Refusal BadEkoRecord
  ambiguous : Refusal EkoAmbiguousCallSite
  outside : Refusal OutsideMemory
  truncated : Refusal EkoTruncated
  bad_uleb_lem : Refusal BadUleb

-- what an outcome is refused with, if it is
abbrev Bears : {A : Type 0} → Outcome A → Type 0
Bears (Refused n) = Refusal n
Bears (Answer a) = Unit

-- a number
number_bears : (m : Memory) (limit pos : ℕ) → Bears (uleb m limit pos)
number_bears m limit pos = go (uleb m limit pos) refl
  where
    one : (n : ℕ) → (n ≡ 30) ⊎ (n ≡ 31) ⊎ (n ≡ 27) → Refusal n
    one n (inl p) = subst (λ (k : ℕ). Refusal k) (sym p) truncated
    one n (inr (inl p)) = subst (λ (k : ℕ). Refusal k) (sym p) bad_uleb_lem
    one n (inr (inr p)) = subst (λ (k : ℕ). Refusal k) (sym p) outside

    go : (x : Outcome Read) → uleb m limit pos ≡ x → Bears x
    go (Refused n) e = one n (number_refused m limit pos n e)
    go (Answer r) e = tt

-- one thing after another
then_bears : {A B : Type 0} (x : Outcome A) (f : A → Outcome B) → Bears x → ((a : A) → Bears (f a)) → Bears (x >>= f)
then_bears (Refused n) f b g = b
then_bears (Answer a) f b g = g a

-- a row that was found
checked_bears : (pad action : ℕ) → Bears (checked pad action)
unfolding checked
checked_bears pad action = go (valid pad action)
  where
    go : (t : Bool) → Bears (if t then Answer (Pad pad action) else Refused BadEkoRecord)
    go true = tt
    go false = bad_record_lem

module _ (m : Memory) (limit : ℕ) where
  matched_bears : (left pos word : ℕ) → Bears (matched m limit left pos word)
  unfolding matched next_delta
  matched_bears left pos word =
      then_bears (next_delta m limit left pos) settle (peeked (eqb left 0)) (λ next. settled next (eqb next 0))
    where
      settle : ℕ → Outcome Found
      settle next = if eqb next 0 then Refused EkoAmbiguousCallSite else checked (word / 4) (word % 4)

      settled : (next : ℕ) (t : Bool) → Bears (if t then Refused EkoAmbiguousCallSite else checked (word / 4) (word % 4))
      settled next true = ambiguous
      settled next false = checked_bears (word / 4) (word % 4)

      peeked : (t : Bool) → Bears (if t then Answer 1 else (uleb m limit pos >>= λ delta. Answer delta.value))
      peeked true = tt
      peeked false = then_bears (uleb m limit pos) (λ delta. Answer delta.value) (number_bears m limit pos) (λ delta. tt)

  rows_bear : (left pos at ret : ℕ) → Bears (rows_from left m limit pos at ret)
  rows_bear zero pos at ret = tt
  rows_bear (suc left) pos at ret =
      then_bears (uleb m limit pos) (λ delta. uleb m limit delta.next >>= λ word. row delta word) (number_bears m limit pos)
      (λ delta. then_bears (uleb m limit delta.next) (λ word. row delta word) (number_bears m limit delta.next)
      (λ word. decided delta word (eqb delta.value 0) (ltb ret (at + delta.value)) (eqb (at + delta.value) ret)
      (rows_bear left word.next (at + delta.value) ret)))
    where
      rest : Read → Read → Outcome Found
      rest delta word = rows_from left m limit word.next (at + delta.value) ret

      row : Read → Read → Outcome Found
      row delta word = decide m limit ret left at delta.value word.value word.next (rest delta word)

      decided : (delta word : Read) (none past here : Bool) → Bears (rest delta word) →
          Bears
          (if none then Refused EkoAmbiguousCallSite
          else if past then Answer None
          else if here then matched m limit left word.next word.value
          else rest delta word)
      decided delta word true past here later = ambiguous
      decided delta word false true here later = tt
      decided delta word false false true later = matched_bears left word.next word.value
      decided delta word false false false later = later

  -- a table that is refused
  pub handler2_refusal : (table ret n : ℕ) → handler2 m table limit ret ≡ Refused n → Refusal n
  unfolding handler2
  handler2_refusal table ret n e =
      subst Bears e
      (then_bears (uleb m limit table) (λ rows. rows_from rows.value m limit rows.next 0 ret) (number_bears m limit table)
      (λ rows. rows_bear rows.value rows.next 0 ret))
