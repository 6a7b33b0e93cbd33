-- The number reader (document 01, "The state program": "Uleb: DWARF's, padding allowed, at most 5 bytes, at most 2^32 - 1"). Its faults
-- have the numbers of document 02 (c): 30 for the limit, 31 for the number.
use Rattle.std.specs.Prelude.{ℕ, zero, suc, ◌+◌, ◌-◌, ◌*◌, ◌^◌, leb, ltb, if◌then◌else◌, Result}
use Rattle.failure.specs.declared.Failure.{Failure}
use Rattle.failure.specs.Outcome.{Outcome, Refused, Answer, ◌>>=◌, map, outcome}
use Rattle.failure.specs.Failure.{BadOpening, EkoTruncated, BadUleb}
use Rattle.mem.specs.Memory.{Memory, Lent}
use Rattle.mem.specs.Opening.{opens}
use Rattle.mem.specs.Word.{load}

-- the papers' outcome of the byte at pos: 30 at or past the limit, which is looked at before memory, else what memory has there, or 27
unfoldable pub read_byte : Memory → ℕ → ℕ → Outcome ℕ
read_byte m limit pos = if leb limit pos then Refused EkoTruncated else load m 1 pos

-- a number and the address after it
pub record Read : Type 0 where
  pub value : ℕ
  pub next : ℕ

-- of a number whose first byte, at pos, is b, by that of what stands after it
abbrev pub read_from : ℕ → ℕ → Outcome Read → Outcome Read
read_from pos b rest =
    if ltb b 128 then Answer (record { value = b; next = pos + 1 })
    else rest >>= λ x. Answer (record { value = b - 128 + 128 * x.value; next = x.next })

-- of the number at pos, in at most so many bytes: 31 where they have no end
abbrev pub read_in : ℕ → Memory → ℕ → ℕ → Outcome Read
read_in zero m limit pos = Refused BadUleb
read_in (suc k) m limit pos = read_byte m limit pos >>= λ b. read_from pos b (read_in k m limit (pos + 1))

-- of a number, held to 2^32 - 1: 31 above it
abbrev pub at_most32_bits : Read → Outcome Read
at_most32_bits x = if ltb x.value (2 ^ 32) then Answer x else Refused BadUleb

-- of the number at pos: at most 5 bytes, at most 2^32 - 1, else 31
unfoldable pub read_number : Memory → ℕ → ℕ → Outcome Read
read_number m limit pos = do
  x ← read_in 5 m limit pos
  at_most32_bits x

-- the number at pos in what is lent: 28 first
unfoldable pub read_uleb : Lent → ℕ → ℕ → Outcome Read
read_uleb l limit pos = if opens l then read_number l.regions limit pos else Refused BadOpening

-- what a result comes to: a number and the address after it, or its failure's number
abbrev pub told : Result (ℕ × ℕ) Failure → Outcome Read
told r = map (λ x. record { value = x.0; next = x.1 }) (outcome r)
