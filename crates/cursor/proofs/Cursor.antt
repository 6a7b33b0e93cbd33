-- Laws of the cursor. Assumes nothing.
use Rattle.std.proofs.Common.{◌≡◌, ℕ, refl}
use Rattle.failure.specs.Outcome.{Outcome, Refused, Answer, ◌>>=◌}
use Rattle.mem.specs.Memory.{Memory}
use Rattle.leb.specs.Reader.{Read}
use Rattle.cursor.specs.Cursor.{past_byte, place_after, uleb_here, read_here, past}
use Rattle.cursor.specs.declared.Bytes.{Bytes}

-- on a refusal the cursor is the one that stood there
pub byte_stays : (c : Bytes) (n : ℕ) → past_byte c (Refused n) ≡ c
byte_stays c n = refl

pub number_stays : (c : Bytes) (n : ℕ) → past c (Refused n) ≡ c
number_stays c n = refl

-- the value at the place after it is the answer
pub together : (pos : ℕ) (o : Outcome Read) →
    ((o >>= λ x. Answer x.value) >>= λ v. Answer (record { value = v; next = place_after pos o })) ≡ o
together pos (Answer x) = refl
together pos (Refused n) = refl

-- the number at the cursor is the papers' number without its place
pub here_told : (m : Memory) (c : Bytes) → (uleb_here m c >>= λ x. Answer x.value) ≡ read_here m c
here_told m c = refl
