-- Laws of `rest_at` and `decode`. Assumes nothing.
use mathlib.Core.Path.{◌≡◌, refl, sym}
use Prim.Native.Nat.{ℕ, ◌+◌, ◌^◌, ◌≤◌, ◌<◌}
use native.Mathlib.Omega.{arith}
use borrow.Author.Tests.{lt-ltb}
use Rattle.failure.specs.Outcome.{Outcome, Refused, Answer, ◌>>=◌}
use Rattle.failure.specs.Failure.{BadEkoRecord, EkoTruncated}
use Rattle.failure.proofs.Outcome.{answer_then}
use Rattle.mem.specs.Memory.{Memory}
use Rattle.leb.specs.Reader.{read_byte, read_number, Read}
use Rattle.leb.proofs.Reader.{byte-read, byte-limit}
use Rattle.program.specs.declared.decode.Rule.TheVariants as rule
use Rattle.program.specs.declared.decode.Op.{Op}
use Rattle.program.specs.declared.decode.Op.TheVariants.{Set}
use Rattle.program.specs.declared.decode.Incomplete.{Incomplete}
use Rattle.program.specs.declared.decode.Form.{Form}
use Rattle.program.specs.declared.decode.Form.TheVariants.{Whole, WithNumber, WithPair, Unknown}
use Rattle.program.specs.Operation.{form_of, completed, Decoding, rest_at, decode}
use Rattle.leb.proofs.Numbers.{small}

-- a number of one byte
pub short-number :
    (m : Memory) (limit pos b : ℕ) → Answer b ≡ read_byte m limit pos → b < 128 →
    Answer (record { value = b; next = pos + 1 }) ≡ read_number m limit pos
unfolding read_number
short-number m limit pos b e h = rw (sym e) (simp (lt-ltb b 128 h, lt-ltb b (2 ^ 32) (omega arith)))

-- the slot after a register
abbrev pub slot_at : Memory → ℕ → Read → Outcome Decoding
slot_at m limit x = do
  y ← read_number m limit x.next
  Answer (record { op = Set (rule.Save x.value y.value); next = y.next })

module _ (m : Memory) (limit pos : ℕ) where
  -- a whole operation
  pub rest_whole : (op : Op) → Answer (record { op = op; next = pos }) ≡ rest_at m limit pos (Whole op)
  rest_whole op = refl

  pub rest_unknown : Refused BadEkoRecord ≡ rest_at m limit pos Unknown
  rest_unknown = refl

  -- an operation that a number completes
  pub rest_number :
      (o : Incomplete) (n next : ℕ) → Answer (record { value = n; next = next }) ≡ read_number m limit pos →
      Answer (record { op = completed o n; next = next }) ≡ rest_at m limit pos (WithNumber o)
  rest_number o n next e = rw (sym e)

  pub rest_number_refused : (o : Incomplete) (x : ℕ) → Refused x ≡ read_number m limit pos → Refused x ≡ rest_at m limit pos (WithNumber o)
  rest_number_refused o x e = rw (sym e)

  -- a register and a slot
  pub rest_pair :
      (reg mid slot next : ℕ) → Answer (record { value = reg; next = mid }) ≡ read_number m limit pos →
      Answer (record { value = slot; next = next }) ≡ read_number m limit mid →
      Answer (record { op = Set (rule.Save reg slot); next = next }) ≡ rest_at m limit pos WithPair
  rest_pair reg mid slot next e g = rw (sym e, sym g)

  pub rest_slot_refused :
      (reg mid x : ℕ) → Answer (record { value = reg; next = mid }) ≡ read_number m limit pos →
      Refused x ≡ read_number m limit mid → Refused x ≡ rest_at m limit pos WithPair
  rest_slot_refused reg mid x e g = rw (sym e, sym g)

  pub rest_reg_refused : (x : ℕ) → Refused x ≡ read_number m limit pos → Refused x ≡ rest_at m limit pos WithPair
  rest_reg_refused x e = rw (sym e)

  -- a first byte, and what follows it
  pub decode-byte :
      (b : ℕ) (f : Form) → Answer b ≡ read_byte m limit pos → f ≡ form_of b → rest_at m limit (pos + 1) f ≡ decode m limit pos
  unfolding decode
  decode-byte b f e p = rw (sym e, p)

  pub decode_refused : (x : ℕ) → Refused x ≡ read_byte m limit pos → Refused x ≡ decode m limit pos
  unfolding decode
  decode_refused x e = rw (sym e)

  -- at or past the limit
  pub decode-limit : limit ≤ pos → decode m limit pos ≡ Refused EkoTruncated
  unfolding decode
  decode-limit h = rw (sym (byte-limit m limit pos h))

-- what follows a first byte reaches past it
rest_moves :
    (m : Memory) (limit pos : ℕ) (f : Form) (d : Decoding) → rest_at m limit pos f ≡ Answer d → pos ≤ d.next
rest_moves m limit pos (Whole op) d = λ e. (let same : pos ≡ d.next = cc in omega arith)
rest_moves m limit pos (WithNumber o) d = λ e.
    let (r, p, q) = answer_then (read_number m limit pos) (λ r. Answer (record { op = completed o r.value; next = r.next })) d e in
    let same : r.next ≡ d.next = cc in
    omega (arith, (small m limit pos r p).next)
rest_moves m limit pos WithPair d = λ e.
    let (r, p, q) = answer_then (read_number m limit pos) (λ r. slot_at m limit r) d e in
    let (t, u, v) = answer_then (read_number m limit r.next) (λ t. Answer (record { op = Set (rule.Save r.value t.value); next = t.next })) d q in
    let same : t.next ≡ d.next = cc in
    omega (arith, (small m limit pos r p).next, (small m limit r.next t u).next)
rest_moves m limit pos Unknown d = λ e. (cc)

-- an operation that is read starts below the limit, and the next address is past it
pub decode-moves :
    (m : Memory) (limit pos : ℕ) (d : Decoding) → decode m limit pos ≡ Answer d → (pos < limit) × (pos < d.next)
unfolding decode
decode-moves m limit pos d e =
    let (b, p, q) = answer_then (read_byte m limit pos) (λ code. rest_at m limit (pos + 1) (form_of code)) d e in
    let next : pos + 1 ≤ d.next = rest_moves m limit (pos + 1) (form_of b) d q in
    ((byte-read m limit pos b p).0, omega arith)
