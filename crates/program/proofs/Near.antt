-- Laws of operations that are read in the section by index. Assumes nothing.
use mathlib.Core.Path.{◌≡◌, sym, ◌∙◌, ap}
use mathlib.Core.List.{List, ◌∷◌}
use Prim.Native.Nat.{ℕ, ◌+◌, ◌-◌, ◌≤◌, ◌<◌}
use native.Mathlib.Omega.{arith}
use lib.ListN.{length, get_or, take, drop}
use lib.Seq.{drop-cons}
use Rattle.failure.specs.Outcome.{Answer}
use Rattle.mem.specs.Memory.{Memory}
use Rattle.mem.specs.Place.{bytes_at}
use Rattle.mem.specs.Word.{little_endian, load}
use Rattle.mem.proofs.Place.{holds_when}
use Rattle.leb.specs.Reader.{read_byte}
use Rattle.leb.proofs.Reader.{byte-loaded}
use Rattle.program.specs.declared.decode.Op.{Op}
use Rattle.program.specs.declared.decode.Incomplete.{Incomplete}
use Rattle.program.specs.declared.decode.Form.TheVariants.{Whole, WithNumber}
use Rattle.program.specs.Operation.{form_of, completed, decode}
use Rattle.program.specs.Near.{Near}
use Rattle.program.proofs.Decoding.{short-number, rest_whole, rest_number, decode-byte}

-- what lies near from a place on lies near from a later one on
pub near_later : (section : List ℕ) (base limit pos end : ℕ) → Near section base limit pos end → (to : ℕ) → pos ≤ to →
    Near section base limit to end
near_later section base limit pos end n to l h =
    let (low, below, inside) = n (omega arith) in
    (omega arith, below, inside)

-- the number in the first byte of some bytes
one : (b : List ℕ) (k : ℕ) → k < length b → little_endian (take 1 (drop k b)) ≡ get_or b k 0
one b k h = rw (drop-cons b k 0) (omega arith)

module _ (section : List ℕ) (base limit pos end : ℕ) (near : Near section base limit pos end) (before : pos < end) (rest : Memory) where
  -- a byte of the section is memory's byte at its address
  load_near : Answer (get_or section (pos - base) 0) ≡ load (record { base = base; bytes = section } ∷ rest) 1 pos
  unfolding load bytes_at
  load_near =
      let (low, below, inside) = near before in
      rw (holds_when base (length section) pos 1 low (omega arith)) (ap Answer (sym (one section (pos - base) (omega arith))))

  pub near_byte : (v : ℕ) → v ≡ get_or section (pos - base) 0 → Answer v ≡ read_byte (record { base = base; bytes = section } ∷ rest) limit pos
  near_byte v e =
      let (low, below, inside) = near before in
      byte-loaded (record { base = base; bytes = section } ∷ rest) limit pos (omega arith) (Answer v) (ap Answer e ∙ load_near)

module _ (m : Memory) (limit pos b : ℕ) (e : Answer b ≡ read_byte m limit pos) where
  -- an operation of one byte
  pub near_whole : (op : Op) → Whole op ≡ form_of b → Answer (record { op = op; next = pos + 1 }) ≡ decode m limit pos
  near_whole op p = rest_whole m limit (pos + 1) op ∙ decode-byte m limit pos b (Whole op) e p

  -- one with a number of one byte
  pub near_number :
      (o : Incomplete) → WithNumber o ≡ form_of b → (n : ℕ) → Answer n ≡ read_byte m limit (pos + 1) → n < 128 →
      Answer (record { op = completed o n; next = pos + 1 + 1 }) ≡ decode m limit pos
  near_number o p n g h =
      rest_number m limit (pos + 1) o n (pos + 1 + 1) (short-number m limit (pos + 1) n g h) ∙ decode-byte m limit pos b (WithNumber o) e p
