-- A run whose program and limit lie in the section is the same whatever else is lent: every byte that it reads lies in the first
-- region. Assumes nothing.
use Rattle.std.specs.Prelude.{if◌then◌else◌}
use mathlib.Core.Path.{◌≡◌, refl, ap}
use mathlib.Core.List.{List, ◌∷◌}
use Prim.Native.Nat.{ℕ, zero, suc, ◌+◌, ◌-◌, ◌≤◌}
use native.Mathlib.Omega.{arith}
use lib.Dec.{eqb}
use lib.ListN.{length}
use Rattle.failure.specs.Outcome.{Outcome, Answer, ◌>>=◌}
use Rattle.mem.specs.Memory.{Region, Memory, size, lent}
use Rattle.arch.specs.Arch.{Arch}
use Rattle.leb.specs.Reader.{read_byte, read_number, Read}
use Rattle.program.specs.declared.decode.Form.{Form}
use Rattle.program.specs.declared.decode.Form.TheVariants.{Whole, WithNumber, WithPair, Unknown}
use Rattle.program.specs.Operation.{form_of, Decoding, rest_at, decode}
use Rattle.program.specs.Run.{Stand, Ran, Turn, On, Ends, Refused, act, turned, run_from, begin, run}
use Rattle.leb.proofs.Numbers.{small}
use Rattle.leb.proofs.Section.{byte-same, uleb-same}
use Rattle.program.proofs.Decoding.{slot_at, decode-moves}

-- two memories with the same first region, in which the limit lies
module _ (r : Region) (m m' : Memory) (limit : ℕ) (inside : limit ≤ r.base + size r) where
  rest_same : (pos : ℕ) → r.base ≤ pos → (f : Form) → rest_at (r ∷ m) limit pos f ≡ rest_at (r ∷ m') limit pos f
  rest_same pos h (Whole op) = refl
  rest_same pos h (WithNumber o) = rw (uleb-same r m m' limit inside pos h)
  rest_same pos h WithPair = rw (uleb-same r m m' limit inside pos h) (second (read_number (r ∷ m') limit pos) refl)
    where
      second : (o : Outcome Read) → read_number (r ∷ m') limit pos ≡ o →
          (o >>= λ x. slot_at (r ∷ m) limit x) ≡ (o >>= λ x. slot_at (r ∷ m') limit x)
      second (Outcome.Refused n) p = refl
      second (Answer x) p = rw (uleb-same r m m' limit inside x.next (omega (arith, (small (r ∷ m') limit pos x p).next)))
  rest_same pos h Unknown = refl

  -- an operation that starts in the region
  pub decode-same : (pos : ℕ) → r.base ≤ pos → decode (r ∷ m) limit pos ≡ decode (r ∷ m') limit pos
  unfolding decode
  decode-same pos h = rw (byte-same r m m' limit inside pos h) (each (read_byte (r ∷ m') limit pos))
    where
      each : (o : Outcome ℕ) → (o >>= λ code. rest_at (r ∷ m) limit (pos + 1) (form_of code)) ≡
          (o >>= λ code. rest_at (r ∷ m') limit (pos + 1) (form_of code))
      each (Outcome.Refused n) = refl
      each (Answer code) = rest_same (pos + 1) (omega arith) (form_of code)

  module _ (a : Arch) (off : ℕ) where
    run_same_from :
        (left pos : ℕ) (s : Stand) → r.base ≤ pos → run_from left (r ∷ m) a limit off pos s ≡ run_from left (r ∷ m') a limit off pos s
    run_same_from zero pos s h = refl
    run_same_from (suc left) pos s h =
        rw (decode-same pos h) (opened (decode (r ∷ m') limit pos) refl (λ p s' l. run_same_from left p s' l))
      where
        turn : (next : ℕ) → ((s' : Stand) → run_from left (r ∷ m) a limit off next s' ≡ run_from left (r ∷ m') a limit off next s') →
            (t : Turn) →
            turned t (λ s'. run_from left (r ∷ m) a limit off next s') ≡ turned t (λ s'. run_from left (r ∷ m') a limit off next s')
        turn next f (On s') = f s'
        turn next f (Ends x) = refl
        turn next f (Refused n) = refl

        opened : (o : Outcome Decoding) → decode (r ∷ m') limit pos ≡ o →
            ((p : ℕ) (s' : Stand) → r.base ≤ p → run_from left (r ∷ m) a limit off p s' ≡ run_from left (r ∷ m') a limit off p s') →
            (o >>= λ d. turned (act a off d.next d.op s) (λ s'. run_from left (r ∷ m) a limit off d.next s')) ≡
            (o >>= λ d. turned (act a off d.next d.op s) (λ s'. run_from left (r ∷ m') a limit off d.next s'))
        opened (Outcome.Refused n) p f = refl
        opened (Answer d) p f =
            let later : r.base ≤ d.next = omega (arith, (decode-moves (r ∷ m') limit pos d p).1) in
            turn d.next (λ s'. f d.next s' later) (act a off d.next d.op s)

    -- a run of a program in the region
    pub run-same : (program : ℕ) → r.base ≤ program → run (r ∷ m) a program limit off ≡ run (r ∷ m') a program limit off
    unfolding run
    run-same program h =
        ap (λ (o : Outcome Ran). if eqb program 0 then Answer (record { state = (begin a).state; after = 0 }) else o)
        (run_same_from (limit - program) program (begin a) h)

-- with program and limit in the section the run is the same for every stack
pub run-section :
    (section : List ℕ) (base : ℕ) (stack stack' : List ℕ) (stack_base stackBase' : ℕ) (a : Arch) (program limit off : ℕ) →
    base ≤ program → limit ≤ base + length section →
    run (lent section base stack stack_base).regions a program limit off ≡
    run (lent section base stack' stackBase').regions a program limit off
run-section section base stack stack' stack_base stackBase' a program limit off h l =
    run-same (record { base = base; bytes = section }) _ _ limit l a off program h
