-- A run is refused exactly where it comes to an operation that is not read, or not carried out. Assumes nothing.
use mathlib.Core.Path.{◌≡◌, refl, sym, ◌∙◌, ap}
use Prim.Native.Nat.{ℕ, zero, suc, ◌+◌, ◌-◌, ◌≤◌}
use native.Mathlib.Omega.{arith}
use Rattle.failure.specs.Outcome.{Outcome, Answer, ◌>>=◌}
use Rattle.failure.specs.Failure.{EkoTruncated}
use Rattle.mem.specs.Memory.{Memory}
use Rattle.arch.specs.Arch.{Arch}
use Rattle.program.specs.Operation.{Decoding, decode}
use Rattle.program.specs.Run.{Stand, Ran, Turn, On, Ends, Refused, act, turned, run_from, begin, run}
use Rattle.program.specs.Faults.{Comes, first, later}
use Rattle.program.proofs.Decoding.{decode-limit, decode-moves}
use Rattle.program.proofs.Loop.{started, Opened, open_op}

-- the operation at pos is refused: it is not read, or it is read and not carried out
pub data Stops (m : Memory) (a : Arch) (limit off pos : ℕ) (s : Stand) (n : ℕ) : Type 0 where
  unread : decode m limit pos ≡ Outcome.Refused n → Stops m a limit off pos s n
  undone : (d : Decoding) → decode m limit pos ≡ Answer d → act a off d.next d.op s ≡ Refused n → Stops m a limit off pos s n

module _ (m : Memory) (a : Arch) (program limit off : ℕ) (some : program ≡ 0 → ⊥) where
  -- what is left of the run where it comes to an operation
  record Left (pos : ℕ) (s : Stand) : Type 0 where
    pub left : ℕ
    pub enough : limit ≤ left + pos
    pub same : run m a program limit off ≡ run_from left m a limit off pos s

  opened : (pos : ℕ) (s : Stand) (l : Left pos s) (d : Decoding) → decode m limit pos ≡ Answer d →
      Opened m a program limit off pos d.next d.op l.left s
  opened pos s l d e = open_op m a program limit off pos d.next d.op l.left s l.enough (sym e)

  -- the run, by the operation at pos
  by_turn : (pos : ℕ) (s : Stand) (l : Left pos s) (d : Decoding) (e : decode m limit pos ≡ Answer d) (t : Turn) →
      act a off d.next d.op s ≡ t →
      run m a program limit off ≡ turned t (λ s'. run_from (opened pos s l d e).after m a limit off d.next s')
  by_turn pos s l d e t p =
      l.same ∙ (opened pos s l d e).same
      ∙ ap (λ (x : Turn). turned x (λ s'. run_from (opened pos s l d e).after m a limit off d.next s')) p

  left_at : (pos : ℕ) (s : Stand) → Comes m a program limit off pos s → Left pos s
  left_at pos s first = record { left = limit - program; enough = omega arith; same = started m a program limit off some }
  left_at pos s (later from s₀ c d e s' p) =
      let l = left_at from s₀ c in
      record {
        left = (opened from s₀ l d e).after;
        enough = (opened from s₀ l d e).enough;
        same = by_turn from s₀ l d e (On s') p;
      }

  -- a run that comes to a refused operation is refused so
  pub stops-run : (pos : ℕ) (s : Stand) → Comes m a program limit off pos s → (n : ℕ) → Stops m a limit off pos s n →
      run m a program limit off ≡ Outcome.Refused n
  stops-run pos s c n (unread e) = (left_at pos s c).same ∙ go (left_at pos s c).left (left_at pos s c).enough
    where
      go : (left : ℕ) → limit ≤ left + pos → run_from left m a limit off pos s ≡ Outcome.Refused n
      go zero h =
          let cut : ◌≡◌ {A = Outcome Decoding} (Outcome.Refused n) (Outcome.Refused EkoTruncated) =
          sym e ∙ decode-limit m limit pos (omega arith) in
          let same : EkoTruncated ≡ n = cc in
          ap Outcome.Refused same
      go (suc k) h = rw e
  stops-run pos s c n (undone d e t) = by_turn pos s (left_at pos s c) d e (Refused n) t

  -- an operation that the run comes to is refused
  abbrev pub Stopped : ℕ → Type 0
  Stopped n = (pos : ℕ) × (s : Stand) × Comes m a program limit off pos s × Stops m a limit off pos s n

  -- and a run that is refused comes to such an operation
  stops-from : (n left pos : ℕ) (s : Stand) → limit ≤ left + pos → Comes m a program limit off pos s →
      run_from left m a limit off pos s ≡ Outcome.Refused n → Stopped n
  stops-from n zero pos s h c e =
      (pos, s, c, unread (decode-limit m limit pos (omega arith) ∙ ap Outcome.Refused (refused e)))
    where
      refused : ◌≡◌ {A = Outcome Ran} (Outcome.Refused EkoTruncated) (Outcome.Refused n) → EkoTruncated ≡ n
      refused p = cc
  stops-from n (suc left) pos s h c e = read (λ q s' l d f. stops-from n left q s' l d f) (decode m limit pos) refl e
    where
      turn : ((q : ℕ) (s' : Stand) → limit ≤ left + q → Comes m a program limit off q s' →
          run_from left m a limit off q s' ≡ Outcome.Refused n → Stopped n) →
          (d : Decoding) → decode m limit pos ≡ Answer d → (t : Turn) → act a off d.next d.op s ≡ t →
          turned t (λ s'. run_from left m a limit off d.next s') ≡ Outcome.Refused n → Stopped n
      turn on d p (On s') q f = on d.next s' (omega (arith, (decode-moves m limit pos d p).1)) (later pos s c d p s' q) f
      turn on d p (Ends r) q f = cc
      turn on d p (Refused k) q f =
          let same : k ≡ n = cc in
          (pos, s, c, undone d p (q ∙ ap Refused same))

      read : ((q : ℕ) (s' : Stand) → limit ≤ left + q → Comes m a program limit off q s' →
          run_from left m a limit off q s' ≡ Outcome.Refused n → Stopped n) →
          (o : Outcome Decoding) → decode m limit pos ≡ o →
          (o >>= λ d. turned (act a off d.next d.op s) (λ s'. run_from left m a limit off d.next s')) ≡ Outcome.Refused n → Stopped n
      read on (Outcome.Refused k) p f =
          let same : k ≡ n = cc in
          (pos, s, c, unread (p ∙ ap Outcome.Refused same))
      read on (Answer d) p f = turn on d p (act a off d.next d.op s) refl f

  pub run-stops : (n : ℕ) → run m a program limit off ≡ Outcome.Refused n → Stopped n
  run-stops n e =
      stops-from n (limit - program) program (begin a) (omega arith) first (sym (started m a program limit off some) ∙ e)
