-- However many bytes are said to be left, a run is the same if there are that many below the limit. Assumes nothing.
use mathlib.Core.Path.{◌≡◌, refl}
use Prim.Native.Nat.{ℕ, zero, suc, ◌+◌, ◌≤◌, ◌<◌}
use native.Mathlib.Omega.{arith}
use Rattle.failure.specs.Outcome.{Outcome, Answer, ◌>>=◌}
use Rattle.mem.specs.Memory.{Memory}
use Rattle.arch.specs.Arch.{Arch}
use Rattle.program.specs.Operation.{Decoding, decode}
use Rattle.program.specs.Run.{Stand, Turn, On, Ends, Refused, act, turned, run_from}
use Rattle.program.proofs.Decoding.{decode-limit, decode-moves}

module _ (m : Memory) (a : Arch) (limit off : ℕ) where
  pub enough :
      (j k pos : ℕ) (s : Stand) → limit ≤ j + pos → limit ≤ k + pos →
      run_from j m a limit off pos s ≡ run_from k m a limit off pos s
  enough zero zero pos s h l = refl
  enough zero (suc k) pos s h l =
      let cut = decode-limit m limit pos (omega arith) in
      rw cut
  enough (suc j) zero pos s h l =
      let cut = decode-limit m limit pos (omega arith) in
      rw cut
  enough (suc j) (suc k) pos s h l = opened (decode m limit pos) refl (λ p s' x y. enough j k p s' x y)
    where
      turn : (next : ℕ) → ((s' : Stand) → run_from j m a limit off next s' ≡ run_from k m a limit off next s') → (t : Turn) →
          turned t (λ s'. run_from j m a limit off next s') ≡ turned t (λ s'. run_from k m a limit off next s')
      turn next f (On s') = f s'
      turn next f (Ends r) = refl
      turn next f (Refused n) = refl

      opened : (o : Outcome Decoding) → decode m limit pos ≡ o →
          ((p : ℕ) (s' : Stand) → limit ≤ j + p → limit ≤ k + p → run_from j m a limit off p s' ≡ run_from k m a limit off p s') →
          (o >>= λ d. turned (act a off d.next d.op s) (λ s'. run_from j m a limit off d.next s')) ≡
          (o >>= λ d. turned (act a off d.next d.op s) (λ s'. run_from k m a limit off d.next s'))
      opened (Outcome.Refused n) p f = refl
      opened (Answer d) p f =
          let later : pos < d.next = (decode-moves m limit pos d p).1 in
          turn d.next (λ s'. f d.next s' (omega arith) (omega arith)) (act a off d.next d.op s)
