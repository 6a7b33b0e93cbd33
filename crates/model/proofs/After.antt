-- The address after a program that is read to END lies above the program. Assumes nothing.
use Rattle.std.specs.Prelude.{if◌then◌else◌}
use mathlib.Core.Path.{◌≡◌, refl, sym, ◌∙◌}
use mathlib.Core.Bool.{Bool, true, false}
use mathlib.Core.List.{List, [], ◌∷◌}
use mathlib.Core.Logic.{◌⊎◌, inl, inr, ⊎_elim}
use Prim.Native.Nat.{ℕ, zero, suc, ◌+◌, ◌-◌, ◌*◌, ◌^◌, ◌<◌}
use native.Mathlib.Nat.{lt_trans}
use native.Mathlib.Omega.{arith}
use lib.Dec.{eqb, ltb}
use lib.ListN.{length}
use borrow.Author.Tests.{eqb-false}
use Rattle.failure.specs.Failure.{BadEkoRecord, RememberStackOverflow}
use Rattle.failure.specs.Outcome.{Outcome, Answer, ◌>>=◌}
use Rattle.mem.specs.Memory.{Memory}
use Rattle.arch.specs.Arch.{Arch}
use Rattle.state.specs.declared.State.{State}
use Rattle.program.specs.declared.decode.Op.{Op}
use Rattle.program.specs.declared.decode.Op.TheVariants.{End, Advance, Set, Remember, Recall}
use Rattle.program.specs.Operation.{Decoding, decode}
use Rattle.program.specs.Rule.{follow}
use Rattle.program.specs.Run.{Stand, Ran, Turn, On, Ends, Refused, max_remember, recall, set, act, turned, run_from, begin, run}
use Rattle.program.proofs.Decoding.{decode-moves}

-- a run that an operation ends stopped before END, or has the address after the operation
abbrev EndsAt : ℕ → Turn → Type 0
EndsAt next (On s) = Unit
EndsAt next (Ends r) = (r.after ≡ 0) ⊎ (r.after ≡ next)
EndsAt next (Refused n) = Unit

-- every operation does
ends_at : (a : Arch) (off next : ℕ) (op : Op) (s : Stand) → EndsAt next (act a off next op s)
unfolding act
ends_at a off next End s = inr refl
ends_at a off next (Advance n) s = go (ltb (2 ^ 64 - 1) (s.at + n * a.unit)) (ltb off (s.at + n * a.unit))
  where
    go : (over past : Bool) → EndsAt next
        (if over then Refused BadEkoRecord
        else if past then Ends (record { state = s.state; after = 0 })
        else On (record { state = s.state; remembered = s.remembered; at = s.at + n * a.unit }))
    go true past = tt
    go false true = inl refl
    go false false = tt
ends_at a off next (Set r) s = go (follow a r s.state)
  where
    go : (o : Outcome State) → EndsAt next (set s o)
    go (Outcome.Refused n) = tt
    go (Answer st) = tt
ends_at a off next Remember s = go (eqb (length s.remembered) max_remember)
  where
    go : (t : Bool) → EndsAt next
        (if t then Refused RememberStackOverflow else On (record { state = s.state; remembered = s.state ∷ s.remembered; at = s.at }))
    go true = tt
    go false = tt
ends_at a off next Recall s = go s.remembered
  where
    go : (sts : List State) → EndsAt next (recall sts s)
    go [] = tt
    go (st ∷ sts) = tt

module _ (m : Memory) (a : Arch) (limit off : ℕ) (r : Ran) (whole : r.after ≡ 0 → ⊥) where
  -- from a place on, the after-address lies above it
  after-from : (left pos : ℕ) (s : Stand) → run_from left m a limit off pos s ≡ Answer r → pos < r.after
  after-from zero pos s e = let z : ◌≡◌ {A = ℕ} 0 1 = cc in absurd (omega arith)
  after-from (suc left) pos s e = opened (decode m limit pos) refl e (λ p s' q. after-from left p s' q)
    where
      Rest : Type 0
      Rest = (p : ℕ) (s' : Stand) → run_from left m a limit off p s' ≡ Answer r → p < r.after

      turn : (next : ℕ) → pos < next → (t : Turn) → EndsAt next t → turned t (λ s'. run_from left m a limit off next s') ≡ Answer r →
          Rest → pos < r.after
      turn next l (On s') h p rest = lt_trans l (rest next s' p)
      turn next l (Ends x) h p rest =
          let same : x.after ≡ r.after = cc in
          ⊎_elim (λ (no : x.after ≡ 0). absurd (whole (sym same ∙ no))) (λ (at : x.after ≡ next). omega arith) h
      turn next l (Refused n) h p rest = let z : ◌≡◌ {A = ℕ} 0 1 = cc in absurd (omega arith)

      opened : (o : Outcome Decoding) → decode m limit pos ≡ o →
          (o >>= λ d. turned (act a off d.next d.op s) (λ s'. run_from left m a limit off d.next s')) ≡ Answer r →
          Rest → pos < r.after
      opened (Outcome.Refused n) q p rest = let z : ◌≡◌ {A = ℕ} 0 1 = cc in absurd (omega arith)
      opened (Answer d) q p rest =
          turn d.next (decode-moves m limit pos d q).1 (act a off d.next d.op s) (ends_at a off d.next d.op s) p rest

  -- program 0 has after-address 0, any other program one above itself
  pub after-above : (program : ℕ) → run m a program limit off ≡ Answer r → (0 < program) × (program < r.after)
  unfolding run
  after-above program = go (eqb program 0) refl
    where
      go : (t : Bool) → eqb program 0 ≡ t → run m a program limit off ≡ Answer r → (0 < program) × (program < r.after)
      go true p e =
          let q : Answer (record { state = (begin a).state; after = 0 }) ≡ Answer r = rw p at e in
          let no : r.after ≡ 0 = cc in
          absurd (whole no)
      go false p e =
          let other : program ≡ 0 → ⊥ = eqb-false program 0 p in
          (omega arith, after-from (limit - program) program (begin a) (rw p at e))
