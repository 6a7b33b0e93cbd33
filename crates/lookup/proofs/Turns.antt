-- Laws of `find` and `lookup`, turn by turn. Assumes nothing.
use mathlib.Core.Path.{◌≡◌, refl, sym}
use mathlib.Core.List.{List}
use Rattle.std.specs.Prelude.{Result, Ok, Option, None, Some}
use Rattle.std.specs.Result.{IsErrAnd}
use Rattle.std.proofs.lemmas.Result.{err_from_is_err_and}
use Prim.Native.Nat.{ℕ, zero, suc, ◌+◌, ◌≤◌, ◌<◌}
use native.Mathlib.Omega.{arith}
use lib.ListN.{length}
use borrow.Author.Tests.{lt-ltb, le-ltb}
use Rattle.failure.specs.Outcome.{Outcome, Refused, Answer}
use Rattle.failure.specs.Failure.{number}
use Rattle.failure.specs.declared.Failure.{Failure}
use Rattle.lookup.specs.Header.{chunk_at, head_at}
use Rattle.lookup.specs.Record.{record_in}
use Rattle.lookup.specs.Steps.{placed, Lies}
use Rattle.lookup.specs.Tables.{chunks_for, chunks_from, chunks}
use Rattle.lookup.specs.Lookup.{search_in, answer_or, find, lookup}
use Rattle.lookup.specs.declared.Chunk.{Chunk}
use Rattle.lookup.specs.declared.Record.{Record}
use Rattle.lookup.specs.declared.Found.{Found}
use Rattle.lookup.specs.declared.Place.{Place}
use Rattle.lookup.proofs.Headers.{head_refused, head_inside}

-- the lookup has come to offset k
pub record Looking (bytes : List ℕ) (base pc arch k : ℕ) : Type 0 where
  pub fuel : ℕ
  pub same : lookup bytes base pc arch ≡ find bytes base pc (chunks_from fuel bytes arch k)
  pub enough : length bytes ≤ fuel + k
  pub inside : k ≤ length bytes

module _ (bytes : List ℕ) (base pc arch : ℕ) where
  pub looking_begin : Looking bytes base pc arch 0
  unfolding lookup chunks
  looking_begin = record { fuel = length bytes; same = refl; enough = omega arith; inside = omega arith }

  module _ (k : ℕ) where
    -- while 16 bytes remain, some fuel is left
    record Ahead : Type 0 where
      pub fuel : ℕ
      pub same : lookup bytes base pc arch ≡ find bytes base pc (chunks_for (head_at bytes arch k) k (λ (j : ℕ). chunks_from fuel bytes arch j))
      pub enough : length bytes ≤ fuel + k + 1

    module _ (s : Looking bytes base pc arch k) (room : k + 16 ≤ length bytes) where
      ahead : Ahead
      unfolding chunks_from
      ahead = go s.fuel s.same s.enough
        where
          go : (n : ℕ) → lookup bytes base pc arch ≡ find bytes base pc (chunks_from n bytes arch k) → length bytes ≤ n + k → Ahead
          go zero e f = absurd (omega arith)
          go (suc n) e f = record { fuel = n; same = simp (le-ltb (length bytes) (k + 16) room) at e; enough = omega arith }

      -- by what stands at k: padding, a header that gets 17
      pub looking_padding : Answer None ≡ head_at bytes arch k → Looking bytes base pc arch (k + 4)
      looking_padding e = record { fuel = ahead.fuel; same = rw (sym e) at ahead.same; enough = omega (arith, ahead.enough); inside = omega arith }

      pub looking_fault : (n : ℕ) → Refused n ≡ head_at bytes arch k → Refused n ≡ lookup bytes base pc arch
      looking_fault n e =
          let fault = head_refused bytes arch k n (sym e) in
          rw fault (sym (rw (sym e) at ahead.same))

      -- a chunk, by what its search comes to
      module _ (c : Chunk) (e : Answer (Some c) ≡ head_at bytes arch k) where
        pub looking_next : Answer None ≡ search_in bytes base pc c → Looking bytes base pc arch (k + c.size)
        looking_next p =
            let (at, inside, large) = head_inside bytes arch k c (sym e) in
            record { fuel = ahead.fuel; same = rw (sym e, sym p) at ahead.same; enough = omega (arith, ahead.enough); inside = omega (arith, inside.whole) }

        pub looking_unsorted : (n : ℕ) → Refused n ≡ search_in bytes base pc c → Refused n ≡ lookup bytes base pc arch
        looking_unsorted n p = sym (rw (sym e, sym p) at ahead.same)

        pub looking_held : (r : Record) → Answer (Some r) ≡ search_in bytes base pc c → answer_or c (Answer None) (Some r) ≡ lookup bytes base pc arch
        looking_held r p = sym (rw (sym e, sym p) at ahead.same)

    pub looking_over : Looking bytes base pc arch k → length bytes < k + 16 → Answer None ≡ lookup bytes base pc arch
    unfolding chunks_from
    looking_over s short = go s.fuel s.same
      where
        go : (n : ℕ) → lookup bytes base pc arch ≡ find bytes base pc (chunks_from n bytes arch k) → Answer None ≡ lookup bytes base pc arch
        go zero e = sym e
        go (suc n) e = sym (simp (lt-ltb (length bytes) (k + 16) short) at e)

-- the exit of a `?`
pub placed_exit : (bytes : List ℕ) (base : ℕ) (r : Result (Option Place) Failure) (f : Failure) (o : Outcome (Option Found)) →
    IsErrAnd r (λ e. e ≡ f) → Refused (number f) ≡ o → (placed bytes base r ≡ o) × Lies bytes r
placed_exit bytes base r f o e p = let x = err_from_is_err_and r e in rw (x.1, x.2) (p, tt)

-- what is made of a place
pub found-made : (bytes : List ℕ) (base : ℕ) (p : Place) (r : Record) (c : Chunk) → c ≡ chunk_at bytes p.chunk → r ≡ record_in bytes base c p.record →
    Answer (Some (record { function = r; chunk = c })) ≡ placed bytes base (Ok (Some p))
found-made bytes base p r c e f = rw (f, e)
