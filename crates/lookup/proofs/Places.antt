-- Where the found chunk lies. Assumes nothing.
use Rattle.std.specs.Prelude.{if◌then◌else◌}
use mathlib.Core.Path.{◌≡◌, refl}
use mathlib.Core.Bool.{Bool, true, false}
use mathlib.Core.List.{List}
use Rattle.std.specs.Prelude.{Option, None, Some}
use Prim.Native.Nat.{ℕ, zero, suc, ◌+◌}
use native.Mathlib.Omega.{arith}
use lib.Dec.{ltb}
use lib.ListN.{length}
use Rattle.failure.specs.Outcome.{Outcome, Refused, Answer, ◌>>=◌}
use Rattle.failure.specs.Failure.{BadEkoHeader, BadEkoRecord}
use Rattle.lookup.specs.Header.{head_at}
use Rattle.lookup.specs.Record.{bad_record}
use Rattle.lookup.specs.Steps.{Inside}
use Rattle.lookup.specs.Tables.{Chunks, End, Fault, ◌▸◌, chunks_for, chunks_from, chunks}
use Rattle.lookup.specs.Lookup.{Found, search_in, answer_or, find, lookup}
use Rattle.lookup.specs.declared.Record.{Record}
use Rattle.lookup.specs.declared.Chunk.{Chunk}
use Rattle.lookup.proofs.Headers.{head_inside}

-- all chunks lie in the part
abbrev pub AllIn : List ℕ → Chunks → Type 0
AllIn bytes End = Unit
AllIn bytes Fault = Unit
AllIn bytes (c ▸ cs) = Inside bytes c × AllIn bytes cs

chunks_from_in : (n : ℕ) (bytes : List ℕ) (arch k : ℕ) → AllIn bytes (chunks_from n bytes arch k)
unfolding chunks_from
chunks_from_in zero bytes arch k = tt
chunks_from_in (suc n) bytes arch k = go (ltb (length bytes) (k + 16)) (head_at bytes arch k) refl (λ (j : ℕ). chunks_from_in n bytes arch j)
  where
    go : (short : Bool) (h : Outcome (Option Chunk)) → head_at bytes arch k ≡ h → ((j : ℕ) → AllIn bytes (chunks_from n bytes arch j)) →
        AllIn bytes (if short then End else chunks_for h k (λ (j : ℕ). chunks_from n bytes arch j))
    go true h e rest = tt
    go false (Answer None) e rest = rest (k + 4)
    go false (Refused n) e rest = tt
    go false (Answer (Some c)) e rest = ((head_inside bytes arch k c e).1, rest _)

-- the chunks of a part do
pub chunks_in : (bytes : List ℕ) (arch : ℕ) → AllIn bytes (chunks bytes arch)
unfolding chunks
chunks_in bytes arch = chunks_from_in (length bytes) bytes arch 0

-- so does a found one
find_in : (bytes : List ℕ) (base pc : ℕ) (cs : Chunks) (f : Found) → AllIn bytes cs → find bytes base pc cs ≡ Answer (Some f) →
    Inside bytes f.chunk
find_in bytes base pc End f i e = absurd (clash e)
  where
    clash : ◌≡◌ {A = Outcome (Option Found)} (Answer None) (Answer (Some f)) → ⊥
    clash p = let z : ◌≡◌ {A = ℕ} 0 1 = cc in omega arith
find_in bytes base pc Fault f i e = absurd (clash e)
  where
    clash : ◌≡◌ {A = Outcome (Option Found)} (Refused BadEkoHeader) (Answer (Some f)) → ⊥
    clash p = let z : ◌≡◌ {A = ℕ} 0 1 = cc in omega arith
find_in bytes base pc (c ▸ cs) f i e = go (search_in bytes base pc c) e (λ p. find_in bytes base pc cs f i.1 p)
  where
    refused : (n : ℕ) → ◌≡◌ {A = Outcome (Option Found)} (Refused n) (Answer (Some f)) → ⊥
    refused n p = let z : ◌≡◌ {A = ℕ} 0 1 = cc in omega arith

    held : (r : Record) (bad : Bool) →
        (if bad then Refused BadEkoRecord else Answer (Some (record { function = r; chunk = c }))) ≡ Answer (Some f) → Inside bytes f.chunk
    held r true p = absurd (refused BadEkoRecord p)
    held r false p = let q : c ≡ f.chunk = cc in rw q at i.0

    go : (o : Outcome (Option Record)) → (o >>= answer_or c (find bytes base pc cs)) ≡ Answer (Some f) →
        (find bytes base pc cs ≡ Answer (Some f) → Inside bytes f.chunk) → Inside bytes f.chunk
    go (Refused n) p rest = absurd (refused n p)
    go (Answer None) p rest = rest p
    go (Answer (Some r)) p rest = held r (bad_record r) p

pub lookup_in : (bytes : List ℕ) (base pc arch : ℕ) (f : Found) → lookup bytes base pc arch ≡ Answer (Some f) → Inside bytes f.chunk
unfolding lookup
lookup_in bytes base pc arch f e = find_in bytes base pc (chunks bytes arch) f (chunks_in bytes arch) e
