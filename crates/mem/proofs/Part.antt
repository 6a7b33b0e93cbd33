-- Laws of `Part` and `PartOf`. Assumes nothing.
use Rattle.std.proofs.Common.{◌≡◌, ℕ, zero, suc, ◌+◌, ◌<◌, ◌≤◌, ◌⊎◌, List, length, take, drop, sym, refl, ap, ◌∙◌, inl, inr, arith, length-drop, length-take, Bor}
use native.Mathlib.Nat.{add-sub_cancel_left}
use borrow.Rule.Slice.PartAt.{sl_partˢ}
use Rattle.failure.specs.Outcome.{Outcome, Refused, Answer}
use Rattle.failure.specs.Failure.{OutsideMemory}
use Rattle.mem.specs.Memory.{Memory, lent, bytes_of}
use Rattle.mem.specs.Place.{Spot, place_of, bytes_at}
use Rattle.mem.specs.Part.{Part, PartIn, PartOf}
use Rattle.mem.proofs.Place.{place_found, place_none}

-- what `&s[k..k + n]` lends
pub lends_part : (s : Bor (List ℕ)) (k n : ℕ) → Part s k n (sl_partˢ s (k + s.ref_ptr.1) k (k + n))
lends_part s k n =
    record {
      block = refl;
      start = omega arith;
      bytes = ap (λ (i : ℕ). take i (drop k s.now)) (add-sub_cancel_left k n);
    }

-- the n bytes of a part, which lies in its slice
part_length : (s : Bor (List ℕ)) (k n : ℕ) (r : Bor (List ℕ)) → k + n ≤ length s.now → Part s k n r → length r.now ≡ n
part_length s k n r h p = ap length p.bytes ∙ simp (length-take, length-drop) (omega arith)

-- what a part at a place of memory m shows of the n bytes at address a
abbrev Shows : Memory → ℕ → ℕ → List ℕ → Type 0
Shows m a n bs =
    ((length bs ≡ n) × (bytes_at m a n ≡ Answer bs)) ⊎ ((length bs ≡ 0) × (bytes_at m a n ≡ Refused OutsideMemory))

-- the part that is returned for some bytes at an address is those bytes, or it is empty and they are refused
pub part_shows :
    (section stack : Bor (List ℕ)) (section_base stack_base a n : ℕ) (r : Bor (List ℕ)) → 0 < n →
    PartOf section stack n (place_of (lent section.now section_base stack.now stack_base).regions a n) r →
    Shows (lent section.now section_base stack.now stack_base).regions a n r.now
part_shows section stack section_base stack_base a n r some = go (place_of m a n) refl
  where
    m : Memory
    m = (lent section.now section_base stack.now stack_base).regions

    inside : (i k : ℕ) → k + n ≤ length (bytes_of m i) → bytes_at m a n ≡ Answer (take n (drop k (bytes_of m i))) →
        PartIn section stack i k n r → Shows m a n r.now
    inside zero k fits e p = inl (part_length section k n r fits p, e ∙ ap Answer (sym p.bytes))
    inside (suc zero) k fits e p = inl (part_length stack k n r fits p, e ∙ ap Answer (sym p.bytes))
    inside (suc (suc i)) k fits e p = absurd (omega arith)

    go : (o : Outcome Spot) → place_of m a n ≡ o → PartOf section stack n o r → Shows m a n r.now
    go (Refused x) e p = inr (ap length p.bytes, place_none m a n x e)
    go (Answer s) e p =
        let f = place_found m a n s e in
        inside s.region s.offset f.0 f.1 p
