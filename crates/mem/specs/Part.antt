-- A returned part of a lent slice, shown by its place.
use Rattle.std.specs.Prelude.{◌≡◌, ℕ, zero, suc, ◌+◌, List, take, drop}
use Rattle.std.specs.Borrow.{Bor}
use Rattle.failure.specs.Outcome.{Outcome, Refused, Answer}
use Rattle.mem.specs.Place.{Spot}

-- r is the n bytes from offset k of the slice s: the same memory, and so the same bytes
pub record Part (s : Bor (List ℕ)) (k n : ℕ) (r : Bor (List ℕ)) : Type 0 where
  pub block : r.ref_ptr.0 ≡ s.ref_ptr.0
  pub start : r.ref_ptr.1 ≡ s.ref_ptr.1 + k
  pub bytes : r.now ≡ take n (drop k s.now)

-- r is n bytes from offset k of the section, which is region 0, or else of the stack
abbrev pub PartIn : Bor (List ℕ) → Bor (List ℕ) → ℕ → ℕ → ℕ → Bor (List ℕ) → Type 0
PartIn section stack zero k n r = Part section k n r
PartIn section stack (suc i) k n r = Part stack k n r

-- r is the n bytes at the spot; for 27 it is the empty part at 0 of the section
abbrev pub PartOf : Bor (List ℕ) → Bor (List ℕ) → ℕ → Outcome Spot → Bor (List ℕ) → Type 0
PartOf section stack n (Refused e) r = Part section 0 0 r
PartOf section stack n (Answer s) r = PartIn section stack s.region s.offset n r
