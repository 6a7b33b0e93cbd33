-- A store into a region: the region keeps its place, and live slots that are not met are as they were. A number that is written is a store
-- of 8 bytes. Assumes nothing.
use mathlib.Core.Path.{◌≡◌, refl, sym, ◌∙◌, ap}
use mathlib.Core.Bool.{true, false, not, ◌&&◌}
use mathlib.Core.Logic.{◌⊎◌, inl, inr, ⊎_elim}
use mathlib.Core.List.Memᴰ
use mathlib.Core.List.{List, [], ◌∷◌, Memᴰ}
use Prim.Native.Nat.{ℕ, ◌+◌, ◌-◌, ◌^◌, ◌≤◌, ◌<◌}
use native.Mathlib.Omega.{arith}
use lib.Dec.{ltb}
use lib.ListN.{length}
use borrow.Author.Tests.{lt-ltb}
use Rattle.mem.specs.Memory.{Region, Memory, size}
use Rattle.mem.specs.Opening.{apart_from, opens}
use Rattle.mem.specs.Place.{holds}
use Rattle.mem.proofs.Tests.{lt_or_le, both}
use Rattle.mem.proofs.Place.{holds_range}
use Rattle.arch.specs.Arch.{Arch}
use Rattle.frame.specs.Layout.{Pair}
use Rattle.model.specs.Machine.{Open, Tables, lending, value, address, inside, meet, clear_of, clear, bytes_for, Store, stored, written}
use Rattle.model.proofs.Chain.{Slot, AllLive}
use Rattle.model.proofs.Store.{replaced-length, replaced-apart, number_there}

-- whether a stack opens depends on its place alone
placed_away : (r other : Region) → other.base ≡ r.base → size other ≡ size r → (more : Memory) → apart_from other more ≡ apart_from r more
placed_away r other base long [] = refl
placed_away r other base long (s ∷ more) = rw (placed_away r other base long more, base, long)

placed-opens :
    (s r other : Region) (more : Memory) → other.base ≡ r.base → size other ≡ size r →
    opens (record { regions = s ∷ r ∷ more }) ≡ true → opens (record { regions = s ∷ other ∷ more }) ≡ true
unfolding opens
placed-opens s r other more base long h = rw (placed_away r other base long more, base, long) h

pub placed-lent :
    (ts : Tables) (r other : Region) → other.base ≡ r.base → size other ≡ size r → opens (lending ts r) ≡ true →
    opens (lending ts other) ≡ true
placed-lent ts r other base long h = placed-opens ts.section r other [] base long h

-- a store that lies in a region
module _ (r : Region) (w : Store) (fits : holds r.base (size r) w.address (length w.bytes) ≡ true) where
  -- its place
  range : (r.base ≤ w.address) × (w.address + length w.bytes ≤ r.base + size r)
  range = holds_range r.base (size r) w.address (length w.bytes) fits

  offset : w.address - r.base + length w.bytes ≤ size r
  offset = let (low, high) = range in omega arith

  -- the region keeps its size
  pub stored-size : size (stored r w) ≡ size r
  unfolding stored
  stored-size = replaced-length r.bytes w.bytes (w.address - r.base) offset

  -- so an accepted opening stays accepted
  pub stored-lent : (ts : Tables) → opens (lending ts r) ≡ true → opens (lending ts (stored r w)) ≡ true
  unfolding stored
  stored-lent ts accepted = placed-lent ts r (stored r w) refl stored-size accepted

  -- a slot that it does not meet still holds its kept value
  pub stored-slot :
      (a : Arch) (f : Open) (p : Pair) →
      (length w.bytes ≡ 0) ⊎ ((w.address + length w.bytes ≤ address f.cfa p.slot) ⊎ (address f.cfa p.slot + 8 ≤ w.address)) →
      Slot a r f p → Slot a (stored r w) f p
  unfolding stored inside
  stored-slot a f p away s =
      let y : ℕ = address f.cfa p.slot in
      let (low, high) = range in
      let (low', high') = holds_range r.base (size r) y 8 s.within in
      record {
        within = ap (λ (n : ℕ). holds r.base n y 8) stored-size ∙ s.within;
        holding =
            replaced-apart r.bytes w.bytes (w.address - r.base) (y - r.base) offset
            (⊎_elim
            (λ (none : length w.bytes ≡ 0). inl none)
            (⊎_elim
            (λ (below : w.address + length w.bytes ≤ y). inr (inr (omega arith)))
            (λ (above : y + 8 ≤ w.address). inr (inl (omega arith))))
            away)
            ∙ s.holding;
      }

-- 8 bytes that do not meet stand apart
meet-apart : (x y : ℕ) → not (meet x y) ≡ true → (x + 8 ≤ y) ⊎ (y + 8 ≤ x)
unfolding meet
meet-apart x y e = ⊎_elim (λ (l : x < y + 8). inl (right l (lt_or_le y (x + 8)))) (λ (h : y + 8 ≤ x). inr h) (lt_or_le x (y + 8))
  where
    right : x < y + 8 → (y < x + 8) ⊎ (x + 8 ≤ y) → x + 8 ≤ y
    right l (inl m) =
        let f : not (ltb x (y + 8) && ltb y (x + 8)) ≡ false = rw (lt-ltb x (y + 8) l, lt-ltb y (x + 8) m) in
        let c : false ≡ true = sym f ∙ e in
        let z : ◌≡◌ {A = ℕ} 0 1 = cc in
        absurd (omega arith)
    right l (inr h) = h

-- a clear place meets no slot of the pairs
clear-slot : (x cfa : ℕ) (ps : List Pair) → clear_of x cfa ps ≡ true → (p : Pair) → Memᴰ p ps → not (meet x (address cfa p.slot)) ≡ true
clear-slot x cfa [] e p i = absurd (Memᴰ.not-nil i)
clear-slot x cfa (q ∷ ps) e p i =
    let (here, rest) = both (not (meet x (address cfa q.slot))) (clear_of x cfa ps) e in
    ⊎_elim
    (λ (s : p ≡ q). ap (λ (o : Pair). not (meet x (address cfa o.slot))) s ∙ here)
    (λ (t : Memᴰ p ps). clear-slot x cfa ps rest p t)
    (Memᴰ.cases_cons i)

-- a number written to the 8 bytes at an address
module _ (r : Region) (x v : ℕ) (within : inside r x ≡ true) where
  -- as a store, it lies in the region
  abbrev eight : Store
  eight = record { address = x; bytes = bytes_for 8 v }

  fits : holds r.base (size r) x 8 ≡ true
  unfolding inside
  fits = within

  -- an accepted opening stays accepted
  pub written-lent : (ts : Tables) → opens (lending ts r) ≡ true → opens (lending ts (written r x v)) ≡ true
  unfolding written
  written-lent ts h = stored-lent r eight fits ts h

  -- all live slots are as they were, if the place is clear
  pub written-live : (a : Arch) (fs : List Open) → clear x fs ≡ true → AllLive a r fs → AllLive a (written r x v) fs
  unfolding written
  written-live a [] e live = tt
  written-live a (f ∷ fs) e live =
      let (here, rest) = both (clear_of x f.cfa f.spilled) (clear x fs) e in
      let slot = clear-slot x f.cfa f.spilled here in (
        λ p i. stored-slot r eight fits a f p (inr (meet-apart x (address f.cfa p.slot) (slot p i))) (live.0 p i),
        written-live a fs rest live.1,
      )

-- a slot into which the kept value is written holds it
pub written-holds :
    (a : Arch) (r : Region) (f : Open) (p : Pair) (v : ℕ) → inside r (address f.cfa p.slot) ≡ true → v < 2 ^ 64 →
    v ≡ value a f.kept p.reg → Slot a (written r (address f.cfa p.slot) v) f p
unfolding written stored inside
written-holds a r f p v within small e =
    let x : ℕ = address f.cfa p.slot in
    let w : Store = record { address = x; bytes = bytes_for 8 v } in
    record {
      within = ap (λ (n : ℕ). holds r.base n x 8) (stored-size r w within) ∙ within;
      holding = number_there r.bytes (x - r.base) v (offset r w within) small ∙ e;
    }
