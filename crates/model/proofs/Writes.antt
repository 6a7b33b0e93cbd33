-- The events Write and Spill keep the invariant. Assumes nothing.
use mathlib.Core.Path.{◌≡◌, sym, subst}
use mathlib.Core.Bool.{Bool, true, not, or-true}
use mathlib.Core.Logic.{inl, inr, ⊎_elim}
use mathlib.Core.List.Memᴰ
use mathlib.Core.List.{List, [], ◌∷◌, Memᴰ}
use Prim.Native.Nat.{ℕ, ◌^◌, ◌<◌}
use lib.Dec.{eqb, leb, ltb}
use borrow.Author.Tests.{eqb-true}
use Rattle.arch.specs.Arch.{Arch}
use Rattle.frame.specs.Layout.{Pair}
use Rattle.model.specs.Machine.{Open, Machine, column, is_register, value, address, inside, clear, arch_of}
use Rattle.model.specs.Described.{is_spilled}
use Rattle.model.specs.Event.{spill_allowed, spilling, write_allowed, with_written, with_frames, spill, write}
use Rattle.model.proofs.Chain.{Slot, AllLive, Inner, Inv}
use Rattle.model.proofs.Guard.{each}
use Rattle.model.proofs.Allowed.{if_allowed, if_open}
use Rattle.model.proofs.Paired.{paired_keeps}
use Rattle.model.proofs.Slots.{written-holds, written-live, written-lent}

-- a place that may be written: it lies in the stack and meets no live slot
record Free (m : Machine) (x : ℕ) : Type 0 where
  pub within : inside m.stack x ≡ true
  pub free : clear x m.frames ≡ true

-- what the rules of a write give
write_rules : (m : Machine) (x v : ℕ) → write_allowed m x v ≡ true → Free m x
unfolding write_allowed
write_rules m x v e =
    let (_, (within, (free, _))) = each (ltb v (2 ^ 64)) (inside m.stack x ∷ clear x m.frames ∷ []) e in
    record { within = within; free = free }

-- a number written into a free place
written_keeps : (m : Machine) (x v : ℕ) → Free m x → Inv m → Inv (with_written m x v)
written_keeps m x v place inv =
    record {
      known = inv.known;
      accepted = written-lent m.stack x v place.within m.tables inv.accepted;
      bytes = inv.bytes;
      wide = inv.wide;
      values = inv.values;
      few = inv.few;
      live = written-live m.stack x v place.within (arch_of m) m.frames place.free inv.live;
      inner = inv.inner;
    }

-- the event Write
pub write_keeps : (m : Machine) (x v : ℕ) → Inv m → Inv (write m x v)
write_keeps m x v inv =
    if_allowed m _ (write_allowed m x v) inv λ (g : write_allowed m x v ≡ true). written_keeps m x v (write_rules m x v g) inv

module _ (m : Machine) (f : Open) (reg slot : ℕ) where
  -- what the rules of a spill give
  record Spilled : Type 0 where
    pub place : Free m (address f.cfa slot)
    pub register : is_register (arch_of m) reg ≡ true
    pub same : value (arch_of m) m.registers reg ≡ value (arch_of m) f.kept reg

  -- they give it
  spill_rules : spill_allowed m f reg slot ≡ true → Spilled
  unfolding spill_allowed
  spill_rules e =
      let a : Arch = arch_of m in
      let x : ℕ = address f.cfa slot in
      let place : List Bool = inside m.stack x ∷ clear x m.frames ∷ [] in
      let alike : Bool = eqb (value a m.registers reg) (value a f.kept reg) in
      let fresh : List Bool = not (eqb reg a.sp) ∷ not (is_spilled f.spilled reg) ∷ leb 1 slot ∷ leb slot 65535 ∷ place in
      let (register, (same, (_, (_, (_, (_, (within, (free, _)))))))) = each (is_register a reg) (alike ∷ fresh) e in
      record {
        place = record { within = within; free = free };
        register = register;
        same = eqb-true (value a m.registers reg) (value a f.kept reg) same;
      }

-- the pair that a spill adds
abbrev new : ℕ → ℕ → Pair
new reg slot = record { reg = reg; slot = slot }

module _ (f : Open) (reg slot : ℕ) where
  -- what holds of it and of each pair before holds of them all
  with_new :
      (P : Pair → Type 0) → P (new reg slot) → ((p : Pair) → Memᴰ p f.spilled → P p) →
      (p : Pair) → Memᴰ p (new reg slot ∷ f.spilled) → P p
  with_new P first rest p i =
      ⊎_elim (λ (e : p ≡ new reg slot). subst P (sym e) first) (λ (j : Memᴰ p f.spilled). rest p j) (Memᴰ.cases_cons i)

  -- a register that was written into its slot is spilled
  spilling_keeps :
      (m : Machine) (fs : List Open) → m.frames ≡ f ∷ fs → is_register (arch_of m) reg ≡ true →
      Slot (arch_of m) m.stack f (new reg slot) → Inv m → Inv (with_frames m (spilling f reg slot ∷ fs))
  spilling_keeps m fs e known first inv =
      let a : Arch = arch_of m in
      let (here, _) : AllLive a m.stack (f ∷ fs) = rw e at inv.live in
      let (kept, _) : Inner m.tables m.registers (f ∷ fs) = rw e at inv.inner in
      paired_keeps m f fs e (new reg slot ∷ f.spilled)
      (record {
        returns = ⊎_elim (λ (s : is_spilled f.spilled a.ra ≡ true). inl (rw s (or-true (eqb reg a.ra)))) inr kept.returns;
        each =
            with_new (λ (p : Pair). (is_register a p.reg ≡ true) × Slot a m.stack f p) (known, first)
            (λ p j. (kept.registers p j, here p j));
      })
      inv

-- a register's value is a number of 64 bits
value-below : (m : Machine) (reg : ℕ) → Inv m → value (arch_of m) m.registers reg < 2 ^ 64
unfolding value
value-below m reg inv = inv.values (column (arch_of m) reg)

-- the event Spill
pub spill_keeps : (m : Machine) (reg slot : ℕ) → Inv m → Inv (spill m reg slot m.frames)
spill_keeps m reg slot inv =
    if_open Inv m (spill m reg slot) inv λ (f : Open) (fs : List Open) here.
    if_allowed m _ (spill_allowed m f reg slot) inv λ (g : spill_allowed m f reg slot ≡ true).
    let s = spill_rules m f reg slot g in
    let x : ℕ = address f.cfa slot in
    let v : ℕ = value (arch_of m) m.registers reg in
    spilling_keeps f reg slot (with_written m x v) fs here s.register
    (written-holds (arch_of m) m.stack f (new reg slot) v s.place.within (value-below m reg inv) s.same)
    (written_keeps m x v s.place inv)
