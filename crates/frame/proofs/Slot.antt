-- Laws of `load_slot` and `cell_of`. Assumes nothing.
use mathlib.Core.Path.{◌≡◌, refl, sym, ◌∙◌, ap}
use mathlib.Core.Bool.{Bool, true, false}
use mathlib.Core.List.{List, [], ◌∷◌}
use Prim.Native.Nat.{ℕ, ◌-◌, ◌*◌}
use native.Mathlib.Omega.{arith}
use lib.ListN.{take, drop}
use Rattle.failure.specs.Outcome.{Outcome, Refused, Answer}
use Rattle.failure.specs.Failure.{OutsideMemory}
use Rattle.mem.specs.Memory.{Memory, Lent, size}
use Rattle.mem.specs.Opening.{opens}
use Rattle.mem.specs.Place.{holds, bytes_at}
use Rattle.mem.specs.Word.{little_endian, load}
use Rattle.mem.specs.Slot.{ByWords, ByLoads}
use Rattle.mem.specs.Wrapping.{difference}
use Rattle.mem.proofs.Slot.{by_words, by_loads}
use Rattle.arch.specs.Arch.{Arch}
use Rattle.arch.specs.File.{column_of}
use Rattle.frame.specs.Apply.{load_slot}
use Rattle.frame.proofs.Cell.{cell_of}

-- what is loaded at a slot's address is what the slot holds
pub slot_at : (m : Memory) (at slot k : ℕ) (o : Outcome ℕ) → k ≡ difference at (8 * slot) → o ≡ load m 8 k → o ≡ load_slot m at slot
unfolding load_slot
slot_at m at slot k o e p = p ∙ ap (load m 8) e

-- document 02 (b): a slot not refused is the word at its address plus 2^32 times the word 4 bytes on, both from the slice that holds it
pub slot_by_words : (m : Memory) (at slot v : ℕ) → load_slot m at slot ≡ Answer v → ByWords m (difference at (8 * slot)) v
unfolding load_slot
slot_by_words m at slot v e = by_words m (difference at (8 * slot)) v e

-- where what is lent is accepted, that is what loads of 4 bytes give
pub slot_by_loads :
    (l : Lent) → opens l ≡ true → (at slot v : ℕ) → load_slot l.regions at slot ≡ Answer v →
    ByLoads l.regions (difference at (8 * slot)) v
unfolding load_slot
slot_by_loads l o at slot v e = by_loads l o (difference at (8 * slot)) v e

module _ (a : Arch) (m : Memory) (at reg slot : ℕ) where
  -- a pair whose slot is read and whose register is known
  pub cell_at :
      (v k : ℕ) → Answer v ≡ load_slot m at slot → Answer k ≡ column_of a reg →
      Answer (record { column = k; value = v }) ≡ cell_of a m at (record { reg = reg; slot = slot })
  unfolding cell_of
  cell_at v k e f = rw (sym e, sym f)

  -- a register that is not known
  pub cell_unknown :
      (v n : ℕ) → Answer v ≡ load_slot m at slot → Refused n ≡ column_of a reg →
      Refused n ≡ cell_of a m at (record { reg = reg; slot = slot })
  unfolding cell_of
  cell_unknown v n e f = rw (sym e, sym f)

  -- a slot outside memory
  pub cell_outside : (n : ℕ) → Refused n ≡ load_slot m at slot → Refused n ≡ cell_of a m at (record { reg = reg; slot = slot })
  unfolding cell_of
  cell_outside n e = rw (sym e)

-- bytes outside memory are refused with 27, and nothing else is refused
bytes_refused : (m : Memory) (a n x : ℕ) → bytes_at m a n ≡ Refused x → x ≡ OutsideMemory
unfolding bytes_at
bytes_refused [] a n x e = let r : x ≡ OutsideMemory = cc in r
bytes_refused (r ∷ m) a n x e = go (holds r.base (size r) a n) refl (λ p. bytes_refused m a n x p)
  where
    go : (t : Bool) → holds r.base (size r) a n ≡ t → (bytes_at m a n ≡ Refused x → x ≡ OutsideMemory) → x ≡ OutsideMemory
    go true h rest =
        let q : ◌≡◌ {A = Outcome (List ℕ)} (Answer (take n (drop (a - r.base) r.bytes))) (Refused x) = rw h at e in
        let z : ◌≡◌ {A = ℕ} 0 1 = cc in
        absurd (omega arith)
    go false h rest = rest (rw h at e)

pub slot_refused : (m : Memory) (at slot x : ℕ) → load_slot m at slot ≡ Refused x → x ≡ OutsideMemory
unfolding load_slot load
slot_refused m at slot x e = go (bytes_at m (difference at (8 * slot)) 8) refl
  where
    go : (o : Outcome (List ℕ)) → bytes_at m (difference at (8 * slot)) 8 ≡ o → x ≡ OutsideMemory
    go (Refused y) b =
        let q : ◌≡◌ {A = Outcome ℕ} (Refused y) (Refused x) = rw b at e in
        let r : y ≡ x = cc in
        sym r ∙ bytes_refused m (difference at (8 * slot)) 8 y b
    go (Answer bs) b =
        let q : ◌≡◌ {A = Outcome ℕ} (Answer (little_endian bs)) (Refused x) = rw b at e in
        let z : ◌≡◌ {A = ℕ} 0 1 = cc in
        absurd (omega arith)
