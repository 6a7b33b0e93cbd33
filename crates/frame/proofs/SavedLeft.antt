-- The loop over the registers that a mask names: what is left after some of them. Assumes nothing.
use Rattle.std.specs.Prelude.{if◌then◌else◌}
use mathlib.Core.Path.{◌≡◌, refl, sym, ◌∙◌, ap}
use mathlib.Core.Bool.{Bool, true, false}
use mathlib.Core.List.{List, [], ◌∷◌}
use Prim.Native.Nat.{ℕ, ◌+◌, ◌-◌, ◌^◌, ◌≤◌, ◌<◌}
use native.Mathlib.Omega.{arith}
use lib.Count.{count_trailing_zeros}
use lib.ListN as ListN
use lib.ListN.{length, get_or}
use Rattle.std.proofs.lemmas.List.{nil_from_length}
use Rattle.failure.specs.Outcome.{Outcome, Refused, Answer}
use Rattle.mem.specs.Memory.{Memory}
use Rattle.arch.specs.Arch.{Arch}
use Rattle.frame.specs.Layout.{Pair}
use Rattle.frame.specs.Apply.{restore_pairs}
use Rattle.frame.specs.Frame.{reversed, mask, first_slot, named, rising, falling, slot_of, saved_pairs}
use Rattle.frame.specs.Near.{Saves}
use Rattle.frame.proofs.Cell.{cell_of}
use Rattle.frame.proofs.Pairs.{restore-set, restore_refused}
use Rattle.frame.proofs.Named.{First, named_first}
use Rattle.frame.proofs.SavedTurn.{slots_from, slots_next}

-- after k of the n registers: they are set, and those that the rest of the mask names give the whole outcome
pub record SavedLeft (a : Arch) (m : Memory) (at frame n : ℕ) (whole : Outcome (List ℕ)) (file : List ℕ) (rest k : ℕ) : Type 0 where
  pub left : whole ≡ restore_pairs a m at (slots_from frame k (named rest a.saved)) file
  pub count : k + length (named rest a.saved) ≡ n

-- at first all are left
pub saved-begin :
    (a : Arch) (m : Memory) (at frame n : ℕ) (file : List ℕ) (rest : ℕ) → rest ≡ mask frame → Saves a frame n →
    SavedLeft a m at frame n (restore_pairs a m at (saved_pairs a frame) file) file rest 0
unfolding saved_pairs
saved-begin a m at frame n file rest is e =
    let s : first_slot frame ≡ first_slot frame + 0 = omega arith in
    record {
      left =
          rw is
          (ap (λ (k : ℕ).
          restore_pairs a m at
          (if reversed frame then falling (first_slot frame) (named (mask frame) a.saved) else rising k (named (mask frame) a.saved)) file)
          s);
      count = rw is (omega (arith, e.count));
    }

module _ {a : Arch} {m : Memory} {at frame n : ℕ} {whole : Outcome (List ℕ)} {file : List ℕ} {rest k : ℕ}
    (t : SavedLeft a m at frame n whole file rest k) where
  none : (b : Bool) → reversed frame ≡ b → restore_pairs a m at (slots_from frame k []) file ≡ Answer file
  none true e = rw e
  none false e = rw e

  -- after n of them none is left
  pub saved_over : k ≡ n → whole ≡ Answer file
  saved_over e = t.left ∙ rw (nil_from_length (named rest a.saved) (omega (arith, t.count))) (none (reversed frame) refl)

  -- before, the lowest bit that is left names the next
  pub saved-next : length a.saved ≤ 32 → k < n → First rest a.saved (count_trailing_zeros 32 rest)
  saved-next h some = named_first 32 rest a.saved h (omega (arith, t.count))

  module _ (bit : ℕ) (f : First rest a.saved bit) (slot : ℕ) (s : slot ≡ slot_of frame n k) where
    counted : k + length (get_or a.saved bit 0 ∷ named (rest - 2 ^ bit) a.saved) ≡ n
    counted = ap (λ (l : List ℕ). k + length l) (sym f.names) ∙ t.count

    next :
        whole ≡
        restore_pairs a m at
        (record { reg = get_or a.saved bit 0; slot = slot } ∷ slots_from frame (k + 1) (named (rest - 2 ^ bit) a.saved)) file
    next =
        t.left ∙
        rw (f.names, s)
        (ap (λ (ps : List Pair). restore_pairs a m at ps file)
        (slots_next frame k n (get_or a.saved bit 0) (named (rest - 2 ^ bit) a.saved) counted))

    -- it is set
    pub saved-set :
        (column v : ℕ) → Answer (record { column = column; value = v }) ≡ cell_of a m at (record { reg = get_or a.saved bit 0; slot = slot }) →
        SavedLeft a m at frame n whole (ListN.set file column v) (rest - 2 ^ bit) (k + 1)
    saved-set column v p =
        record {
          left =
              next ∙
              restore-set a m at (record { reg = get_or a.saved bit 0; slot = slot })
              (slots_from frame (k + 1) (named (rest - 2 ^ bit) a.saved)) file column v p;
          count = omega (arith, counted);
        }

    -- or refused
    pub saved_refused : (x : ℕ) → Refused x ≡ cell_of a m at (record { reg = get_or a.saved bit 0; slot = slot }) → whole ≡ Refused x
    saved_refused x p =
        next ∙
        restore_refused a m at (record { reg = get_or a.saved bit 0; slot = slot })
        (slots_from frame (k + 1) (named (rest - 2 ^ bit) a.saved)) file x p
