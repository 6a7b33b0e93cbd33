-- A loop over the bits of a mask, set or not: what is left after some of them. That of the code passes over the bits that are not
-- (`SavedLeft`). Assumes nothing.
use Rattle.std.specs.Prelude.{if◌then◌else◌}
use mathlib.Core.Path.{◌≡◌, refl, sym, ◌∙◌, ap, subst}
use mathlib.Core.Logic.{⊎_elim}
use mathlib.Core.Bool.{Bool, true, false}
use mathlib.Core.List.{List, [], ◌∷◌}
use Prim.Native.Nat.{ℕ, suc, ◌+◌, ◌-◌, ◌%◌, ◌/◌, ◌^◌, ◌≤◌, ◌<◌}
use native.Mathlib.Nat.{pow-suc}
use native.Mathlib.Omega.{arith}
use lib.ListN as ListN
use lib.ListN.{length, get_or, drop}
use Rattle.failure.specs.Outcome.{Outcome, Refused, Answer}
use Rattle.mem.specs.Memory.{Memory}
use Rattle.mem.proofs.Tests.{lt_or_le}
use Rattle.arch.specs.Arch.{Arch}
use Rattle.frame.specs.Layout.{Pair}
use Rattle.frame.specs.Apply.{restore_pairs}
use Rattle.frame.specs.Frame.{reversed, mask, first_slot, named, rising, falling, slot_of, saved_pairs}
use Rattle.frame.specs.Near.{Saves}
use Rattle.frame.proofs.Cell.{cell_of}
use Rattle.frame.proofs.Pairs.{restore-set, restore_refused}
use Rattle.frame.proofs.Named.{named_set, named-clear, named-zero}
use Rattle.frame.proofs.Saves.{mask-within}

-- the registers that are left after k of them, with their slots
abbrev pub slots_from : ℕ → ℕ → List ℕ → List Pair
slots_from frame k regs =
    if reversed frame then falling (first_slot frame) regs else rising (first_slot frame + k) regs

-- the first of those that are left, and the others
pub slots_next :
    (frame k n reg : ℕ) (regs : List ℕ) → k + length (reg ∷ regs) ≡ n →
    slots_from frame k (reg ∷ regs) ≡ record { reg = reg; slot = slot_of frame n k } ∷ slots_from frame (k + 1) regs
slots_next frame k n reg regs e = go (reversed frame) refl
  where
    go : (t : Bool) → reversed frame ≡ t →
        slots_from frame k (reg ∷ regs) ≡ record { reg = reg; slot = slot_of frame n k } ∷ slots_from frame (k + 1) regs
    go true b =
        let s : length regs ≡ n - 1 - k = omega arith in
        rw (b, s)
    go false b =
        let s : first_slot frame + k + 1 ≡ first_slot frame + (k + 1) = omega arith in
        rw (b, s)

-- after some bits: k of the n registers are set, and those left give the whole outcome
pub record SavedTurn (a : Arch) (m : Memory) (at frame n : ℕ) (whole : Outcome (List ℕ)) (file : List ℕ) (rest bit k : ℕ)
    : Type 0 where
  pub left : whole ≡ restore_pairs a m at (slots_from frame k (named rest (drop bit a.saved))) file
  pub count : k + length (named rest (drop bit a.saved)) ≡ n
  pub within : rest < 2 ^ (length a.saved - bit)

-- at first all are left
pub saved-begin :
    (a : Arch) (m : Memory) (at frame n : ℕ) (file : List ℕ) (rest : ℕ) → rest ≡ mask frame → Saves a frame n →
    SavedTurn a m at frame n (restore_pairs a m at (saved_pairs a frame) file) file rest 0 0
unfolding saved_pairs
saved-begin a m at frame n file rest is e =
    let s : first_slot frame ≡ first_slot frame + 0 = omega arith in
    let z : length a.saved ≡ length a.saved - 0 = omega arith in
    record {
      left =
          rw is
          (ap (λ (k : ℕ).
          restore_pairs a m at
          (if reversed frame then falling (first_slot frame) (named (mask frame) a.saved) else rising k (named (mask frame) a.saved)) file)
          s);
      count = rw is (omega (arith, e.count));
      within = rw is (subst (λ (i : ℕ). mask frame < 2 ^ i) z (mask-within a frame e.within));
    }

module _ {a : Arch} {m : Memory} {at frame n : ℕ} {whole : Outcome (List ℕ)} {file : List ℕ} {rest bit k : ℕ}
    (t : SavedTurn a m at frame n whole file rest bit k) where
  none : (b : Bool) → reversed frame ≡ b → restore_pairs a m at (slots_from frame k []) file ≡ Answer file
  none true e = rw e
  none false e = rw e

  -- no bit that is left is set
  pub saved_none : rest ≡ 0 → whole ≡ Answer file
  saved_none z = t.left ∙ rw (z, named-zero (drop bit a.saved)) (none (reversed frame) refl)

  -- while one is, the table goes on
  pub saved-place : (rest ≡ 0 → ⊥) → bit < length a.saved
  saved-place some =
      ⊎_elim (λ (h : bit < length a.saved). h)
      (λ (h : length a.saved ≤ bit).
      let z : length a.saved - bit ≡ 0 = omega arith in
      let one : rest < 2 ^ 0 = subst (λ (i : ℕ). rest < 2 ^ i) z t.within in
      absurd (some (omega arith)))
      (lt_or_le bit (length a.saved))

  module _ (h : bit < length a.saved) where
    halved : rest / 2 < 2 ^ (length a.saved - (bit + 1))
    halved =
        let i : length a.saved - bit ≡ suc (length a.saved - (bit + 1)) = omega arith in
        let w = subst (λ (i : ℕ). rest < 2 ^ i) i t.within in
        omega (arith, w, pow-suc 2 (length a.saved - (bit + 1)))

    -- a bit that is not set
    pub saved_skip : (rest % 2 ≡ 1 → ⊥) → SavedTurn a m at frame n whole file (rest / 2) (bit + 1) k
    saved_skip e =
        let c = named-clear rest a.saved bit h e in
        record {
          left = t.left ∙ rw c;
          count = ap (λ (l : List ℕ). k + length l) (sym c) ∙ t.count;
          within = halved;
        }

    module _ (e : rest % 2 ≡ 1) where
      c : named rest (drop bit a.saved) ≡ get_or a.saved bit 0 ∷ named (rest / 2) (drop (bit + 1) a.saved)
      c = named_set rest a.saved bit h e

      counted : k + length (get_or a.saved bit 0 ∷ named (rest / 2) (drop (bit + 1) a.saved)) ≡ n
      counted = ap (λ (l : List ℕ). k + length l) (sym c) ∙ t.count

      -- a register is left
      pub saved-some : k < n
      saved-some = omega (arith, counted)

      module _ (reg : ℕ) (r : reg ≡ get_or a.saved bit 0) (slot : ℕ) (s : slot ≡ slot_of frame n k) where
        next :
            whole ≡
            restore_pairs a m at (record { reg = reg; slot = slot } ∷ slots_from frame (k + 1) (named (rest / 2) (drop (bit + 1) a.saved))) file
        next =
            t.left ∙
            rw (c, r, s)
            (ap (λ (ps : List Pair). restore_pairs a m at ps file)
            (slots_next frame k n (get_or a.saved bit 0) (named (rest / 2) (drop (bit + 1) a.saved)) counted))

        -- it is set
        pub saved-set :
            (column v : ℕ) → Answer (record { column = column; value = v }) ≡ cell_of a m at (record { reg = reg; slot = slot }) →
            SavedTurn a m at frame n whole (ListN.set file column v) (rest / 2) (bit + 1) (k + 1)
        saved-set column v p =
            record {
              left =
                  next ∙
                  restore-set a m at (record { reg = reg; slot = slot })
                  (slots_from frame (k + 1) (named (rest / 2) (drop (bit + 1) a.saved))) file column v p;
              count = omega (arith, counted);
              within = halved;
            }

        -- or refused
        pub saved_refused : (x : ℕ) → Refused x ≡ cell_of a m at (record { reg = reg; slot = slot }) → whole ≡ Refused x
        saved_refused x p =
            next ∙
            restore_refused a m at (record { reg = reg; slot = slot })
            (slots_from frame (k + 1) (named (rest / 2) (drop (bit + 1) a.saved))) file x p
