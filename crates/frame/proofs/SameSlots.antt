-- `apply` and `step` depend only on the bytes that they read: on two memories that agree in each slot they come to the same.
-- Assumes nothing.
use mathlib.Core.Path.{◌≡◌, refl}
use mathlib.Core.Bool.{Bool, true, false}
use mathlib.Core.List.Memᴰ
use mathlib.Core.List.{List, [], ◌∷◌, ◌++◌, Memᴰ}
use Prim.Native.Nat.{ℕ, ◌*◌}
use lib.Dec.{eqb}
use Rattle.failure.specs.Outcome.{Outcome, Refused, Answer, ◌>>=◌}
use Rattle.mem.specs.Memory.{Memory}
use Rattle.mem.specs.Place.{bytes_at}
use Rattle.mem.specs.Word.{load}
use Rattle.mem.specs.Wrapping.{difference}
use Rattle.arch.specs.Arch.{Arch}
use Rattle.arch.specs.File.{set}
use Rattle.frame.specs.Layout.{Pair, Layout, cfa}
use Rattle.frame.specs.Apply.{load_slot, restore_pairs, apply_at, apply}
use Rattle.frame.specs.Frame.{saved_pairs, fp_pair, ra_slot}
use Rattle.frame.specs.Step.{frame_cfa, return_address, set_return, set_frame, set_caller, step_at, step}
use Rattle.frame.specs.ReadAs.{ra_pair, read_as}

-- the same 8 bytes, or none, stand in each slot of the pairs
abbrev pub SameSlots : Memory → Memory → ℕ → List Pair → Type 0
SameSlots m m' at ps =
    (p : Pair) → Memᴰ p ps → bytes_at m (difference at (8 * p.slot)) 8 ≡ bytes_at m' (difference at (8 * p.slot)) 8

module _ (a : Arch) (m m' : Memory) (at : ℕ) where
  same-slot :
      (slot : ℕ) → bytes_at m (difference at (8 * slot)) 8 ≡ bytes_at m' (difference at (8 * slot)) 8 → load_slot m at slot ≡ load_slot m' at slot
  unfolding load_slot load
  same-slot slot e = rw e

  pub same-pairs :
      (ps : List Pair) (file : List ℕ) → SameSlots m m' at ps → restore_pairs a m at ps file ≡ restore_pairs a m' at ps file
  same-pairs [] file s = refl
  same-pairs (p ∷ ps) file s =
      rw (same-slot p.slot (s p (Memᴰ.head refl)))
      (read (load_slot m' at p.slot) (λ next. same-pairs ps next (λ q i. s q (Memᴰ.tail i))))
    where
      put : (o : Outcome (List ℕ)) → ((next : List ℕ) → restore_pairs a m at ps next ≡ restore_pairs a m' at ps next) →
          (o >>= restore_pairs a m at ps) ≡ (o >>= restore_pairs a m' at ps)
      put (Refused n) rest = refl
      put (Answer next) rest = rest next

      read : (o : Outcome ℕ) → ((next : List ℕ) → restore_pairs a m at ps next ≡ restore_pairs a m' at ps next) →
          (o >>= λ (v : ℕ). set a file p.reg v >>= restore_pairs a m at ps) ≡
          (o >>= λ (v : ℕ). set a file p.reg v >>= restore_pairs a m' at ps)
      read (Refused n) rest = refl
      read (Answer v) rest = put (set a file p.reg v) rest

  same_apply_at : (ps : List Pair) (file : List ℕ) → SameSlots m m' at ps → apply_at a m at ps file ≡ apply_at a m' at ps file
  unfolding apply_at
  same_apply_at ps file s = rw (same-pairs ps file s)

  -- the return address
  same_address :
      (slot : ℕ) (file : List ℕ) → SameSlots m m' at (ra_pair a slot) → return_address a m at slot file ≡ return_address a m' at slot file
  unfolding return_address
  same_address slot file s = go (eqb slot 0) refl
    where
      go : (t : Bool) → eqb slot 0 ≡ t → return_address a m at slot file ≡ return_address a m' at slot file
      go true e = rw e
      go false e =
          let i : SameSlots m m' at (record { reg = a.ra; slot = slot } ∷ []) = rw e at s in
          rw e (same-slot slot (i (record { reg = a.ra; slot = slot }) (Memᴰ.head refl)))

  same_step_at : (frame : ℕ) (file : List ℕ) → SameSlots m m' at (read_as a frame).pairs → step_at a m frame at file ≡ step_at a m' frame at file
  unfolding step_at set_caller set_frame read_as
  same_step_at frame file s =
      rw (same-pairs (saved_pairs a frame) file saved, same_address (ra_slot a frame) file address)
      (go (restore_pairs a m' at (saved_pairs a frame) file) (return_address a m' at (ra_slot a frame) file))
    where
      saved : SameSlots m m' at (saved_pairs a frame)
      saved p i = s p (Memᴰ.append_left (fp_pair a frame ++ ra_pair a (ra_slot a frame)) i)

      framed : SameSlots m m' at (fp_pair a frame)
      framed p i = s p (Memᴰ.append_right (saved_pairs a frame) (Memᴰ.append_left (ra_pair a (ra_slot a frame)) i))

      address : SameSlots m m' at (ra_pair a (ra_slot a frame))
      address p i = s p (Memᴰ.append_right (saved_pairs a frame) (Memᴰ.append_right (fp_pair a frame) i))

      go : (o : Outcome (List ℕ)) (q : Outcome ℕ) →
          (o >>= λ (f : List ℕ). q >>= λ (r : ℕ). restore_pairs a m at (fp_pair a frame) f >>= set_return a at r) ≡
          (o >>= λ (f : List ℕ). q >>= λ (r : ℕ). restore_pairs a m' at (fp_pair a frame) f >>= set_return a at r)
      go (Refused n) q = refl
      go (Answer f) (Refused n) = refl
      go (Answer f) (Answer r) = rw (same-pairs (fp_pair a frame) f framed)

module _ (a : Arch) (m m' : Memory) (file : List ℕ) where
  -- a frame's base, units and pairs
  pub apply-same : (l : Layout) → SameSlots m m' (cfa a l file) l.pairs → apply a m l file ≡ apply a m' l file
  unfolding apply
  apply-same l s = rw (same_apply_at a m m' (cfa a l file) l.pairs file s)

  -- a version 1 word; its slots are those of the word as read
  pub step_same :
      (frame : ℕ) (first : Bool) →
      ((at : ℕ) → frame_cfa a frame first file ≡ Answer at → SameSlots m m' at (read_as a frame).pairs) →
      step a m frame first file ≡ step a m' frame first file
  unfolding step
  step_same frame first s = go (frame_cfa a frame first file) refl
    where
      go : (o : Outcome ℕ) → frame_cfa a frame first file ≡ o → step a m frame first file ≡ step a m' frame first file
      go (Refused n) e = rw e
      go (Answer at) e = rw e (same_step_at a m m' at frame file (s at e))
