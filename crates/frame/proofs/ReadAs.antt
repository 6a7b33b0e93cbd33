-- A version 1 word that passes its rules steps as it is read: `step` is `apply` of base, units and pairs, where the CFA is above 0.
-- Assumes nothing.
use Rattle.std.specs.Prelude.{if◌then◌else◌}
use mathlib.Core.Path.{◌≡◌, refl, sym, ◌∙◌, ap}
use mathlib.Core.Bool.{Bool, true, false, not, ◌&&◌}
use mathlib.Core.List.{List, [], ◌∷◌, ◌++◌}
use Prim.Native.Nat.{ℕ, ◌+◌, ◌*◌, ◌<◌}
use native.Mathlib.Omega.{arith}
use lib.Dec.{eqb, ltb}
use lib.ListN as ListN
use lib.ListN.{length, get_or}
use lib.Seq.{get_or-set_same, set-get_or}
use Rattle.failure.specs.Outcome.{Outcome, Refused, Answer, ◌>>=◌}
use Rattle.failure.specs.Failure.{Misaligned, OutsideMemory}
use Rattle.mem.specs.Memory.{Memory}
use Rattle.mem.specs.Wrapping.{sum}
use Rattle.arch.specs.Arch.{Arch, numbers}
use Rattle.arch.specs.File.{columns, get, set, sp}
use Rattle.frame.specs.Layout.{Pair, base, cfa}
use Rattle.frame.specs.Apply.{bad_fp, load_slot, restore_pairs, returned, apply_at, apply}
use Rattle.frame.specs.Frame.{kind, leaf, on_fp, on_sp, reversed, mask, param, named, in_slots, first_slot, saved_pairs, fp_pair, ra_slot}
use Rattle.frame.specs.Step.{past_table, leaf_cfa, fp_cfa, sp_cfa, frame_cfa, return_address, set_return, set_frame, set_caller, step_at, step}
use Rattle.frame.specs.ReadAs.{read_as, passes}
use Rattle.frame.proofs.Slot.{slot_refused}
use Rattle.frame.proofs.Pairs.{restore-append, restore-length}
use Rattle.frame.proofs.Applied.{base_refused, cfa-passes}
use Rattle.frame.proofs.Passes.{Passing, leaf-word, fp-word, sp-word, passing}
use Rattle.frame.proofs.Stepped.{word_refused, word-passes}
use Rattle.frame.proofs.Ra as Ra
use Rattle.frame.proofs.Ra.{Columns}

-- the CFA of a word that passes is that of the word as read, and fp is tested alike
module _ (a : Arch) (frame : ℕ) (first : Bool) (file : List ℕ) where
  abbrev Alike : Type 0
  Alike =
      frame_cfa a frame first file ≡
      (if (read_as a frame).on_fp && bad_fp (base a (read_as a frame).on_fp file) then Refused Misaligned else Answer (cfa a (read_as a frame) file))

  alike_leaf : past_table a frame ≡ false → first ≡ true → kind frame ≡ leaf → mask frame ≡ 0 → Alike
  unfolding frame_cfa leaf_cfa read_as
  alike_leaf past f k z =
      let e : 8 * a.entry_units + 16 * param frame ≡ 8 * (2 * param frame + a.entry_units) = omega arith in
      rw (past, k, f, z) (ap (λ (n : ℕ). Answer (sum (sp a file) n)) e)

  alike_fp :
      past_table a frame ≡ false → first ≡ false → kind frame ≡ on_fp → (ltb (param frame) 3 && not (eqb (mask frame) 0)) ≡ false → Alike
  unfolding frame_cfa fp_cfa read_as
  alike_fp past f k low = rw (past, k, f, low)

  alike_sp : past_table a frame ≡ false → first ≡ false → kind frame ≡ on_sp → Alike
  unfolding frame_cfa sp_cfa read_as
  alike_sp past f k =
      let e : 16 * param frame ≡ 8 * (2 * param frame) = omega arith in
      rw (past, k, f) (ap (λ (n : ℕ). Answer (sum (sp a file) n)) e)

  alike : Passing a frame first → Alike
  alike (leaf-word past f k z) = alike_leaf past f k z
  alike (fp-word past f k low) = alike_fp past f k low
  alike (sp-word past f k) = alike_sp past f k

-- past the tests: the word's parts are its pairs
module _ (a : Arch) (c : Columns a) (m : Memory) (frame at : ℕ) where
  -- what apply makes of the restored file
  abbrev tail : List ℕ → Outcome (List ℕ)
  tail file = get a file a.ra >>= λ (r : ℕ). Answer (returned a at r file)

  -- the return register, read after it was set, is what was set
  set_then_get :
      (file : List ℕ) (v : ℕ) → length file ≡ columns →
      ((set a file a.ra v >>= λ (f : List ℕ). Answer f) >>= tail) ≡ set_return a at v file
  unfolding set get set_return
  set_then_get file v l =
      simp c.ra_known
      (ap (λ (r : ℕ). Answer (returned a at r (ListN.set file c.ra v)))
      (get_or-set_same file c.ra v 0 (omega (arith, c.ra_fits))))

  -- set to what it is, it stays
  get_then_set : (file : List ℕ) → (get a file a.ra >>= λ (r : ℕ). set_return a at r file) ≡ tail file
  unfolding set get set_return
  get_then_set file =
      rw c.ra_known
      (ap (λ (f : List ℕ). Answer (returned a at (get_or file c.ra 0) f)) (set-get_or file c.ra 0))

  -- fp is refused with 27 alone
  fp-outside : (file : List ℕ) (x : ℕ) → restore_pairs a m at (fp_pair a frame) file ≡ Refused x → x ≡ OutsideMemory
  unfolding fp_pair set
  fp-outside file x e = go (eqb (kind frame) on_fp) refl
    where
      clash : (f : List ℕ) → ◌≡◌ {A = Outcome (List ℕ)} (Answer f) (Refused x) → x ≡ OutsideMemory
      clash f p = let z : ◌≡◌ {A = ℕ} 0 1 = cc in absurd (omega arith)

      read : eqb (kind frame) on_fp ≡ true → (o : Outcome ℕ) → load_slot m at 2 ≡ o → x ≡ OutsideMemory
      read k (Refused y) l =
          let q : ◌≡◌ {A = Outcome (List ℕ)} (Refused y) (Refused x) = rw (k, l) at e in
          let r : y ≡ x = cc in
          sym r ∙ slot_refused m at 2 y l
      read k (Answer v) l = clash (ListN.set file c.fp v) (rw (k, l, c.fp_known) at e)

      go : (t : Bool) → eqb (kind frame) on_fp ≡ t → x ≡ OutsideMemory
      go true k = read k (load_slot m at 2) refl
      go false k = clash file (rw k at e)

  module _ (slot : ℕ) where
    abbrev pair : Pair
    pair = record { reg = a.ra; slot = slot }

    -- the return address is read before fp or after it: alike
    after-saved :
        (file : List ℕ) → length file ≡ columns →
        (load_slot m at slot >>= λ (r : ℕ). set_frame a m frame at r file) ≡
        (restore_pairs a m at (fp_pair a frame ++ (pair ∷ [])) file >>= tail)
    unfolding set_frame
    after-saved file l =
        rw (restore-append a m at (fp_pair a frame) (pair ∷ []) file)
        (framed (restore_pairs a m at (fp_pair a frame) file) refl (load_slot m at slot) refl)
      where
        framed : (o : Outcome (List ℕ)) → restore_pairs a m at (fp_pair a frame) file ≡ o → (p : Outcome ℕ) → load_slot m at slot ≡ p →
            (load_slot m at slot >>= λ (r : ℕ). restore_pairs a m at (fp_pair a frame) file >>= set_return a at r) ≡
            ((restore_pairs a m at (fp_pair a frame) file >>= restore_pairs a m at (pair ∷ [])) >>= tail)
        framed (Refused x) e (Refused y) d =
            rw (e, d) (ap Refused (slot_refused m at slot y d ∙ sym (fp-outside file x e)))
        framed (Refused x) e (Answer v) d = rw (e, d)
        framed (Answer f) e (Refused y) d = rw (e, d)
        framed (Answer f) e (Answer v) d =
            rw (e, d) (sym (set_then_get f v (restore-length a m at (fp_pair a frame) file f e ∙ l)))

  -- the return address in a slot
  step-slot :
      (file : List ℕ) → length file ≡ columns → eqb (ra_slot a frame) 0 ≡ false →
      step_at a m frame at file ≡ apply_at a m at (read_as a frame).pairs file
  unfolding step_at set_caller apply_at return_address read_as
  step-slot file l e =
      rw (e, restore-append a m at (saved_pairs a frame) (fp_pair a frame ++ (pair (ra_slot a frame) ∷ [])) file)
      (saved (restore_pairs a m at (saved_pairs a frame) file) refl)
    where
      saved : (o : Outcome (List ℕ)) → restore_pairs a m at (saved_pairs a frame) file ≡ o →
          (restore_pairs a m at (saved_pairs a frame) file >>= λ (f : List ℕ).
          load_slot m at (ra_slot a frame) >>= λ (r : ℕ). set_frame a m frame at r f) ≡
          ((restore_pairs a m at (saved_pairs a frame) file >>=
          restore_pairs a m at (fp_pair a frame ++ (pair (ra_slot a frame) ∷ []))) >>= tail)
      saved (Refused x) p = rw p
      saved (Answer f) p =
          rw p (after-saved (ra_slot a frame) f (restore-length a m at (saved_pairs a frame) file f p ∙ l))

  -- the return address still in its register, in a leaf without mask
  step_register :
      (file : List ℕ) → eqb (ra_slot a frame) 0 ≡ true → saved_pairs a frame ≡ [] → fp_pair a frame ≡ [] →
      step_at a m frame at file ≡ apply_at a m at (read_as a frame).pairs file
  unfolding step_at set_caller apply_at return_address set_frame read_as
  step_register file e s f = rw (e, s, f) (get_then_set file)

-- a leaf without mask saves nothing
nothing-named : (table : List ℕ) → named 0 table ≡ []
nothing-named [] = refl
nothing-named (reg ∷ table) = nothing-named table

leaf_saves_none : (a : Arch) (frame : ℕ) → mask frame ≡ 0 → saved_pairs a frame ≡ []
unfolding saved_pairs
leaf_saves_none a frame z = rw (z, nothing-named a.saved) (go (reversed frame) refl)
  where
    go : (t : Bool) → reversed frame ≡ t → in_slots (reversed frame) (first_slot frame) [] ≡ []
    go true e = rw e
    go false e = rw e

module _ (a : Arch) (c : Columns a) (m : Memory) (frame : ℕ) (first : Bool) (file : List ℕ) (l : length file ≡ columns) where
  -- past the tests a word that passes steps as its pairs
  pairs_alike : (at : ℕ) → Passing a frame first → step_at a m frame at file ≡ apply_at a m at (read_as a frame).pairs file
  unfolding ra_slot fp_pair
  pairs_alike at (leaf-word past f k z) = go (eqb (ra_slot a frame) 0) refl
    where
      go : (t : Bool) → eqb (ra_slot a frame) 0 ≡ t → step_at a m frame at file ≡ apply_at a m at (read_as a frame).pairs file
      go true e = step_register a c m frame at file e (leaf_saves_none a frame z) (rw k)
      go false e = step-slot a c m frame at file l e
  pairs_alike at (fp-word past f k low) = step-slot a c m frame at file l (rw k)
  pairs_alike at (sp-word past f k) = step-slot a c m frame at file l (rw k)

  -- a word that passes its rules steps as it is read, where its CFA is above 0
  pub step_as_apply :
      passes a frame first ≡ true → 0 < cfa a (read_as a frame) file → step a m frame first file ≡ apply a m (read_as a frame) file
  step_as_apply p some = go ((read_as a frame).on_fp && bad_fp (base a (read_as a frame).on_fp file)) refl
    where
      w : Passing a frame first
      w = passing a frame first p

      go : (t : Bool) → ((read_as a frame).on_fp && bad_fp (base a (read_as a frame).on_fp file)) ≡ t →
          step a m frame first file ≡ apply a m (read_as a frame) file
      go true b =
          let e : frame_cfa a frame first file ≡ Refused Misaligned = alike a frame first file w ∙ rw b in
          sym (word_refused a m frame first file Misaligned (sym e)) ∙
          base_refused a m (read_as a frame) file (base a (read_as a frame).on_fp file) refl
          ((read_as a frame).on_fp && bad_fp (base a (read_as a frame).on_fp file)) refl b
      go false b =
          let e : frame_cfa a frame first file ≡ Answer (cfa a (read_as a frame) file) = alike a frame first file w ∙ rw b in
          sym (word-passes a m frame first file (cfa a (read_as a frame) file) (sym e)) ∙
          pairs_alike (cfa a (read_as a frame) file) w ∙
          cfa-passes a m (read_as a frame) file (base a (read_as a frame).on_fp file) refl
          ((read_as a frame).on_fp && bad_fp (base a (read_as a frame).on_fp file)) refl b
          (cfa a (read_as a frame) file) refl (λ z. omega arith)

-- on both architectures
pub step_reads :
    (n : ℕ) (m : Memory) (frame : ℕ) (first : Bool) (file : List ℕ) → length file ≡ columns →
    passes (numbers n) frame first ≡ true → 0 < cfa (numbers n) (read_as (numbers n) frame) file →
    step (numbers n) m frame first file ≡ apply (numbers n) m (read_as (numbers n) frame) file
step_reads n m frame first file l p some = step_as_apply (numbers n) (Ra.both n) m frame first file l p some
