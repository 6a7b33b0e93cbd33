-- Laws of `step`: what each part says of the whole. Assumes nothing.
use mathlib.Core.Path.{◌≡◌, sym, ◌∙◌, ap}
use mathlib.Core.Bool.{Bool}
use mathlib.Core.List.{List, []}
use Prim.Native.Nat.{ℕ}
use lib.ListN as ListN
use borrow.Author.Tests.{eq-eqb, ne_eqb}
use Rattle.failure.specs.Outcome.{Outcome, Refused, Answer, ◌>>=◌}
use Rattle.mem.specs.Memory.{Memory}
use Rattle.arch.specs.Arch.{Arch}
use Rattle.arch.specs.File.{get, set, column_of}
use Rattle.frame.specs.Apply.{load_slot, restore_pairs, returned}
use Rattle.frame.specs.Frame.{kind, on_fp, saved_pairs, fp_pair, ra_slot}
use Rattle.frame.specs.Step.{frame_cfa, return_address, set_return, set_frame, set_caller, step_at, step}
use Rattle.frame.proofs.Cell.{cell_of}
use Rattle.frame.proofs.Pairs.{restore-set, restore_refused}

-- the return address: from its register, or from its slot
pub address_register :
    (a : Arch) (m : Memory) (at slot : ℕ) (file : List ℕ) (o : Outcome ℕ) → slot ≡ 0 → o ≡ get a file a.ra →
    o ≡ return_address a m at slot file
unfolding return_address
address_register a m at slot file o z e = rw (eq-eqb slot 0 z) e

pub address-slot :
    (a : Arch) (m : Memory) (at slot : ℕ) (file : List ℕ) (o : Outcome ℕ) → (slot ≡ 0 → ⊥) → o ≡ load_slot m at slot →
    o ≡ return_address a m at slot file
unfolding return_address
address-slot a m at slot file o z e = rw (ne_eqb slot 0 z) e

-- the return register is set
pub return_set :
    (a : Arch) (at ra : ℕ) (file : List ℕ) (k : ℕ) → Answer k ≡ column_of a a.ra →
    Answer (returned a at ra (ListN.set file k ra)) ≡ set_return a at ra file
unfolding set_return set
return_set a at ra file k e = rw (sym e)

module _ (a : Arch) (m : Memory) (frame at ra : ℕ) (file : List ℕ) (k : ℕ) (is : k ≡ kind frame) where
  -- fp is set, or refused, where the frame saves it
  module _ (e : k ≡ on_fp) (reg : ℕ) (fp : reg ≡ a.fp) where
    pub fp-set :
        (column v : ℕ) → Answer (record { column = column; value = v }) ≡ cell_of a m at (record { reg = reg; slot = 2 }) →
        set_return a at ra (ListN.set file column v) ≡ set_frame a m frame at ra file
    unfolding set_frame fp_pair
    fp-set column v p =
        let q = p ∙ ap (λ (r : ℕ). cell_of a m at (record { reg = r; slot = 2 })) fp in
        rw (eq-eqb (kind frame) on_fp (sym is ∙ e))
        (sym (ap (λ (o : Outcome (List ℕ)). o >>= set_return a at ra) (restore-set a m at (record { reg = a.fp; slot = 2 }) [] file column v q)))

    pub fp_refused : (n : ℕ) → Refused n ≡ cell_of a m at (record { reg = reg; slot = 2 }) → Refused n ≡ set_frame a m frame at ra file
    unfolding set_frame fp_pair
    fp_refused n p =
        let q = p ∙ ap (λ (r : ℕ). cell_of a m at (record { reg = r; slot = 2 })) fp in
        rw (eq-eqb (kind frame) on_fp (sym is ∙ e))
        (sym (ap (λ (o : Outcome (List ℕ)). o >>= set_return a at ra) (restore_refused a m at (record { reg = a.fp; slot = 2 }) [] file n q)))

  -- fp stays where it does not
  pub fp_stays : (k ≡ on_fp → ⊥) → set_return a at ra file ≡ set_frame a m frame at ra file
  unfolding set_frame fp_pair
  fp_stays e = rw (ne_eqb (kind frame) on_fp (λ p. e (is ∙ p)))

module _ (a : Arch) (m : Memory) (frame at : ℕ) (file : List ℕ) where
  -- the return address is refused, or read
  module _ (next : List ℕ) (slot : ℕ) (is : slot ≡ ra_slot a frame) where
    pub address_refused : (n : ℕ) → Refused n ≡ return_address a m at slot file → Refused n ≡ set_caller a m frame at file next
    unfolding set_caller
    address_refused n e = rw (sym is, sym e)

    pub address_read : (ra : ℕ) → Answer ra ≡ return_address a m at slot file → set_frame a m frame at ra next ≡ set_caller a m frame at file next
    unfolding set_caller
    address_read ra e = rw (sym is, sym e)

  -- a saved register is refused, or all are restored
  pub saved-stops : (n : ℕ) → restore_pairs a m at (saved_pairs a frame) file ≡ Refused n → Refused n ≡ step_at a m frame at file
  unfolding step_at
  saved-stops n e = rw e

  pub saved_done :
      (next : List ℕ) → restore_pairs a m at (saved_pairs a frame) file ≡ Answer next → set_caller a m frame at file next ≡ step_at a m frame at file
  unfolding step_at
  saved_done next e = rw e

-- the parts of a step of which none is refused
pub step-stored :
    (a : Arch) (m : Memory) (frame at : ℕ) (file saved framed exit : List ℕ) (ra : ℕ) →
    restore_pairs a m at (saved_pairs a frame) file ≡ Answer saved → Answer ra ≡ return_address a m at (ra_slot a frame) file →
    restore_pairs a m at (fp_pair a frame) saved ≡ Answer framed → set_return a at ra framed ≡ Answer exit →
    step_at a m frame at file ≡ Answer exit
unfolding step_at set_caller set_frame
step-stored a m frame at file saved framed exit ra s r f e = rw (s, sym r, f) e

module _ (a : Arch) (m : Memory) (frame : ℕ) (first : Bool) (file : List ℕ) where
  -- the word or fp is turned back, or there is a CFA
  pub word_refused : (n : ℕ) → Refused n ≡ frame_cfa a frame first file → Refused n ≡ step a m frame first file
  unfolding step
  word_refused n e = rw (sym e)

  pub word-passes : (at : ℕ) → Answer at ≡ frame_cfa a frame first file → step_at a m frame at file ≡ step a m frame first file
  unfolding step
  word-passes at e = rw (sym e)
