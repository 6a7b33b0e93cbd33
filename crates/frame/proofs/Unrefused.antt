-- Where all slots of a frame lie in the stack and its registers are known, nothing is refused. Assumes nothing.
use Rattle.std.proofs.Common.{◌≡◌, ℕ, zero, suc, ◌+◌, ◌-◌, ◌/◌, ◌%◌, ◌^◌, ◌≤◌, ◌<◌, Bool, true, false, List, [], ◌∷◌, length, get_or, refl, sym, ◌∙◌, ap, subst, arith, lit<}
use Rattle.std.specs.Prelude.{eqb}
use lib.ListN as ListN
use borrow.Author.Tests.{eqb-true, eqb-false}
use Rattle.failure.specs.Outcome.{Outcome, Refused, Answer}
use Rattle.failure.proofs.Outcome.{answer-refused}
use Rattle.mem.specs.Memory as Lent
use Rattle.mem.specs.Given.{lent_by}
use Rattle.mem.specs.declared.Memory.{Memory}
use Rattle.arch.specs.Arch.{Arch, numbers}
use Rattle.arch.specs.File.{column_of}
use Rattle.arch.proofs.File.{get_at}
use Rattle.state.specs.declared.State.{State}
use Rattle.frame.specs.Layout.{Pair, pairs_at, pair_count, layout}
use Rattle.frame.specs.Apply.{load_slot, restore_pairs, returned, apply_at}
use Rattle.frame.specs.Frame.{kind, on_fp, reversed, mask, named, rising, falling, in_slots, first_slot, saved_pairs, fp_pair, ra_slot}
use Rattle.frame.specs.Step.{return_address, step_at}
use Rattle.frame.specs.Near.{Near, slot_in, Usable, Within, deepest, Saves}
use Rattle.frame.proofs.Cell.{Cell, cell_of}
use Rattle.frame.proofs.Slot.{cell_at}
use Rattle.frame.proofs.Pairs.{restore-set}
use Rattle.frame.proofs.PairsAt.{pairs-placed}
use Rattle.frame.proofs.Applied.{ra-answered}
use Rattle.frame.proofs.Columns.{HasColumn, Each, saved-each}
use Rattle.frame.proofs.Ra.{both, fp-known, ra_slot_one}
use Rattle.frame.proofs.InStack.{near_less, near_loads, deepest_bounds}
use Rattle.frame.proofs.Stepped.{address_register, address-slot, return_set, step-stored}

-- each pair comes to a cell
abbrev AllCells : Arch → Lent.Memory → ℕ → List Pair → Type 0
AllCells a m at [] = Unit
AllCells a m at (p ∷ ps) = ((c : Cell) × (cell_of a m at p ≡ Answer c)) × AllCells a m at ps

-- and then all are restored
all_restored :
    (a : Arch) (m : Lent.Memory) (at : ℕ) (ps : List Pair) (file : List ℕ) → AllCells a m at ps →
    (next : List ℕ) × (restore_pairs a m at ps file ≡ Answer next)
all_restored a m at [] file s = (file, refl)
all_restored a m at (p ∷ ps) file s =
    let c = s.0.0 in
    let r = all_restored a m at ps (ListN.set file c.column c.value) s.1 in
    (r.0, restore-set a m at p ps file c.column c.value (sym s.0.1) ∙ r.1)

module _ (a : Arch) (m : Memory) (at : ℕ) (fits : at < 2 ^ 64) where
  -- a pair that is near and usable comes to a cell
  near_cell : (reg slot : ℕ) → Near m at slot → Usable a reg slot →
      (c : Cell) × (cell_of a (lent_by m).regions at (record { reg = reg; slot = slot }) ≡ Answer c)
  near_cell reg slot near u = go (column_of a reg) refl
    where
      go : (o : Outcome ℕ) → column_of a reg ≡ o →
          (c : Cell) × (cell_of a (lent_by m).regions at (record { reg = reg; slot = slot }) ≡ Answer c)
      go (Refused x) e = absurd (u.known x e)
      go (Answer k) e =
          let v = slot_in m.stack.now (at - m.stack_base) slot in (
            record { column = k; value = v },
            sym (cell_at a (lent_by m).regions at reg slot v k (near_loads m at slot near u.some fits) (sym e)),
          )

  -- a register with a column in a slot above 0 is usable
  usable : (reg slot : ℕ) → HasColumn a reg → 0 < slot → Usable a reg slot
  usable reg slot h some = record { known = λ x e. answer-refused h.0 x (sym h.1 ∙ e); some = some }

  module _ (depth : ℕ) (near : Near m at depth) where
    -- the pairs of a state
    pairs_near : (regs slots : List ℕ) (n i : ℕ) → Within a regs slots depth (i + n) → AllCells a (lent_by m).regions at (pairs_at n i regs slots)
    pairs_near regs slots zero i w = tt
    pairs_near regs slots (suc n) i w =
        let p = w i (omega arith) in
        (near_cell (get_or regs i 0) (get_or slots i 0) (near_less m at depth near (get_or slots i 0) p.1) p.0, pairs_near regs slots n (i + 1) (λ j h. w j (omega arith)))

    -- registers with columns in slots that rise or fall
    rising_near : (slot : ℕ) (regs : List ℕ) → Each a regs → 0 < slot → slot + length regs ≤ depth + 1 →
        AllCells a (lent_by m).regions at (rising slot regs)
    rising_near slot [] e some h = tt
    rising_near slot (reg ∷ regs) e some h =
        (near_cell reg slot (near_less m at depth near slot (omega arith)) (usable reg slot e.0 some), rising_near (slot + 1) regs e.1 (omega arith) (omega arith))

    falling_near : (slot : ℕ) (regs : List ℕ) → Each a regs → 0 < slot → slot + length regs ≤ depth + 1 →
        AllCells a (lent_by m).regions at (falling slot regs)
    falling_near slot [] e some h = tt
    falling_near slot (reg ∷ regs) e some h =
        (near_cell reg (slot + length regs) (near_less m at depth near (slot + length regs) (omega arith)) (usable reg (slot + length regs) e.0 (omega arith)), falling_near slot regs e.1 some (omega arith))

-- the named registers of a table have columns, if all have
each_named : (a : Arch) (m : ℕ) (table : List ℕ) → Each a table → Each a (named m table)
each_named a m [] e = tt
each_named a m (reg ∷ table) e = go (eqb (m % 2) 1) refl (each_named a (m / 2) table e.1)
  where
    go : (t : Bool) → eqb (m % 2) 1 ≡ t → Each a (named (m / 2) table) → Each a (named m (reg ∷ table))
    go true h rest = rw h (e.0, rest)
    go false h rest = rw h rest

module _ (arch : ℕ) (m : Memory) (at : ℕ) (fits : at < 2 ^ 64) (depth : ℕ) (near : Near m at depth) (file : List ℕ) where
  -- a state whose pairs are near and usable
  pub near_applies :
      (st : State) → length st.regs ≡ 32 → length st.slots ≡ 32 → Within (numbers arch) st.regs st.slots depth (pair_count st.count) →
      (next : List ℕ) × (apply_at (numbers arch) (lent_by m).regions at (layout st).pairs file ≡ Answer next)
  near_applies st lr ls w =
      let cells = pairs_near (numbers arch) m at fits depth near st.regs st.slots (pair_count st.count) 0 (λ j h. w j (omega arith)) in
      let r =
      all_restored (numbers arch) (lent_by m).regions at (layout st).pairs file
      (subst (λ (ps : List Pair). AllCells (numbers arch) (lent_by m).regions at ps) (pairs-placed st.count st.regs st.slots lr ls) cells) in
      let ra = both arch in (
        returned (numbers arch) at (get_or r.0 ra.ra 0) r.0,
        sym (ra-answered (numbers arch) (lent_by m).regions at (layout st).pairs file r.0 _ r.1 (get_at (numbers arch) r.0 (numbers arch).ra ra.ra (sym ra.ra_known))),
      )

module _ (arch : ℕ) (m : Memory) (at : ℕ) (fits : at < 2 ^ 64) (frame n : ℕ) (saves : Saves (numbers arch) frame n) (near : Near m at (deepest frame n)) where
  abbrev a : Arch
  a = numbers arch

  saved_near : AllCells a (lent_by m).regions at (saved_pairs a frame)
  unfolding saved_pairs
  saved_near = few n refl
    where
      table : Each a (named (mask frame) a.saved)
      table = each_named a (mask frame) a.saved (saved-each arch)

      some : 0 < n → (t : Bool) → reversed frame ≡ t → AllCells a (lent_by m).regions at (in_slots (reversed frame) (first_slot frame) (named (mask frame) a.saved))
      some h true e = rw e (falling_near a m at fits (deepest frame n) near (first_slot frame) (named (mask frame) a.saved) table (saves.some h) (omega (arith, saves.count, (deepest_bounds frame n).1)))
      some h false e = rw e (rising_near a m at fits (deepest frame n) near (first_slot frame) (named (mask frame) a.saved) table (saves.some h) (omega (arith, saves.count, (deepest_bounds frame n).1)))

      none : (regs : List ℕ) → length regs ≡ 0 → AllCells a (lent_by m).regions at (in_slots (reversed frame) (first_slot frame) regs)
      none [] l = go (reversed frame) refl
        where
          go : (t : Bool) → reversed frame ≡ t → AllCells a (lent_by m).regions at (in_slots (reversed frame) (first_slot frame) [])
          go true e = rw e tt
          go false e = rw e tt
      none (reg ∷ regs) l = absurd (omega arith)

      few : (k : ℕ) → n ≡ k → AllCells a (lent_by m).regions at (in_slots (reversed frame) (first_slot frame) (named (mask frame) a.saved))
      few zero e = none (named (mask frame) a.saved) (omega (arith, saves.count))
      few (suc k) e = some (omega arith) (reversed frame) refl

  fp_near : AllCells a (lent_by m).regions at (fp_pair a frame)
  unfolding fp_pair
  fp_near = go (eqb (kind frame) on_fp) refl
    where
      go : (t : Bool) → eqb (kind frame) on_fp ≡ t → AllCells a (lent_by m).regions at (fp_pair a frame)
      go true e =
          rw e (
            near_cell a m at fits a.fp 2 (near_less m at (deepest frame n) near 2 (deepest_bounds frame n).0)
                (record { known = λ x p. answer-refused a.fp x (fp-known arch ∙ p); some = lit< tt }),
            tt,
          )
      go false e = rw e tt

  address_near : (file : List ℕ) → (ra : ℕ) × (Answer ra ≡ return_address a (lent_by m).regions at (ra_slot a frame) file)
  address_near file = go (eqb (ra_slot a frame) 0) refl
    where
      go : (t : Bool) → eqb (ra_slot a frame) 0 ≡ t → (ra : ℕ) × (Answer ra ≡ return_address a (lent_by m).regions at (ra_slot a frame) file)
      go true e =
          let ra = both arch in
          (get_or file ra.ra 0, address_register a (lent_by m).regions at (ra_slot a frame) file _ (eqb-true _ _ e) (get_at a file a.ra ra.ra (sym ra.ra_known)))
      go false e =
          let other = eqb-false (ra_slot a frame) 0 e in
          let one = ra_slot_one arch frame other in
          let near1 = near_less m at (deepest frame n) near 1 (omega (arith, (deepest_bounds frame n).0)) in
          (slot_in m.stack.now (at - m.stack_base) 1, address-slot a (lent_by m).regions at (ra_slot a frame) file _ other (near_loads m at 1 near1 (lit< tt) fits ∙ ap (load_slot (lent_by m).regions at) (sym one)))

  -- a word whose slots are near
  pub near_steps : (file : List ℕ) → (next : List ℕ) × (step_at a (lent_by m).regions frame at file ≡ Answer next)
  near_steps file =
      let saved = all_restored a (lent_by m).regions at (saved_pairs a frame) file saved_near in
      let ra = address_near file in
      let framed = all_restored a (lent_by m).regions at (fp_pair a frame) saved.0 fp_near in
      let k = both arch in (
        returned a at ra.0 (ListN.set framed.0 k.ra ra.0),
        step-stored a (lent_by m).regions frame at file saved.0 framed.0 _ ra.0 saved.1 ra.1 framed.1 (sym (return_set a at ra.0 framed.0 k.ra (sym k.ra_known))),
      )
