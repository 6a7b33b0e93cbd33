-- The events that change registers keep the invariant: a change, a reload, a move of sp. Assumes nothing.
use Rattle.std.specs.Prelude.{if◌then◌else◌}
use mathlib.Core.Path.{◌≡◌, refl, sym, ◌∙◌, ap, subst}
use mathlib.Core.Bool.{Bool, true, false, not, ◌||◌}
use mathlib.Core.List.Memᴰ
use mathlib.Core.List.{List, [], ◌∷◌, Memᴰ}
use mathlib.Core.Logic.{◌⊎◌, inl, inr, ⊎_elim}
use Prim.Native.Nat.{ℕ, ◌^◌, ◌≤◌, ◌<◌}
use native.Mathlib.Omega.{arith}
use lib.Dec.{eqb, ltb}
use lib.ListN.{get_or, set}
use borrow.Author.Tests.{eqb-true, eqb-false, ltb-true, leb-true, not-true}
use Rattle.failure.specs.Failure.{one_of}
use Rattle.mem.proofs.Tests.{both}
use Rattle.arch.specs.Arch.{Arch}
use Rattle.arch.specs.File.{pc_column}
use Rattle.frame.specs.Layout.{Pair}
use Rattle.model.specs.Machine.{Open, Machine, column, is_register, value, arch_of}
use Rattle.model.specs.Described.{is_spilled}
use Rattle.model.specs.Event.{not_sp_nor_pc, change_allowed, reload_allowed, unspilled, reloading, with_registers, with_frames, change, reload, move, move_allowed}
use Rattle.model.proofs.Chain.{Kept, AllLive, Inner, Inv}
use Rattle.model.proofs.Guard.{each}
use Rattle.model.proofs.Allowed.{if_allowed, if_open}
use Rattle.model.proofs.Paired.{paired_keeps}
use Rattle.model.proofs.Registers.{Returning, pushed, left, returning, sp-alone, set_keeps, set_good}

-- the pairs that stay are pairs that were there
unspilled_in : (ps : List Pair) (reg : ℕ) (p : Pair) → Memᴰ p (unspilled ps reg) → Memᴰ p ps
unspilled_in [] reg p i = i
unspilled_in (q ∷ ps) reg p i = go (eqb q.reg reg) i (λ (j : Memᴰ p (unspilled ps reg)). Memᴰ.tail (unspilled_in ps reg p j))
  where
    go : (t : Bool) → Memᴰ p (if t then unspilled ps reg else q ∷ unspilled ps reg) →
        (Memᴰ p (unspilled ps reg) → Memᴰ p (q ∷ ps)) → Memᴰ p (q ∷ ps)
    go true j rest = rest j
    go false j rest = ⊎_elim (λ (e : p ≡ q). Memᴰ.head e) rest (Memᴰ.cases_cons j)

-- another register stays spilled
unspilled_other : (ps : List Pair) (reg r : ℕ) → (reg ≡ r → ⊥) → is_spilled ps r ≡ true → is_spilled (unspilled ps reg) r ≡ true
unspilled_other [] reg r other s = s
unspilled_other (q ∷ ps) reg r other s =
    go (eqb q.reg reg) refl (eqb q.reg r) refl (λ (e : is_spilled ps r ≡ true). unspilled_other ps reg r other e)
  where
    go : (t : Bool) → eqb q.reg reg ≡ t → (u : Bool) → eqb q.reg r ≡ u →
        (is_spilled ps r ≡ true → is_spilled (unspilled ps reg) r ≡ true) → is_spilled (unspilled (q ∷ ps) reg) r ≡ true
    go true e true f rest = absurd (other (sym (eqb-true q.reg reg e) ∙ eqb-true q.reg r f))
    go true e false f rest = rw e (rest (rw f at s))
    go false e true f rest = rw (e, f)
    go false e false f rest = rw (e, f) (rest (rw f at s))

module _ (m : Machine) (f : Open) (fs : List Open) (here : m.frames ≡ f ∷ fs) (i : Inv m) where
  -- what the invariant says of the innermost frame
  innermost : Inner m.tables m.registers (f ∷ fs)
  innermost = rw here at i.inner

  -- a column of the registers set, to at most the CFA where it is that of sp
  setting :
      (k v : ℕ) → v < 2 ^ 64 → ((arch_of m).sp ≡ k → v ≤ f.cfa) → Inv (with_registers m (set m.registers k v))
  setting k v small low =
      let good = set_good m.registers k v small (record { wide = i.wide; below = i.values }) in
      record {
        known = i.known;
        accepted = i.accepted;
        bytes = i.bytes;
        wide = good.wide;
        values = good.below;
        few = i.few;
        live = i.live;
        inner =
            rw here (
              innermost.0,
              (set_keeps (λ (x : ℕ). x ≤ f.cfa) m.registers k v (arch_of m).sp innermost.1.0 low, innermost.1.1),
            );
      }

  -- the pair of a register other than 16 ends
  ending : (reg : ℕ) → (reg ≡ 16 → ⊥) → Inv (with_frames m (reloading f reg ∷ fs))
  ending reg other =
      let live : AllLive (arch_of m) m.stack (f ∷ fs) = rw here at i.live in
      let kept : Kept m.tables f = innermost.0 in
      paired_keeps m f fs here (unspilled f.spilled reg)
      (record {
        returns = returns (returning m.tables.arch) kept.returns;
        each = λ p j. let was = unspilled_in f.spilled reg p j in (kept.registers p was, live.0 p was);
      })
      i
    where
      Returns : List Pair → Type 0
      Returns ps = (is_spilled ps (arch_of m).ra ≡ true) ⊎ (one_of (arch_of m).ra (arch_of m).preserved ≡ true)

      returns : Returning (arch_of m) → Returns f.spilled → Returns (unspilled f.spilled reg)
      returns (left p c l preserved) old = inr preserved
      returns (pushed p is c) (inr preserved) = inr preserved
      returns (pushed p is c) (inl spilled) = inl (unspilled_other f.spilled reg (arch_of m).ra (λ e. other (e ∙ is)) spilled)

  -- the innermost frame's CFA is a number of 64 bits
  small_cfa : f.cfa < 2 ^ 64
  small_cfa = subst (λ (x : ℕ). x < 2 ^ 64) innermost.0.kept_sp (innermost.0.below (arch_of m).sp)

-- what the rules of a change give
change_rules :
    (m : Machine) (f : Open) (reg v : ℕ) → change_allowed m f reg v ≡ true → (v < 2 ^ 64) × (reg ≡ (arch_of m).sp → ⊥)
unfolding change_allowed not_sp_nor_pc
change_rules m f reg v g =
    let a : Arch = arch_of m in
    let spilled : Bool = not (one_of reg a.preserved) || is_spilled f.spilled reg in
    let (_, (neither, (_, (small, _)))) = each spilled (not_sp_nor_pc a reg ∷ is_register a reg ∷ ltb v (2 ^ 64) ∷ []) g in
    let (not_sp, _) = both (not (eqb reg a.sp)) (not (eqb (column a reg) pc_column)) neither in
    (ltb-true v (2 ^ 64) small, eqb-false reg a.sp (not-true (eqb reg a.sp) not_sp))

-- a change keeps the invariant
pub change_keeps : (m : Machine) (reg v : ℕ) → Inv m → Inv (change m reg v m.frames)
change_keeps m reg v i =
    if_open Inv m (change m reg v) i λ (f : Open) (fs : List Open) here.
    if_allowed m _ (change_allowed m f reg v) i λ (g : change_allowed m f reg v ≡ true).
    let (small, not_sp) = change_rules m f reg v g in
    setting m f fs here i (column (arch_of m) reg) v small (λ e. absurd (not_sp (sp-alone m.tables.arch reg (sym e))))

-- a reload keeps it
pub reload_keeps : (m : Machine) (reg : ℕ) → Inv m → Inv (reload m reg m.frames)
unfolding reload_allowed value
reload_keeps m reg i =
    if_open Inv m (reload m reg) i λ (f : Open) (fs : List Open) here.
    if_allowed m _ (reload_allowed f reg) i λ (g : reload_allowed f reg ≡ true).
    let (_, not16) = both (is_spilled f.spilled reg) (not (eqb reg 16)) g in
    let k : ℕ = column (arch_of m) reg in
    let kept : Kept m.tables f = (innermost m f fs here i).0 in
    let v : ℕ = get_or f.kept k 0 in
    let low : (arch_of m).sp ≡ k → v ≤ f.cfa = λ e. omega (arith, sym (ap (λ (x : ℕ). get_or f.kept x 0) e) ∙ kept.kept_sp) in
    ending (with_registers m (set m.registers k v)) f fs here (setting m f fs here i k v (kept.below k) low) reg
    (eqb-false reg 16 (not-true (eqb reg 16) not16))

-- a move of sp keeps it
pub move_keeps : (m : Machine) (to : ℕ) → Inv m → Inv (move m to m.frames)
move_keeps m to i =
    if_open Inv m (move m to) i λ (f : Open) (fs : List Open) here.
    if_allowed m _ (move_allowed f to) i λ (g : move_allowed f to ≡ true).
    let low = leb-true to f.cfa g in
    setting m f fs here i (arch_of m).sp to (omega (arith, small_cfa m f fs here i)) (λ e. low)
