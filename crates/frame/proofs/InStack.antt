-- Laws of `Near`, `slot_in` and `deepest`. Assumes nothing.
use mathlib.Core.Path.{◌≡◌, refl, sym, ◌∙◌, ap, subst}
use mathlib.Core.Bool.{Bool, true, false, and-false}
use mathlib.Core.List.{List}
use mathlib.Core.Logic.{⊎_elim}
use Rattle.std.specs.Prelude.{Result, Ok, Err, if◌then◌else◌}
use Rattle.std.specs.Result.{result_unwrap_or}
use Prim.Native.Nat.{ℕ, ◌+◌, ◌-◌, ◌*◌, ◌^◌, ◌≤◌, ◌<◌, max}
use native.Mathlib.Omega.{arith}
use lib.Dec.{ltb}
use lib.ListN.{length, get_or, take, drop, length-take, length-drop}
use borrow.Author.Tests.{lt-leb, eq-eqb, ltb-true, ltb-false}
use Rattle.failure.specs.Failure.{number}
use Rattle.failure.specs.Outcome.{Answer, outcome}
use Rattle.failure.specs.declared.Failure.{Failure}
use Rattle.failure.proofs.Outcome.{answer-refused}
use Rattle.arch.specs.Arch.{Arch}
use Rattle.mem.specs.Place.{holds, bytes_at}
use Rattle.mem.specs.Given.{lent_by}
use Rattle.mem.specs.Word.{little_endian, load, word_in}
use Rattle.mem.specs.Wrapping.{difference}
use Rattle.mem.specs.declared.Memory.{Memory}
use Rattle.mem.proofs.Place.{holds_when}
use Rattle.mem.proofs.Tests.{lt_or_le}
use Rattle.frame.specs.Apply.{load_slot}
use Rattle.frame.specs.Frame.{first_slot, reversed, slot_of}
use Rattle.frame.specs.Near.{Near, slot_in, Usable, Within, deepest}

-- eight bytes of the stack are read whole
pub part_read :
    (stack : List ℕ) (k : ℕ) (r : Result ℕ Failure) → outcome r ≡ word_in 8 (take (k + 8 - k) (drop k stack)) → k + 8 ≤ length stack →
    result_unwrap_or r 0 ≡ little_endian (take 8 (drop k stack))
unfolding word_in
part_read stack k r p fits = value r whole
  where
    n : k + 8 - k ≡ 8
    n = omega arith

    l : length (take 8 (drop k stack)) ≡ 8
    l = simp (length-take, length-drop) (omega arith)

    whole : outcome r ≡ Answer (little_endian (take 8 (drop k stack)))
    whole = p ∙ rw (n, eq-eqb (length (take 8 (drop k stack))) 8 l)

    value : (r : Result ℕ Failure) → outcome r ≡ Answer (little_endian (take 8 (drop k stack))) →
        result_unwrap_or r 0 ≡ little_endian (take 8 (drop k stack))
    value (Ok v) e = cc
    value (Err f) e = answer-refused _ (number f) (sym e)

-- a test that fails tells nothing
pub no : (A : Type 0) → false ≡ true → A
no A e = let z : ◌≡◌ {A = ℕ} 0 1 = cc in absurd (omega arith)

-- a range of addresses does not hold bytes at or past its end
past_end : (base size a : ℕ) → base + size ≤ a → holds base size a 8 ≡ false
unfolding holds
past_end base size a h = simp (lt-leb (a + 8) (base + size) (omega arith), and-false)

-- nor bytes before its start
before-start : (base size a : ℕ) → a < base → holds base size a 8 ≡ false
unfolding holds
before-start base size a h = simp (lt-leb base a h)

module _ (m : Memory) (at depth : ℕ) (near : Near m at depth) where
  -- fewer slots are near too
  pub near_less : (d : ℕ) → d ≤ depth → Near m at d
  near_less d h =
      record {
        low = omega (arith, near.low);
        high = near.high;
        off = λ p. omega (arith, near.off p);
      }

-- a slot that is near is read from the stack
module _ (m : Memory) (at slot : ℕ) (near : Near m at slot) (some : 0 < slot) (fits : at < 2 ^ 64) where
  address : difference at (8 * slot) ≡ at - 8 * slot
  address = omega (arith, near.low)

  not_section : holds m.section_base (length m.section.now) (at - 8 * slot) 8 ≡ false
  not_section =
      ⊎_elim
      (λ (e : m.section_base < at). past_end m.section_base (length m.section.now) (at - 8 * slot) (omega (arith, near.off e)))
      (λ (e : at ≤ m.section_base). before-start m.section_base (length m.section.now) (at - 8 * slot) (omega (arith, near.low)))
      (lt_or_le m.section_base at)

  in_stack : holds m.stack_base (length m.stack.now) (at - 8 * slot) 8 ≡ true
  in_stack = holds_when m.stack_base (length m.stack.now) (at - 8 * slot) 8 (omega (arith, near.low)) (omega (arith, near.low, near.high))

  pub near_loads : Answer (slot_in m.stack.now (at - m.stack_base) slot) ≡ load_slot (lent_by m).regions at slot
  unfolding load_slot load bytes_at
  near_loads =
      let k : at - m.stack_base - 8 * slot ≡ at - 8 * slot - m.stack_base = omega (arith, near.low) in
      rw (address, not_section, in_stack) (ap (λ (i : ℕ). Answer (little_endian (take 8 (drop i m.stack.now)))) k)

-- the deepest slot, by the first slot
pub deepest_max : (frame n first past : ℕ) → first ≡ first_slot frame → past ≡ max (first + n) 3 → past - 1 ≡ deepest frame n
unfolding deepest
deepest_max frame n first past is e = go (ltb (first_slot frame + n) 3) refl
  where
    go : (t : Bool) → ltb (first_slot frame + n) 3 ≡ t → past - 1 ≡ (if ltb (first_slot frame + n) 3 then 2 else first_slot frame + n - 1)
    go true h = let l = ltb-true (first_slot frame + n) 3 h in rw h (omega arith)
    go false h = let l = ltb-false (first_slot frame + n) 3 h in rw h (omega arith)

-- the deepest slot is at least 2 and at least that of every saved register
pub deepest_bounds : (frame n : ℕ) → (2 ≤ deepest frame n) × (first_slot frame + n ≤ deepest frame n + 1)
unfolding deepest
deepest_bounds frame n = go (ltb (first_slot frame + n) 3) refl
  where
    go : (t : Bool) → ltb (first_slot frame + n) 3 ≡ t → (2 ≤ deepest frame n) × (first_slot frame + n ≤ deepest frame n + 1)
    go true e = let h = ltb-true (first_slot frame + n) 3 e in rw e (omega arith, omega arith)
    go false e = let h = ltb-false (first_slot frame + n) 3 e in rw e (omega arith, omega arith)

-- the slot of a saved register is near
pub slot_bounds :
    (frame n k : ℕ) → k < n → (0 < n → 0 < first_slot frame) → (0 < slot_of frame n k) × (slot_of frame n k ≤ deepest frame n)
slot_bounds frame n k h some = go (reversed frame) refl
  where
    go : (t : Bool) → reversed frame ≡ t → (0 < slot_of frame n k) × (slot_of frame n k ≤ deepest frame n)
    go true e =
        let first = some (omega arith) in
        let deep = deepest_bounds frame n in
        rw e (omega arith, omega (arith, deep.1))
    go false e =
        let first = some (omega arith) in
        let deep = deepest_bounds frame n in
        rw e (omega arith, omega (arith, deep.1))

-- one more pair is within a depth that is no smaller
pub within_turn :
    (a : Arch) (regs slots : List ℕ) (depth i d : ℕ) → Within a regs slots depth i → (slot : ℕ) → slot ≡ get_or slots i 0 →
    Usable a (get_or regs i 0) slot → depth ≤ d → slot ≤ d → Within a regs slots d (i + 1)
within_turn a regs slots depth i d w slot is u h l =
    λ j p.
    ⊎_elim (λ (q : j < i). let old = w j q in (old.0, omega (arith, old.1)))
    (λ (q : i ≤ j).
    let e : i ≡ j = omega arith in
    subst (λ (k : ℕ). Usable a (get_or regs k 0) (get_or slots k 0) × (get_or slots k 0 ≤ d)) e
    (subst (λ (s : ℕ). Usable a (get_or regs i 0) s × (s ≤ d)) is (u, l)))
    (lt_or_le j i)
