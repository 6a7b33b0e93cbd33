-- A call keeps the invariant. Assumes nothing.
use Rattle.std.specs.Prelude.{if◌then◌else◌}
use mathlib.Core.Path.{◌≡◌, refl, sym, ◌∙◌, ap, subst}
use mathlib.Core.Bool.{Bool, true, false, not, ◌||◌}
use mathlib.Core.List.Memᴰ
use mathlib.Core.List.{List, [], ◌∷◌, Memᴰ, ◌++◌}
use mathlib.Core.Logic.{◌⊎◌, inl, inr}
use Rattle.std.proofs.Common.{Option, None, Some}
use Prim.Native.Nat.{ℕ, ◌^◌, ◌<◌}
use native.Mathlib.Nat.{mod-eq_of_lt}
use native.Mathlib.Omega.{arith}
use lib.Dec.{ltb}
use lib.ListN.{length}
use borrow.Author.Tests.{eqb-true, eq-eqb, ltb-true, lt-ltb}
use Rattle.failure.specs.Failure.{one_of}
use Rattle.mem.specs.Memory.{Region}
use Rattle.mem.specs.Opening.{opens}
use Rattle.mem.proofs.Tests.{both}
use Rattle.arch.specs.Arch.{Arch, numbers}
use Rattle.arch.specs.File.{columns, sp, pc}
use Rattle.lookup.specs.Record.{holds}
use Rattle.lookup.specs.Tables.{Entry}
use Rattle.lookup.specs.Sound.{◌∈◌}
use Rattle.frame.specs.Layout.{Pair}
use Rattle.model.specs.FrameStep.{max_frames}
use Rattle.model.specs.Machine.{Open, Tables, Machine, caller_interrupted, looked_at, column, is_register, address, inside, clear, written, records_of, arch_of, lending}
use Rattle.model.specs.Described.{is_spilled, described}
use Rattle.model.specs.Event.{pushes, new_frame, returns, caller_described, call_allowed, entered, call}
use Rattle.model.proofs.Chain.{looked-same, Kept, Slot, Live, AllLive, Chain, Inner, Inv}
use Rattle.model.proofs.Files.{pointers}
use Rattle.model.proofs.Guard.{each}
use Rattle.model.proofs.Allowed.{asked, by_test, if_allowed}
use Rattle.model.proofs.Registers.{Returning, pushed, left, returning, address_bits_lem, Good}
use Rattle.model.proofs.Calling.{calling-sp, kept-sp, calling_good, kept_good, kept-pc, kept-ra}
use Rattle.model.proofs.Slots.{written-holds, written-live, written-lent}

-- the callers of the frame that a call opens are a chain from its kept file on
callers :
    (ts : Tables) (file : List ℕ) (new : Open) (ret : ℕ) → pc new.kept ≡ ret → (fs : List Open) → returns fs new ret ≡ true →
    caller_described ts fs new ret ≡ true → Inner ts file fs → Chain ts false (caller_interrupted new) new.kept fs
callers ts file new ret is [] back out inner = is ∙ eqb-true ret 0 back
callers ts file new ret is (f ∷ fs) back out inner =
    let (above, held) = both (ltb 0 ret) (holds f.entry.function (looked_at (caller_interrupted new) ret)) back in
    let a : Arch = numbers ts.arch in
    let kept : List ℕ = new.kept in
    let (fits, low) = both (described ts f kept (caller_interrupted new) (looked_at (caller_interrupted new) ret)) (ltb (sp a kept) f.cfa) out in
    let lower : sp a kept < f.cfa = ltb-true (sp a kept) f.cfa low in (
      record {
        kept = inner.0;
        called = rw is (ltb-true 0 ret above);
        held = rw (is, sym (looked-same (caller_interrupted new) ret)) held;
        fits = rw (is, sym (looked-same (caller_interrupted new) ret)) fits;
        at_most = omega arith;
        lower = λ e. lower;
      },
      inner.1.1,
    )

-- what a call spills: the return register where it pushes
pushed_pair : (t : Bool) (q p : Pair) → Memᴰ p (if t then q ∷ [] else []) → (t ≡ true) × (p ≡ q)
pushed_pair true q p j = (refl, Memᴰ.eq_of_singleton j)
pushed_pair false q p j = absurd (Memᴰ.not-nil j)

module _ (m : Machine) (e : Entry) (ret : ℕ) (i : Inv m) where
  abbrev a : Arch
  a = arch_of m

  abbrev file : List ℕ
  file = m.registers

  -- the registers are a file
  abbrev good : Good m.registers
  good = record { wide = i.wide; below = i.values }

  -- the frame that it opens
  abbrev new : Open
  new = new_frame a file e ret

  -- where a call pushes
  abbrev top : ℕ
  top = address (sp a file) 1

  -- the pair that it spills then
  abbrev pair : Pair
  pair = record { reg = a.ra; slot = 1 }

  module _ (fits : ret < 2 ^ a.address_bits) where
    -- ret is a number of 64 bits
    small : ret < 2 ^ 64
    small = omega (arith, fits, address_bits_lem m.tables.arch)

    -- the frame that a call opens
    new_kept :
        e ∈ records_of m.tables → 0 < sp a file → Kept m.tables new
    unfolding new_frame is_register
    new_kept is_record above =
        let kept = kept_good m.tables.arch file good ret small in
        let back = kept-pc m.tables.arch file good ret small in
        let known = lt-ltb (column a a.ra) columns (pointers m.tables.arch).ra_below in
        record {
          is_record = is_record;
          wide = kept.wide;
          below = kept.below;
          kept_sp = kept-sp m.tables.arch file good ret;
          above = above;
          returns = returned (returning m.tables.arch);
          kept_pc = rw (kept-ra m.tables.arch file good ret small, back) (mod-eq_of_lt fits);
          registers = λ p j. ap (λ (q : Pair). is_register a q.reg) (pushed_pair (pushes a) pair p j).1 ∙ known;
        }
      where
        returned : Returning a →
            (is_spilled (if pushes a then pair ∷ [] else []) a.ra ≡ true) ⊎ (one_of a.ra a.preserved ≡ true)
        returned (pushed p is c) = inl (rw (p, eq-eqb a.ra a.ra refl))
        returned (left p c l o) = inr o

    module _ (within : pushes a ≡ true → inside m.stack top ≡ true) where
      -- its slot holds ret
      new_live : Live a (if pushes a then written m.stack top ret else m.stack) new
      unfolding new_frame
      new_live p j =
          let (push, is) = pushed_pair (pushes a) pair p j in
          let value = sym (kept-ra m.tables.arch file good ret small) in
          let there = written-holds a m.stack new pair ret (within push) small value in
          subst (λ (t : Bool). Slot a (if t then written m.stack top ret else m.stack) new p) (sym push)
          (subst (Slot a (written m.stack top ret) new) (sym is) there)

      -- the invariant after a call
      entered_keeps :
          e ∈ records_of m.tables → 0 < sp a file → (pushes a ≡ true → clear top m.frames ≡ true) →
          length m.frames < max_frames → Chain m.tables false (caller_interrupted new) new.kept m.frames → Inv (entered m e ret)
      unfolding entered new_frame
      entered_keeps is_record above free few chain =
          let next = calling_good m.tables.arch file good ret small in
          record {
            known = i.known;
            accepted =
                by_test (λ (s : Region). opens (lending m.tables s) ≡ true) (pushes a) _ m.stack
                (λ p. written-lent m.stack top _ (within p) m.tables i.accepted) (λ p. i.accepted);
            bytes = i.bytes;
            wide = next.wide;
            values = next.below;
            few = omega arith;
            live = (
              new_live,
              by_test (λ (s : Region). AllLive a s m.frames) (pushes a) (written m.stack top ret) m.stack
                  (λ p. written-live m.stack top ret (within p) a m.frames (free p) i.live) (λ p. i.live),
            );
            inner = (new_kept is_record above, (calling-sp m.tables.arch file good ret, chain));
          }

-- an allowed call
call-allowed :
    (m : Machine) (e : Entry) (ret : ℕ) → e ∈ records_of m.tables → Inv m → call_allowed m e ret ≡ true →
    Inv (entered m e ret)
unfolding call_allowed new_frame
call-allowed m e ret is_record i g =
    let a : Arch = arch_of m in
    let top : ℕ = address (sp a m.registers) 1 in
    let opened : Open = new_frame a m.registers e ret in
    let caller : List Bool = caller_described m.tables m.frames opened ret ∷ ltb (length m.frames) max_frames ∷ [] in
    let room : List Bool = (not (pushes a) || inside m.stack top) ∷ (not (pushes a) || clear top m.frames) ∷ [] in
    let rest : List Bool = ltb 0 (sp a m.registers) ∷ room ++ (ltb ret (2 ^ a.address_bits) ∷ caller) in
    let (back, (above, (within, (free, (fits, (out, (few, _))))))) = each (returns m.frames opened ret) rest g in
    let below = ltb-true ret (2 ^ a.address_bits) fits in
    let is : pc opened.kept ≡ ret = kept-pc m.tables.arch m.registers (good m e ret i) ret (small m e ret i below) in
    entered_keeps m e ret i below (asked (pushes a) (inside m.stack top) within) is_record
    (ltb-true 0 (sp a m.registers) above) (asked (pushes a) (clear top m.frames) free)
    (ltb-true (length m.frames) max_frames few) (callers m.tables m.registers opened ret is m.frames back out i.inner)

-- a call of a record of the section keeps the invariant
pub call_keeps :
    (m : Machine) (ret : ℕ) (o : Option Entry) →
    ((e : Entry) → o ≡ Some e → e ∈ records_of m.tables) → Inv m → Inv (call m ret o)
call_keeps m ret None named i = i
call_keeps m ret (Some e) named i = if_allowed m (entered m e ret) (call_allowed m e ret) i (call-allowed m e ret (named e refl) i)
