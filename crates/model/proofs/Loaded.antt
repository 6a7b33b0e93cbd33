-- A live slot read in what the machine lends: the unwinder loads the kept value. Assumes nothing.
use mathlib.Core.Path.{◌≡◌, ◌∙◌, ap}
use mathlib.Core.Bool.{true}
use mathlib.Core.List.{◌∷◌}
use Prim.Native.Nat.{ℕ, ◌+◌, ◌-◌, ◌*◌, ◌^◌, ◌%◌, ◌≤◌, ◌<◌}
use native.Mathlib.Nat.{add-mod_right, mod-eq_of_lt}
use native.Mathlib.Omega.{arith}
use lib.Dec.{lit<}
use Rattle.failure.specs.Outcome.{Answer}
use Rattle.mem.specs.Memory.{Region, Memory, size}
use Rattle.mem.specs.Opening.{apart, apart_from, opens}
use Rattle.mem.specs.Place.{bytes_at}
use Rattle.mem.specs.Word.{load}
use Rattle.mem.specs.Wrapping.{difference}
use Rattle.mem.proofs.Tests.{both}
use Rattle.mem.proofs.Accepted.{bounded_range, not_both, accepted_parts}
use Rattle.mem.proofs.Place.{holds_range}
use Rattle.arch.specs.Arch.{Arch}
use Rattle.lookup.specs.Field.{word}
use Rattle.frame.specs.Layout.{Pair}
use Rattle.frame.specs.Apply.{load_slot}
use Rattle.model.specs.Machine.{Open, value, address, inside}
use Rattle.model.proofs.Chain.{Slot}

-- an accepted opening: the stack's base is above 0, and the two share no address
pub record Accepted (section stack : Region) : Type 0 where
  pub above : 1 ≤ stack.base
  pub away : apart section.base (size section) stack.base (size stack) ≡ true

pub accepts : (section stack : Region) (more : Memory) → opens (record { regions = section ∷ stack ∷ more }) ≡ true →
    Accepted section stack
unfolding opens
accepts section stack more e =
    let (_, away, rest) = accepted_parts section (stack ∷ more) e in
    let (bounds, _, _) = accepted_parts stack more rest in
    record { above = (bounded_range stack.base (size stack) bounds).0; away = (both _ (apart_from section more) away).0 }

-- below 2^64 a difference that does not wrap is one
pub difference-is : (x y : ℕ) → y ≤ x → x < 2 ^ 64 → difference x y ≡ x - y
difference-is x y l h =
    let whole : x + (2 ^ 64 - y) ≡ x - y + 2 ^ 64 = omega arith in
    ap (λ (n : ℕ). n % 2 ^ 64) whole ∙ add-mod_right (x - y) (2 ^ 64) ∙ mod-eq_of_lt (omega arith)

-- 8 bytes that lie in the stack are loaded from it
pub load-stack :
    (section stack : Region) (more : Memory) (x : ℕ) → Accepted section stack → inside stack x ≡ true →
    load (section ∷ stack ∷ more) 8 x ≡ Answer (word stack.bytes (x - stack.base) 8)
unfolding load bytes_at inside word
load-stack section stack more x g h =
    rw (not_both section.base (size section) stack.base (size stack) x 8 g.away h x 8 (omega arith) (omega arith) (lit< tt), h)

-- a live slot holds the kept value
pub slot-loaded :
    (a : Arch) (section stack : Region) (more : Memory) (f : Open) (p : Pair) → Slot a stack f p →
    opens (record { regions = section ∷ stack ∷ more }) ≡ true → f.cfa < 2 ^ 64 →
    load_slot (section ∷ stack ∷ more) f.cfa p.slot ≡ Answer (value a f.kept p.reg)
unfolding load_slot inside
slot-loaded a section stack more f p s e h =
    let g = accepts section stack more e in
    let there = holds_range stack.base (size stack) (address f.cfa p.slot) 8 s.within in
    let same = difference-is f.cfa (8 * p.slot) (omega (arith, g.above, there.0)) h in
    ap (load (section ∷ stack ∷ more) 8) same ∙
    load-stack section stack more (address f.cfa p.slot) g s.within ∙
    ap Answer s.holding
