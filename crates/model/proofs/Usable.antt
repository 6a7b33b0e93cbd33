-- Which sweep calls are usable: regular ones, and every call over a stack of the same place in which the live slots of the frames not
-- yet passed are as they were. Assumes nothing.
use mathlib.Core.Bool.{true, false}
use mathlib.Core.List.{List, []}
use mathlib.Core.Logic.{◌⊎◌, inl, inr}
use mathlib.Core.Path.{◌≡◌, refl, sym, ◌∙◌, ap, subst}
use Prim.Native.Nat.{ℕ, ◌<◌}
use native.Mathlib.Omega.{arith}
use lib.ListN.{length, drop}
use Rattle.mem.specs.Memory.{Region, size}
use Rattle.mem.specs.Opening.{opens}
use Rattle.mem.proofs.Place.{holds_range}
use Rattle.model.specs.declared.Unwinding.{Unwinding}
use Rattle.model.specs.Machine.{Machine, inside, lent_by, arch_of}
use Rattle.model.specs.OtherStack.{SameLive, with_stack}
use Rattle.model.specs.Demand.{ResumeCall, call_of, Regular}
use Rattle.model.specs.LiveStack.{Usable}
use Rattle.model.proofs.Chain.{Inv}
use Rattle.model.proofs.Slots.{placed-lent}
use Rattle.model.proofs.Live.{live_in, from-number}

-- each live slot is the same in the machine's own stack
pub own_live : (m : Machine) → Inv m → SameLive m.stack m.stack m.frames
own_live m i f j p k = record { within = (live_in (arch_of m) m.stack m.frames i.live f j p k).within; same = refl }

-- an empty stack has no slot
no_slot : (r : Region) (x : ℕ) → r.bytes ≡ [] → inside r x ≡ true → ⊥
unfolding inside
no_slot r x empty within =
    let (low, high) = holds_range r.base (size r) x 8 within in
    let none : size r ≡ 0 = ap length empty in
    omega arith

-- the same bytes at the same base
same-region : (r s : Region) → r.base ≡ s.base → r.bytes ≡ s.bytes → r ≡ s
same-region r s base bytes =
    ap (λ (x : ℕ). record { base = x; bytes = r.bytes }) base ∙ ap (λ (xs : List ℕ). record { base = s.base; bytes = xs }) bytes

-- each live slot is the same in a stack that lends what the machine's does
lent-live : (m : Machine) → Inv m → (other : Region) → other.bytes ≡ m.stack.bytes →
    (other.bytes ≡ []) ⊎ (other.base ≡ m.stack.base) → SameLive m.stack other m.frames
lent-live m i other bytes (inl empty) = λ f j p k. absurd (no_slot m.stack _ (sym bytes ∙ empty) (own_live m i f j p k).within)
lent-live m i other bytes (inr base) =
    subst (λ (r : Region). SameLive m.stack r m.frames) (sym (same-region other m.stack base bytes)) (own_live m i)

-- a regular call is usable
pub regular-usable : (m : Machine) → Inv m → (u : Unwinding) (c : ResumeCall) → Regular m u c → Usable m u c
regular-usable m i u c g =
    record {
      stack = g.stack;
      is = g.is;
      accepted = g.accepted;
      same = λ e k f least most at. lent-live m i g.stack g.bytes g.base f (from-number 0 m.frames k f (omega arith) at);
    }

-- a call that is lent what the machine lends is regular
pub own_regular : (m : Machine) → opens (lent_by m) ≡ true → (u : Unwinding) → Regular m u (call_of m u)
own_regular m accepted u = record { stack = m.stack; is = refl; accepted = accepted; bytes = refl; base = inr refl }

-- where no slot is asked for, any stack that opens will do: nothing is chosen, or the chosen frame has landed
module _ (m : Machine) (u : Unwinding) (other : Region) (accepted : opens (lent_by (with_stack m other)) ≡ true) where
  pub unchosen-usable : u.chosen ≡ false → Usable m u (call_of (with_stack m other) u)
  unchosen-usable e =
      record {
        stack = other;
        is = refl;
        accepted = accepted;
        same = λ c. let z : ◌≡◌ {A = ℕ} 0 1 = cc in absurd (omega arith);
      }

  pub finished-usable : u.chosen_number < u.number → Usable m u (call_of (with_stack m other) u)
  finished-usable past =
      record { stack = other; is = refl; accepted = accepted; same = λ e k f least most at. absurd (omega arith) }

-- a call is usable over a stack that opens, in which the live slots of the frames not yet passed are the same
pub same-usable :
    (m : Machine) (u : Unwinding) (other : Region) → opens (lent_by (with_stack m other)) ≡ true →
    SameLive m.stack other (drop u.number m.frames) → Usable m u (call_of (with_stack m other) u)
same-usable m u other accepted same =
    record {
      stack = other;
      is = refl;
      accepted = accepted;
      same = λ e k f least most at. same f (from-number u.number m.frames k f (omega arith) at);
    }

-- so over one of the same base and length
pub placed-usable :
    (m : Machine) → Inv m → (u : Unwinding) (other : Region) → other.base ≡ m.stack.base → size other ≡ size m.stack →
    SameLive m.stack other (drop u.number m.frames) → Usable m u (call_of (with_stack m other) u)
placed-usable m i u other base long same = same-usable m u other (placed-lent m.tables m.stack other base long i.accepted) same
