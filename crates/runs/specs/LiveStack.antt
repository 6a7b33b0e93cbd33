-- Closed runs over a live stack: each sweep call is lent another stack, or the host's own with stores between the calls.
use Rattle.std.specs.Prelude.{Bool, true, ◌&&◌, List, [], ◌∷◌, map, ◌≡◌, ℕ, ◌-◌, eqb, length, take, drop, replicate}
use Rattle.failure.specs.Outcome.{Answer}
use Rattle.mem.specs.Memory.{Region, Lent}
use Rattle.lookup.specs.Field.{word}
use Rattle.frame.specs.Layout.{Pair}
use Rattle.model.specs.declared.Unwinding.{Unwinding}
use Rattle.model.specs.Search.{told, told_by}
use Rattle.model.specs.Unwinding.{raise}
use Rattle.model.specs.Machine.{Open, Machine, arch_of, lent_by, address, inside, Store, stored}
use Rattle.model.specs.Expected.{first_of}
use Rattle.model.specs.OtherStack.{with_stack}
use Rattle.model.specs.Demand.{ResumeCall, call_of, current, Each, answers}
use Rattle.model.specs.LiveStack.{Usable}
use Rattle.model.specs.Between.{SparedBetween, calls_between}
use Rattle.model.specs.Call.{AfterThrow}
use Rattle.runs.specs.Scenario.{Scenario, reached, handed_back}

-- a stack, made of the throw's
abbrev pub Made : Type 0
Made = Region → Region

-- every byte below an address overwritten
abbrev pub overwritten : ℕ → Made
overwritten x r = stored r (record { address = r.base; bytes = replicate (x - r.base) 0xee })

-- only the bytes from an address up to another
abbrev pub cut : ℕ → ℕ → Made
cut x y r = record { base = x; bytes = take (y - x) (drop (x - r.base) r.bytes) }

-- a sweep call over such a stack
abbrev pub call_over : Machine → Unwinding → Made → ResumeCall
call_over m u f = call_of (with_stack m (f m.stack)) u

-- sweep calls over such stacks, each with the unwinding that the one before it returned
abbrev pub calls_over : Machine → Unwinding → List Made → List ResumeCall
calls_over m u [] = []
calls_over m u (f ∷ fs) = call_over m u f ∷ calls_over m (current u (call_over m u f)) fs

-- the slots of these pairs below a CFA are the same in another stack
abbrev pub same_slots : Region → Region → ℕ → List Pair → Bool
same_slots stack other cfa [] = true
same_slots stack other cfa (p ∷ ps) =
    inside other (address cfa p.slot)
    && eqb (word other.bytes (address cfa p.slot - other.base) 8) (word stack.bytes (address cfa p.slot - stack.base) 8)
    && same_slots stack other cfa ps

-- of each frame, the innermost first: its live slots are the same in another stack
abbrev pub same_in : Region → Region → List Open → List Bool
same_in stack other [] = []
same_in stack other (f ∷ fs) = same_slots stack other f.cfa f.spilled ∷ same_in stack other fs

-- in each of these stacks: of each frame, its live slots are as at the throw
abbrev pub same_at : Machine → List Made → List (List Bool)
same_at m fs = map (λ (f : Made). same_in m.stack (f m.stack) m.frames) fs

-- a scenario holds over such stacks
pub record HoldsOver (s : Scenario) (stacks : List Made) (same : List (List Bool)) : Type 0 where
  -- what each call finds
  pub finds : same_at (reached s) stacks ≡ same
  -- each call is usable
  pub usable : (exception : ℕ) →
      Each (Usable (reached s)) (handed_back s exception) (calls_over (reached s) (handed_back s exception) stacks)
  -- and they give the landings
  pub cleans : (exception : ℕ) →
      answers (arch_of (reached s)) (calls_over (reached s) (handed_back s exception) stacks) ≡ first_of (length stacks) s.landings

-- what the calls are lent
abbrev pub lent_in : List ResumeCall → List Lent
lent_in cs = map (λ (c : ResumeCall). c.lent) cs

-- what calls over these stacks are lent
abbrev pub lent_over : Machine → List Made → List Lent
lent_over m fs = map (λ (f : Made). lent_by (with_stack m (f m.stack))) fs

-- a scenario holds with stores between the calls
pub record HoldsBetween (s : Scenario) (wss : List (List Store)) (stacks : List Made) : Type 0 where
  -- the stores spare the live slots of the frames not yet passed
  pub spare : (exception : ℕ) → SparedBetween (reached s) (handed_back s exception) (reached s).stack wss
  -- the calls are lent the stack with all stores up to then
  pub lends : (exception : ℕ) →
      lent_in (calls_between (reached s) (handed_back s exception) (reached s).stack wss) ≡ lent_over (reached s) stacks
  -- and give the landings
  pub cleans : (exception : ℕ) →
      answers (arch_of (reached s)) (calls_between (reached s) (handed_back s exception) (reached s).stack wss)
      ≡ first_of (length wss) s.landings

-- a scenario's throw is answered over another stack that has the live slots
abbrev pub ThrowsOver : Scenario → Made → Type 0
ThrowsOver s f =
    told_by
    (raise (lent_by (with_stack (reached s) (f (reached s).stack))) (reached s).tables.arch (reached s).registers s.throw.pc
    s.throw.interrupted)
    ≡ Answer (told s.answer)

-- the second sweep call, over these two stacks and after a refused call, is one that the contract of `resume` speaks of
abbrev pub SpokenOf : Scenario → Made → Made → Type 0
SpokenOf s f g =
    (exception : ℕ) →
    AfterThrow (call_over (reached s) (current (handed_back s exception) (call_over (reached s) (handed_back s exception) f)) g)
