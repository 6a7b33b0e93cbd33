-- Demand 3 over a live stack: landing pads run between the sweep calls and write to the stack, and each call is lent the stack as it is
-- by then.
use Rattle.std.specs.Prelude.{true, ◌≡◌, ℕ, ◌≤◌}
use Rattle.std.proofs.Math.Option.{some}
use Rattle.std.proofs.Math.ListN.{get_elem?}
use Rattle.mem.specs.Memory.{Region}
use Rattle.mem.specs.Opening.{opens}
use Rattle.model.specs.declared.Unwinding.{Unwinding}
use Rattle.model.specs.Machine.{Open, Machine, lent_by}
use Rattle.model.specs.OtherStack.{SameSlots, with_stack}
use Rattle.model.specs.Demand.{ResumeCall, call_of, Demand3For}

-- the live slots of the open frames that an unwinding has yet to pass, from its own number up to the chosen one, are the same in
-- another stack
abbrev pub SameAhead : Machine → Unwinding → Region → Type 0
SameAhead m u other =
    (k : ℕ) (f : Open) → u.number ≤ k → k ≤ u.chosen_number → get_elem? m.frames k ≡ some f → SameSlots m.stack other f

-- a usable call: the throw's architecture and section, the current unwinding, and any stack that opens beside that section; where a
-- frame was chosen, the live slots ahead are as they were at the throw
pub record Usable (m : Machine) (u : Unwinding) (c : ResumeCall) : Type 0 where
  pub stack : Region
  pub is : c ≡ call_of (with_stack m stack) u
  pub accepted : opens (lent_by (with_stack m stack)) ≡ true
  pub same : u.chosen ≡ true → SameAhead m u stack

-- demand 3 over a live stack: for usable calls
abbrev pub Demand3Live : Type 0
Demand3Live = Demand3For Usable
