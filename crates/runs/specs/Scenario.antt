-- Closed runs of the call machine: what a scenario is, and when it holds.
use Rattle.std.specs.Prelude.{Bool, true, false, not, ◌&&◌, List, [], ◌∷◌, ◌≡◌, ℕ, zero, suc, ◌+◌, length}
use Rattle.std.specs.Prelude.{Option, None, Some}
use Rattle.failure.specs.Outcome.{Refused, Answer}
use Rattle.failure.specs.Failure.{BadOpening}
use Rattle.mem.specs.Opening.{opens}
use Rattle.lookup.specs.Tables.{Entry, named}
use Rattle.model.specs.declared.Unwinding.{Unwinding}
use Rattle.model.specs.Search.{Searched}
use Rattle.model.specs.Machine.{Open, Machine, Fresh, arch_of, records_of, lent_by}
use Rattle.model.specs.Event.{Event, Call, Spill, Change, Reload, Move, Write, step, steps}
use Rattle.model.specs.Event.{call_allowed, spill_allowed, change_allowed, reload_allowed, move_allowed, write_allowed}
use Rattle.model.specs.Throw.{Throw, throw_allowed}
use Rattle.model.specs.Sound.{Sound}
use Rattle.model.specs.Expected.{LandingPad, Compared, outcome, due, first_of}
use Rattle.model.specs.Demand.{ResumeCall, answer_of, call_of, Regular, current, Admissible, answers, raised_by, unwinding_of}

-- there is such a record, and it passes
abbrev pub allowed_with : (Entry → Bool) → Option Entry → Bool
allowed_with p None = false
allowed_with p (Some e) = p e

-- there is an innermost frame, and it passes
abbrev pub innermost : (Open → Bool) → List Open → Bool
innermost p [] = false
innermost p (f ∷ fs) = p f

-- an event is within the rules
abbrev pub within : Machine → Event → Bool
within m (Call chunk index ret) = allowed_with (λ e. call_allowed m e ret) (named chunk index (records_of m.tables))
within m (Spill reg slot) = innermost (λ f. spill_allowed m f reg slot) m.frames
within m (Change reg v) = innermost (λ f. change_allowed m f reg v) m.frames
within m (Reload reg) = innermost (λ f. reload_allowed f reg) m.frames
within m (Move to) = innermost (λ f. move_allowed f to) m.frames
within m (Write x v) = write_allowed m x v

-- an event with a label: one within the rules, or one against them
pub data Labelled : Type 0 where
  does against : Event → Labelled

-- all events
abbrev pub events : List Labelled → List Event
events [] = []
events (does e ∷ ts) = e ∷ events ts
events (against e ∷ ts) = e ∷ events ts

-- those within the rules
abbrev pub allowed_only : List Labelled → List Event
allowed_only [] = []
allowed_only (does e ∷ ts) = e ∷ allowed_only ts
allowed_only (against e ∷ ts) = allowed_only ts

-- each event is as its label says
abbrev pub labels_right : Machine → List Labelled → Bool
labels_right m [] = true
labels_right m (does e ∷ ts) = within m e && labels_right (step m e) ts
labels_right m (against e ∷ ts) = not (within m e) && labels_right m ts

-- a scenario: a machine, the events from there on, a throw or interrupt, its answer, and the landings after it
pub record Scenario : Type 0 where
  pub machine : Machine
  pub labelled : List Labelled
  pub throw : Throw
  pub answer : Searched
  pub landings : List LandingPad

-- the throw at a pc
abbrev pub throw_at : ℕ → Throw
throw_at pc = record { pc = pc; interrupted = false }

-- the interrupt at a pc
abbrev pub interrupt_at : ℕ → Throw
interrupt_at pc = record { pc = pc; interrupted = true }

-- a landing by its frame's number, sp, pc and preserved registers
abbrev pub landing : ℕ → ℕ → ℕ → List ℕ → LandingPad
landing number sp pc preserved = record { number = number; sp = sp; pc = pc; preserved = preserved }

-- the machine that the throw finds
abbrev pub reached : Scenario → Machine
reached s = steps s.machine (events s.labelled)

-- n regular sweep calls, each with the unwinding that the one before it returned
abbrev pub regulars : ℕ → Machine → Unwinding → List ResumeCall
regulars zero m u = []
regulars (suc n) m u = call_of m u ∷ regulars n m (current u (call_of m u))

-- the unwinding that a scenario's throw hands back, for an exception
abbrev pub handed_back : Scenario → ℕ → Unwinding
handed_back s exception = unwinding_of (reached s) s.throw exception

-- what so many of them give after a scenario, for an exception
abbrev pub answers_after : Scenario → ℕ → ℕ → List Compared
answers_after s exception n = answers (arch_of s.machine) (regulars n (reached s) (handed_back s exception))

-- a call that is not regular: of architecture 3
abbrev pub irregular : Machine → Unwinding → ResumeCall
irregular m u = record { arch = 3; lent = lent_by m; unwinding = u }

-- n regular sweep calls, with an irregular one before each and after the last
abbrev pub mixed : ℕ → Machine → Unwinding → List ResumeCall
mixed zero m u = irregular m u ∷ []
mixed (suc n) m u = irregular m u ∷ call_of m u ∷ mixed n m (current u (call_of m u))

-- what they give after a scenario, for an exception
abbrev pub mixed_after : Scenario → ℕ → ℕ → List Compared
mixed_after s exception n = answers (arch_of s.machine) (mixed n (reached s) (handed_back s exception))

-- as many calls as there are landings, and two more
abbrev pub calls_for : Scenario → ℕ
calls_for s = length s.landings + 2

-- a scenario holds
pub record Holds (s : Scenario) : Type 0 where
  -- it meets the hypotheses of demand 3
  pub fresh : Fresh s.machine
  pub allowed : throw_allowed (reached s) s.throw ≡ true
  pub sound : Sound (reached s) s.throw
  -- what the machine lends at the throw is accepted, as at the start
  pub accepted : opens (lent_by (reached s)) ≡ true
  -- its answer and its landings are the due ones
  pub answered : outcome (reached s) s.throw ≡ s.answer
  pub lands : due (reached s) s.throw ≡ s.landings
  -- and `raise` and `resume` give them
  pub raises : raised_by (reached s) s.throw ≡ Answer s.answer
  pub cleans : (exception : ℕ) → answers_after s exception (calls_for s) ≡ first_of (calls_for s) s.landings
  -- irregular calls among them are refused with 28, make a list that demand 3 speaks of, and change no answer
  pub refuses : (u : Unwinding) → answer_of (irregular (reached s) u) ≡ Refused BadOpening
  pub admissible : (exception : ℕ) →
      Admissible (Regular (reached s)) (handed_back s exception) (mixed (calls_for s) (reached s) (handed_back s exception))
  pub cleans_mixed : (exception : ℕ) → mixed_after s exception (calls_for s) ≡ first_of (calls_for s) s.landings
