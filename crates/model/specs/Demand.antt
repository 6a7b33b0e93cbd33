-- Demand 3: every landing, and no other.
use Rattle.std.specs.Prelude.{true, List, [], ◌∷◌, map, ◌⊎◌, ◌≡◌, ℕ, length}
use Rattle.failure.specs.Outcome.{Outcome, Refused, Answer}
use Rattle.mem.specs.Memory.{Region, Lent}
use Rattle.mem.specs.Opening.{opens}
use Rattle.arch.specs.Arch.{Arch}
use Rattle.arch.specs.File.{sp, pc}
use Rattle.model.specs.declared.Unwinding.{Unwinding}
use Rattle.model.specs.Cleanup as Cleanup
use Rattle.model.specs.Cleanup.{Cleaned, reason_of}
use Rattle.model.specs.Search.{Searched}
use Rattle.model.specs.Unwinding.{raise, raised, resume, resumed}
use Rattle.model.specs.Machine.{Machine, Fresh, arch_of, lent_by, value}
use Rattle.model.specs.Event.{Event, steps}
use Rattle.model.specs.Throw.{Throw, throw_allowed}
use Rattle.model.specs.Sound.{Sound}
use Rattle.model.specs.Expected.{Compared, Installed, Fatal, Finished, outcome, due, first_of}
use Rattle.model.specs.Exactly.{Exactly}
use Rattle.model.specs.OtherStack.{with_stack}

-- a sweep call: any architecture, anything lent, any unwinding
pub record ResumeCall : Type 0 where
  pub arch : ℕ
  pub lent : Lent
  pub unwinding : Unwinding

-- what a sweep call comes to
unfoldable pub answer_of : ResumeCall → Outcome Cleaned
answer_of c = resume c.lent c.arch c.unwinding

-- the call that gets a machine's architecture and all that it lends, and an unwinding
abbrev pub call_of : Machine → Unwinding → ResumeCall
call_of m u = record { arch = m.tables.arch; lent = lent_by m; unwinding = u }

-- a regular call: the throw's architecture and section, the current unwinding, and a stack that opens beside that section and lends what
-- the throw's did, the same bytes at the same addresses; an empty one lends none, wherever it begins
pub record Regular (m : Machine) (u : Unwinding) (c : ResumeCall) : Type 0 where
  pub stack : Region
  pub is : c ≡ call_of (with_stack m stack) u
  pub accepted : opens (lent_by (with_stack m stack)) ≡ true
  pub bytes : stack.bytes ≡ m.stack.bytes
  pub base : (stack.bytes ≡ []) ⊎ (stack.base ≡ m.stack.base)

-- the current unwinding after a call that was given v and came to that: what it returned, unless it was refused
abbrev pub current_by : Unwinding → Unwinding → Outcome Cleaned → Unwinding
current_by u v (Refused n) = u
current_by u v (Answer x) = resumed v (Answer x)

-- the same of a sweep call
unfoldable pub current : Unwinding → ResumeCall → Unwinding
current u c = current_by u c.unwinding (answer_of c)

-- a call is refused
abbrev pub IsRefused : Outcome Cleaned → Type 0
IsRefused (Refused n) = Unit
IsRefused (Answer x) = ⊥

-- a kind of calls, by the current unwinding
abbrev pub Kind : Type 1
Kind = Unwinding → ResumeCall → Type 0

-- every call of the list that is not of a kind is refused
abbrev pub Admissible : Kind → Unwinding → List ResumeCall → Type 0
Admissible Of u [] = Unit
Admissible Of u (c ∷ cs) = (Of u c ⊎ IsRefused (answer_of c)) × Admissible Of (current u c) cs

-- every call of the list is of a kind
abbrev pub Each : Kind → Unwinding → List ResumeCall → Type 0
Each Of u [] = Unit
Each Of u (c ∷ cs) = Of u c × Each Of (current u c) cs

-- no call of the list that is of a kind is refused
abbrev pub Served : Kind → Unwinding → List ResumeCall → Type 0
Served Of u [] = Unit
Served Of u (c ∷ cs) = (Of u c → IsRefused (answer_of c) → ⊥) × Served Of (current u c) cs

-- an answer as it is compared, by document 01's number: of a landing the frame number, sp, pc and preserved registers
abbrev pub compared : Arch → Cleaned → Compared
compared a (Cleanup.Install number file next) =
    Installed (reason_of (Cleanup.Install number file next))
    (record { number = number; sp = sp a file; pc = pc file; preserved = map (value a file) a.preserved })
compared a Cleanup.Fatal = Fatal (reason_of Cleanup.Fatal)
compared a Cleanup.Finished = Finished

-- one call's answer before the rest, unless it is refused
abbrev pub unless_refused : Arch → Outcome Cleaned → List Compared → List Compared
unless_refused a (Refused n) rest = rest
unless_refused a (Answer x) rest = compared a x ∷ rest

-- the answers of the calls that are not refused, in order
abbrev pub answers : Arch → List ResumeCall → List Compared
answers a [] = []
answers a (c ∷ cs) = unless_refused a (answer_of c) (answers a cs)

-- the throw call gets the machine's architecture, section, registers and stack, the event's pc, and whether it is an Interrupt
unfoldable pub raised_by : Machine → Throw → Outcome Searched
raised_by m t = raise (lent_by m) m.tables.arch m.registers t.pc t.interrupted

-- the unwinding that it hands back
unfoldable pub unwinding_of : Machine → Throw → ℕ → Unwinding
unwinding_of m t exception = raised m.registers t.pc t.interrupted exception (raised_by m t)

-- every landing, and no other, after a throw: it answers the first catch's number and sp, or 3, or 5, exactly where these are due; and
-- for every list of sweep calls, each of a kind or refused, none of that kind is refused, and the answers, however many, are the first
-- of: the landings due, in order, then finished again and again
pub record EveryLanding (Of : Kind) (m : Machine) (t : Throw) (exception : ℕ) : Type 0 where
  pub throws : raised_by m t ≡ Answer (outcome m t)
  pub exactly : Exactly m t
  pub lands : (cs : List ResumeCall) → Admissible Of (unwinding_of m t exception) cs →
      Served Of (unwinding_of m t exception) cs
      × (answers (arch_of m) cs ≡ first_of (length (answers (arch_of m) cs)) (due m t))

-- that, after every list of events from a fresh machine, then a throw or interrupt within the rules under a sound section
abbrev pub Demand3For : (Machine → Kind) → Type 0
Demand3For Of =
    (m : Machine) → Fresh m → (es : List Event) (t : Throw) → throw_allowed (steps m es) t ≡ true → Sound (steps m es) t →
    (exception : ℕ) → EveryLanding (Of (steps m es)) (steps m es) t exception

-- demand 3: for regular calls
abbrev pub Demand3 : Type 0
Demand3 = Demand3For Regular
