-- Sweep calls of which some are not regular: these are refused, each with another number, and change no answer.
use Rattle.std.specs.Prelude.{false, List, [], ◌∷◌, ◌≡◌, ℕ, set}
use Rattle.failure.specs.Outcome.{Outcome, Refused, Answer}
use Rattle.arch.specs.Arch.{Arch}
use Rattle.model.specs.declared.Unwinding.{Unwinding}
use Rattle.model.specs.FrameStep.{section_of}
use Rattle.model.specs.Unwinding.{frame_of, choosing}
use Rattle.model.specs.Machine.{Machine, arch_of}
use Rattle.model.specs.Expected.{LandingPad, Compared}
use Rattle.model.specs.Demand.{ResumeCall, answer_of, call_of, Regular, current, IsRefused, Admissible}
use Rattle.model.specs.Call.{nth, compared_as}
use Rattle.runs.specs.Scenario.{Scenario, reached, handed_back}

-- a call in a list: the regular one, or one that is made of it
pub data Asked : Type 0 where
  regular : Asked
  made : (ResumeCall → ResumeCall) → Asked

-- the call
abbrev pub call_asked : Machine → Unwinding → Asked → ResumeCall
call_asked m u regular = call_of m u
call_asked m u (made f) = f (call_of m u)

-- the calls of a list
abbrev pub calls_asked : Machine → Unwinding → List Asked → List ResumeCall
calls_asked m u [] = []
calls_asked m u (a ∷ rest) = call_asked m u a ∷ calls_asked m (current u (call_asked m u a)) rest

-- what each call comes to, as it is compared
abbrev pub outcomes_of : Arch → List ResumeCall → List (Outcome Compared)
outcomes_of a [] = []
outcomes_of a (c ∷ cs) = compared_as a (answer_of c) ∷ outcomes_of a cs

-- an outcome is a refusal
abbrev pub IsRefusal : Outcome Compared → Type 0
IsRefusal (Refused n) = IsRefused (Refused n)
IsRefusal (Answer x) = ⊥

-- those that are made are refused
abbrev pub MadeRefused : List Asked → List (Outcome Compared) → Type 0
MadeRefused [] os = Unit
MadeRefused (a ∷ rest) [] = ⊥
MadeRefused (regular ∷ rest) (o ∷ os) = MadeRefused rest os
MadeRefused (made f ∷ rest) (o ∷ os) = IsRefusal o × MadeRefused rest os

-- a scenario holds with such calls: demand 3 speaks of them, and this is what they come to
pub record HoldsAmong (s : Scenario) (asked : List Asked) (outcomes : List (Outcome Compared)) : Type 0 where
  pub admissible : (exception : ℕ) →
      Admissible (Regular (reached s)) (handed_back s exception) (calls_asked (reached s) (handed_back s exception) asked)
  pub gives : (exception : ℕ) →
      outcomes_of (arch_of (reached s)) (calls_asked (reached s) (handed_back s exception) asked) ≡ outcomes

-- of architecture 3: 28
abbrev pub of_arch3 : Asked
of_arch3 = made (λ c. record { arch = 3; lent = c.lent; unwinding = c.unwinding })

-- over an empty stack: 27
abbrev pub over_none : Asked
over_none =
    made
    (λ c.
    record {
      arch = c.arch;
      lent = record { regions = section_of c.lent.regions ∷ record { base = 1; bytes = [] } ∷ [] };
      unwinding = c.unwinding;
    })

-- with another unwinding
abbrev pub unwinding_by : (Unwinding → Unwinding) → Asked
unwinding_by f = made (λ c. record { arch = c.arch; lent = c.lent; unwinding = f c.unwinding })

-- the frame that comes next is the chosen one, with sp 0: 22
abbrev pub next_chosen : Asked
next_chosen = unwinding_by (λ u. choosing (frame_of u) u.exception u.number 0)

-- 1,024 frames are given: 29
abbrev pub frame1024 : Asked
frame1024 =
    unwinding_by
    (λ u.
    choosing (record { number = 1024; interrupted = false; file = u.regs.r }) u.exception 1024 0)

-- frame 1 comes next, with some column set to a number: where that is sp, above the frame's CFA, 20; where it is fp, no multiple of 8, 23
abbrev pub in_frame1 : ℕ → ℕ → ℕ → Asked
in_frame1 pc column value =
    unwinding_by
    (λ u.
    choosing (record { number = 1; interrupted = false; file = set (set u.regs.r 40 pc) column value }) u.exception
    u.chosen_number u.chosen_sp)

-- such calls before, between and after regular ones; sp and fp stand in these columns
abbrev pub asked : ℕ → ℕ → List Asked
asked sp fp =
    of_arch3 ∷ over_none ∷ next_chosen ∷ frame1024 ∷ in_frame1 0x4060 sp 0x9000 ∷ in_frame1 0x4060 fp 4 ∷
    regular ∷ next_chosen ∷ regular ∷ over_none ∷ regular ∷ regular ∷ regular ∷ of_arch3 ∷ regular ∷ []

-- what they come to, with these landings
abbrev pub outcomes : List LandingPad → List (Outcome Compared)
outcomes ls =
    Refused 28 ∷ Refused 27 ∷ Refused 22 ∷ Refused 29 ∷ Refused 20 ∷ Refused 23 ∷
    Answer (nth 0 ls) ∷ Refused 22 ∷ Answer (nth 1 ls) ∷ Refused 27 ∷ Answer (nth 2 ls) ∷ Answer (nth 3 ls) ∷ Answer (nth 4 ls) ∷
    Refused 28 ∷ Answer (nth 5 ls) ∷ []
