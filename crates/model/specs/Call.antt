-- Demand 3 call by call, as the functions that run a throw and its sweep calls promise it. The theorem itself, about a list of calls, is
-- `demand3_live`, and `demand3` for regular calls.
use Rattle.std.specs.Prelude.{Bool, true, List, [], ◌∷◌, ◌≡◌, ℕ, zero, suc, length}
use Rattle.failure.specs.Outcome.{Outcome, Refused, Answer}
use Rattle.mem.specs.Memory.{Region, Lent}
use Rattle.mem.specs.Opening.{opens}
use Rattle.arch.specs.Arch.{Arch}
use Rattle.model.specs.declared.Unwinding.{Unwinding}
use Rattle.model.specs.Search.{Coded, told}
use Rattle.model.specs.Cleanup.{Cleaned}
use Rattle.model.specs.Unwinding.{resume, resumed}
use Rattle.model.specs.Machine.{Machine, Fresh, arch_of, lent_by}
use Rattle.model.specs.Event.{Event, steps}
use Rattle.model.specs.Throw.{Throw, throw_allowed}
use Rattle.model.specs.Sound.{Sound}
use Rattle.model.specs.Expected.{LandingPad, Compared, Installed, Finished, outcome, due}
use Rattle.model.specs.OtherStack.{SameLive, with_stack}
use Rattle.model.specs.Demand.{ResumeCall, current, Admissible, compared, answers, unwinding_of}
use Rattle.model.specs.LiveStack.{Usable}

-- the unwinding after n calls that are lent the same, each with what the one before it handed back
abbrev pub after : ℕ → Lent → ℕ → Unwinding → Unwinding
after zero l arch u = u
after (suc n) l arch u = after n l arch (resumed u (resume l arch u))

-- the current unwinding after a list of calls
abbrev pub current_after : Unwinding → List ResumeCall → Unwinding
current_after u [] = u
current_after u (c ∷ cs) = current_after (current u c) cs

-- answer number n, counted from 0: the landings, then finished
abbrev pub nth : ℕ → List LandingPad → Compared
nth n [] = Finished
nth zero (l ∷ ls) = Installed 7 l
nth (suc n) (l ∷ ls) = nth n ls

-- an outcome of a sweep call as it is compared: its answer, or a refusal
abbrev pub compared_as : Arch → Outcome Cleaned → Outcome Compared
compared_as a (Refused n) = Refused n
compared_as a (Answer x) = Answer (compared a x)

-- a throw that demand 3 speaks of: within the rules, under a sound section, after a list of events from a fresh machine
pub record Thrown : Type 0 where
  pub start : Machine
  pub fresh : Fresh start
  pub events : List Event
  pub throw : Throw
  pub allowed : throw_allowed (steps start events) throw ≡ true
  pub sound : Sound (steps start events) throw

-- the machine at that throw
abbrev pub machine_at : Thrown → Machine
machine_at x = steps x.start x.events

-- what a throw call is given is what the machine has at such a throw; but the stack may be any that opens and has the live slots as the
-- machine's has them
pub record AtThrow (l : Lent) (arch : ℕ) (file : List ℕ) (pc : ℕ) (interrupted : Bool) : Type 0 where
  pub thrown : Thrown
  pub stack : Region
  pub is_lent : l ≡ lent_by (with_stack (machine_at thrown) stack)
  pub accepted : opens l ≡ true
  pub same : SameLive (machine_at thrown).stack stack (machine_at thrown).frames
  pub is_arch : arch ≡ (machine_at thrown).tables.arch
  pub is_file : file ≡ (machine_at thrown).registers
  pub is_pc : pc ≡ thrown.throw.pc
  pub is_interrupted : interrupted ≡ thrown.throw.interrupted

-- then the throw answers the machine's outcome, by document 01's number and values
abbrev pub Throws : Lent → ℕ → List ℕ → ℕ → Bool → Outcome Coded → Type 0
Throws l arch file pc interrupted raised =
    (a : AtThrow l arch file pc interrupted) → raised ≡ Answer (told (outcome (machine_at a.thrown) a.thrown.throw))

-- and sweep call number n, after n that are lent the same, gives number n of the landings due, or finished
abbrev pub Sweeps : Lent → ℕ → List ℕ → ℕ → Bool → ℕ → Outcome Cleaned → Type 0
Sweeps l arch file pc interrupted n cleaned =
    (a : AtThrow l arch file pc interrupted) →
    compared_as (arch_of (machine_at a.thrown)) cleaned ≡ Answer (nth n (due (machine_at a.thrown) a.thrown.throw))

-- a sweep call after such a throw and after a list of calls, each usable or refused: it is usable
pub record AfterThrow (c : ResumeCall) : Type 0 where
  pub thrown : Thrown
  pub exception : ℕ
  pub before : List ResumeCall
  pub admissible : Admissible (Usable (machine_at thrown)) (unwinding_of (machine_at thrown) thrown.throw exception) before
  pub usable : Usable (machine_at thrown) (current_after (unwinding_of (machine_at thrown) thrown.throw exception) before) c

-- then it gives the landing due after those that the calls before it gave, or finished
abbrev pub GivesNext : ResumeCall → Outcome Cleaned → Type 0
GivesNext c cleaned =
    (a : AfterThrow c) →
    compared_as (arch_of (machine_at a.thrown)) cleaned
    ≡ Answer (nth (length (answers (arch_of (machine_at a.thrown)) a.before)) (due (machine_at a.thrown) a.thrown.throw))
