-- The part of a closed run that is not mere computing. Assumes nothing.
use Rattle.std.specs.Prelude.{if◌then◌else◌}
use mathlib.Core.Bool.{Bool, true, false, ◌&&◌}
use mathlib.Core.List.{List, [], ◌∷◌}
use mathlib.Core.Logic.{inl, inr}
use mathlib.Core.Path.{◌≡◌, refl, sym, ◌∙◌, ap, subst}
use Prim.Native.Nat.{ℕ, zero, suc, ◌^◌, ◌<◌}
use lib.Dec.{ltb, lit<}
use lib.ListN.{length, get_or}
use borrow.Author.Tests.{ltb-true}
use Rattle.failure.specs.Outcome.{Outcome, Refused, Answer}
use Rattle.failure.specs.Failure.{BadOpening}
use Rattle.mem.specs.Memory.{Memory, Bytes}
use Rattle.mem.specs.Opening.{opens}
use Rattle.mem.proofs.Tests.{both}
use Rattle.arch.specs.Arch.{Arch, numbers, is_known}
use Rattle.arch.specs.File.{columns}
use Rattle.lookup.proofs.Tested.{sound_test, sound_tested}
use Rattle.model.specs.declared.Unwinding.{Unwinding}
use Rattle.model.specs.Search.{Searched}
use Rattle.model.specs.Cleanup.{Cleaned, Finished, clean}
use Rattle.model.specs.Unwinding.{opened, raised, frame_of, choice_of, resume}
use Rattle.model.specs.Machine.{Tables, Machine, Fresh, arch_of, lent_by}
use Rattle.model.specs.Throw.{Throw, throw_allowed, frames_at}
use Rattle.model.specs.Sound.{good_frames, SoundTables}
use Rattle.model.specs.Expected.{LandingPad, Compared, outcome, due, first_of}
use Rattle.model.specs.Demand.{answer_of, call_of, Regular, current_by, current, IsRefused, Admissible, unless_refused, answers, raised_by, unwinding_of}
use Rattle.runs.specs.Scenario.{Scenario, reached, regulars, handed_back, irregular, mixed, answers_after, calls_for, Holds}

-- a call that is lent what the machine lends is regular
pub own_regular : (m : Machine) → opens (lent_by m) ≡ true → (u : Unwinding) → Regular m u (call_of m u)
own_regular m accepted u = record { stack = m.stack; is = refl; accepted = accepted; bytes = refl; base = inr refl }

-- a call of architecture 3 is refused
pub irregular_refused : (m : Machine) (u : Unwinding) → answer_of (irregular m u) ≡ Refused BadOpening
unfolding answer_of resume opened is_known
irregular_refused m u = go (opens (lent_by m))
  where
    rest : Outcome Cleaned
    rest = if u.chosen then clean 3 (lent_by m) u.exception (choice_of u) (frame_of u) else Answer Finished

    go : (b : Bool) → (if b then (if is_known 3 then rest else Refused BadOpening) else Refused BadOpening) ≡ Refused BadOpening
    go true = refl
    go false = refl

-- the current unwinding stays
pub irregular_stays : (m : Machine) (u : Unwinding) → current u (irregular m u) ≡ u
unfolding current
irregular_stays m u = ap (current_by u u) (irregular_refused m u)

-- a list with such calls is one that demand 3 speaks of
pub mixed-admissible : (n : ℕ) (m : Machine) → opens (lent_by m) ≡ true → (u : Unwinding) → Admissible (Regular m) u (mixed n m u)
mixed-admissible zero m accepted u = (inr (subst IsRefused (sym (irregular_refused m u)) tt), tt)
mixed-admissible (suc n) m accepted u = (
  inr (subst IsRefused (sym (irregular_refused m u)) tt),
  subst (λ (v : Unwinding). Admissible (Regular m) v (call_of m u ∷ mixed n m (current u (call_of m u)))) (sym (irregular_stays m u))
      (inl (own_regular m accepted u), mixed-admissible n m accepted (current u (call_of m u))),
)

-- they change no answer
pub mixed-same : (a : Arch) (n : ℕ) (m : Machine) (u : Unwinding) → answers a (mixed n m u) ≡ answers a (regulars n m u)
mixed-same a zero m u = ap (λ (o : Outcome Cleaned). unless_refused a o []) (irregular_refused m u)
mixed-same a (suc n) m u =
    ap (λ (o : Outcome Cleaned). unless_refused a o (answers a (call_of m u ∷ mixed n m (current u (call_of m u)))))
    (irregular_refused m u)
    ∙ ap (unless_refused a (answer_of (call_of m u))) (mixed-same a n m (current u (call_of m u)))

-- every number is below a bound
abbrev pub all_below : ℕ → List ℕ → Bool
all_below bound [] = true
all_below bound (x ∷ xs) = ltb x bound && all_below bound xs

-- then so is each
below_all : (bound : ℕ) → 0 < bound → (xs : List ℕ) → all_below bound xs ≡ true → (k : ℕ) → get_or xs k 0 < bound
below_all bound p [] h k = p
below_all bound p (x ∷ xs) h zero = ltb-true x bound (both (ltb x bound) (all_below bound xs) h).0
below_all bound p (x ∷ xs) h (suc k) = below_all bound p xs (both (ltb x bound) (all_below bound xs) h).1 k

-- all that is lent is bytes
abbrev pub all_bytes : Memory → Bool
all_bytes [] = true
all_bytes (r ∷ m) = all_below 256 r.bytes && all_bytes m

-- by that test
bytes_all : (m : Memory) → all_bytes m ≡ true → Bytes m
bytes_all [] h i k = lit< tt
bytes_all (r ∷ m) h zero k = below_all 256 (lit< tt) r.bytes (both (all_below 256 r.bytes) (all_bytes m) h).0 k
bytes_all (r ∷ m) h (suc i) k = bytes_all m (both (all_below 256 r.bytes) (all_bytes m) h).1 i k

-- a machine that passes these tests is fresh
pub fresh_tested : (m : Machine) → m.frames ≡ [] → length m.registers ≡ columns → all_below (2 ^ 64) m.registers ≡ true →
    opens (lent_by m) ≡ true → all_bytes (lent_by m).regions ≡ true → is_known m.tables.arch ≡ true → Fresh m
fresh_tested m empty wide values accepted bytes known =
    record {
      empty = empty;
      columns = wide;
      values = below_all (2 ^ 64) (lit< tt) m.registers values;
      accepted = accepted;
      bytes = bytes_all (lent_by m).regions bytes;
      known = known;
    }

-- what n regular sweep calls give, each computed once
abbrev pub answers_once : Arch → ℕ → Machine → Unwinding → List Compared
answers_once a zero m u = []
answers_once a (suc n) m u = let o = answer_of (call_of m u) in unless_refused a o (answers_once a n m (current_by u u o))

-- they are their answers
once_answers : (a : Arch) (n : ℕ) (m : Machine) (u : Unwinding) → answers a (regulars n m u) ≡ answers_once a n m u
unfolding current
once_answers a zero m u = refl
once_answers a (suc n) m u = ap (unless_refused a (answer_of (call_of m u))) (once_answers a n m (current u (call_of m u)))

-- all that computing shows of a scenario: of the machine that it reaches and the throw there, if that answers so and n sweep calls follow
pub record Report : Type 0 where
  pub tables : Tables
  pub accepted : Bool
  pub allowed : Bool
  pub frames : Bool
  pub answered : Searched
  pub lands : List LandingPad
  pub raises : Outcome Searched
  pub cleans : List Compared

-- the report of a machine and a throw
abbrev pub report_of : Machine → Throw → Searched → ℕ → ℕ → Report
report_of m t answer n exception =
    record {
      tables = m.tables;
      accepted = opens (lent_by m);
      allowed = throw_allowed m t;
      frames = good_frames m.tables (frames_at m t);
      answered = outcome m t;
      lands = due m t;
      raises = raised_by m t;
      cleans = answers_once (arch_of m) n m (raised m.registers t.pc t.interrupted exception (Answer answer));
    }

-- the report of a scenario
abbrev pub report : Scenario → ℕ → Report
report s exception = let m = reached s in report_of m s.throw s.answer (calls_for s) exception

-- what it should be
abbrev pub expected : Scenario → Report
expected s =
    record {
      tables = s.machine.tables;
      accepted = true;
      allowed = true;
      frames = true;
      answered = s.answer;
      lands = s.landings;
      raises = Answer s.answer;
      cleans = first_of (calls_for s) s.landings;
    }

-- a test for sound tables
abbrev pub tables_tested : Tables → Bool
tables_tested ts = sound_test ts.section.bytes ts.section.base ts.arch

-- a scenario from a fresh machine with sound tables, whose report is as expected, holds
pub holds_reported : (s : Scenario) → Fresh s.machine →
    tables_tested s.machine.tables ≡ true →
    ((exception : ℕ) → report s exception ≡ expected s) → Holds s
unfolding unwinding_of
holds_reported s fresh tables e =
    record {
      fresh = fresh;
      allowed = ap (λ (r : Report). r.allowed) (e 0);
      sound =
          record {
            tables =
                subst SoundTables (sym (ap (λ (r : Report). r.tables) (e 0)))
                (sound_tested s.machine.tables.section.bytes s.machine.tables.section.base s.machine.tables.arch tables);
            frames = ap (λ (r : Report). r.frames) (e 0);
          };
      accepted = ap (λ (r : Report). r.accepted) (e 0);
      answered = ap (λ (r : Report). r.answered) (e 0);
      lands = ap (λ (r : Report). r.lands) (e 0);
      raises = ap (λ (r : Report). r.raises) (e 0);
      cleans = answered;
      refuses = irregular_refused (reached s);
      admissible = λ exception. mixed-admissible (calls_for s) (reached s) (ap (λ (r : Report). r.accepted) (e 0)) (handed_back s exception);
      cleans_mixed = λ exception.
          mixed-same (arch_of s.machine) (calls_for s) (reached s) (handed_back s exception) ∙ answered exception;
    }
  where
    begun : ℕ → Unwinding
    begun exception = raised (reached s).registers s.throw.pc s.throw.interrupted exception (Answer s.answer)

    cleaned : (exception : ℕ) →
        answers (arch_of s.machine) (regulars (calls_for s) (reached s) (begun exception)) ≡ first_of (calls_for s) s.landings
    cleaned exception =
        ap (λ (ts : Tables). answers (numbers ts.arch) (regulars (calls_for s) (reached s) (begun exception)))
        (sym (ap (λ (r : Report). r.tables) (e 0)))
        ∙ once_answers (arch_of (reached s)) (calls_for s) (reached s) (begun exception)
        ∙ ap (λ (r : Report). r.cleans) (e exception)

    answered : (exception : ℕ) → answers_after s exception (calls_for s) ≡ first_of (calls_for s) s.landings
    answered exception = rw (ap (λ (r : Report). r.raises) (e 0)) (cleaned exception)
