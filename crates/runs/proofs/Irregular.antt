-- Lists of sweep calls with refused ones among them are those that demand 3 speaks of. Assumes nothing.
use mathlib.Core.List.{List, [], ◌∷◌}
use mathlib.Core.Bool.{true}
use mathlib.Core.Logic.{inl, inr}
use mathlib.Core.Path.{◌≡◌, refl, sym, ◌∙◌, ap, subst}
use Prim.Native.Nat.{ℕ}
use Rattle.failure.specs.Outcome.{Outcome, Refused, Answer}
use Rattle.mem.specs.Opening.{opens}
use Rattle.arch.specs.Arch.{Arch}
use Rattle.model.specs.declared.Unwinding.{Unwinding}
use Rattle.model.specs.Cleanup.{Cleaned}
use Rattle.model.specs.Unwinding.{raised}
use Rattle.model.specs.Machine.{Machine, arch_of, lent_by}
use Rattle.model.specs.Expected.{Compared}
use Rattle.model.specs.Demand.{answer_of, call_of, Regular, current_by, current, IsRefused, Admissible, unwinding_of}
use Rattle.model.specs.Call.{compared_as}
use Rattle.runs.specs.Scenario.{Scenario, reached, handed_back, Holds}
use Rattle.runs.specs.Irregular.{Asked, regular, made, call_asked, calls_asked, outcomes_of, IsRefusal, MadeRefused, HoldsAmong}
use Rattle.runs.proofs.Runs.{own_regular}

-- regular calls, and made ones that are refused
asked-admissible : (a : Arch) (m : Machine) → opens (lent_by m) ≡ true → (u : Unwinding) (asked : List Asked) →
    MadeRefused asked (outcomes_of a (calls_asked m u asked)) → Admissible (Regular m) u (calls_asked m u asked)
asked-admissible a m accepted u [] h = tt
asked-admissible a m accepted u (regular ∷ rest) h =
    (inl (own_regular m accepted u), asked-admissible a m accepted (current u (call_of m u)) rest h)
asked-admissible a m accepted u (made f ∷ rest) h = (
  inr (go (answer_of (f (call_of m u))) h.0),
  asked-admissible a m accepted (current u (f (call_of m u))) rest h.1,
)
  where
    go : (o : Outcome Cleaned) → IsRefusal (compared_as a o) → IsRefused o
    go (Refused n) h = h
    go (Answer x) h = h

-- what the calls come to, each computed once
abbrev pub outcomes_once : Arch → Machine → Unwinding → List Asked → List (Outcome Compared)
outcomes_once a m u [] = []
outcomes_once a m u (x ∷ rest) =
    let c = call_asked m u x in
    let o = answer_of c in
    compared_as a o ∷ outcomes_once a m (current_by u c.unwinding o) rest

-- it is what they come to
once_outcomes : (a : Arch) (m : Machine) (u : Unwinding) (asked : List Asked) →
    outcomes_of a (calls_asked m u asked) ≡ outcomes_once a m u asked
unfolding current
once_outcomes a m u [] = refl
once_outcomes a m u (x ∷ rest) =
    ap (λ (os : List (Outcome Compared)). compared_as a (answer_of (call_asked m u x)) ∷ os)
    (once_outcomes a m (current u (call_asked m u x)) rest)

-- a scenario that holds also holds with such calls, if they come to that once computed
pub holds-among : (s : Scenario) → Holds s → (asked : List Asked) (os : List (Outcome Compared)) →
    ((exception : ℕ) →
    let m = reached s in
    outcomes_once (arch_of m) m (raised m.registers s.throw.pc s.throw.interrupted exception (Answer s.answer)) asked
    ≡ os) →
    MadeRefused asked os → HoldsAmong s asked os
unfolding unwinding_of
holds-among s holds asked os e h =
    record {
      admissible = λ exception.
          asked-admissible (arch_of (reached s)) (reached s) holds.accepted (handed_back s exception) asked
          (subst (MadeRefused asked) (sym (gives exception)) h);
      gives = gives;
    }
  where
    once : (exception : ℕ) → outcomes_once (arch_of (reached s)) (reached s) (handed_back s exception) asked ≡ os
    once exception = rw holds.raises (e exception)

    gives : (exception : ℕ) → outcomes_of (arch_of (reached s)) (calls_asked (reached s) (handed_back s exception) asked) ≡ os
    gives exception = once_outcomes (arch_of (reached s)) (reached s) (handed_back s exception) asked ∙ once exception
