-- Demand 3 for calls of a kind gives it for calls of a narrower one. Assumes nothing.
use mathlib.Core.List.{List, [], ◌∷◌}
use mathlib.Core.Logic.{inl, inr, ⊎_elim}
use Prim.Native.Nat.{ℕ}
use Rattle.model.specs.declared.Unwinding.{Unwinding}
use Rattle.model.specs.Machine.{Machine}
use Rattle.model.specs.Throw.{Throw}
use Rattle.model.specs.Demand.{ResumeCall, Kind, answer_of, current, IsRefused, Admissible, Served, unwinding_of, EveryLanding}

module _ (Wide Narrow : Kind) (is : (u : Unwinding) (c : ResumeCall) → Narrow u c → Wide u c) where
  -- a list with calls of the narrower kind is one with calls of the wider
  admissible : (cs : List ResumeCall) (u : Unwinding) → Admissible Narrow u cs → Admissible Wide u cs
  admissible [] u a = tt
  admissible (c ∷ cs) u a = (
    ⊎_elim (λ (n : Narrow u c). inl (is u c n)) (λ (r : IsRefused (answer_of c)). inr r) a.0,
    admissible cs (current u c) a.1,
  )

  -- where no call of the wider kind is refused, none of the narrower is
  served : (cs : List ResumeCall) (u : Unwinding) → Served Wide u cs → Served Narrow u cs
  served [] u s = tt
  served (c ∷ cs) u s = ((λ n r. s.0 (is u c n) r), served cs (current u c) s.1)

  pub narrower : (m : Machine) (t : Throw) (exception : ℕ) → EveryLanding Wide m t exception → EveryLanding Narrow m t exception
  narrower m t exception every =
      record {
        throws = every.throws;
        exactly = every.exactly;
        lands = λ cs a.
            let u : Unwinding = unwinding_of m t exception in
            let l = every.lands cs (admissible cs u a) in
            (served cs u l.0, l.1);
      }
