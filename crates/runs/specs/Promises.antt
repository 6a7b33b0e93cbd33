-- What is promised of a closed run: every form of demand 3, and that the contracts speak of it.
use Rattle.std.specs.Prelude.{List, [], ◌∷◌, ℕ}
use Rattle.model.specs.Machine.{lent_by}
use Rattle.model.specs.Demand.{Regular, EveryLanding}
use Rattle.model.specs.LiveStack.{Usable}
use Rattle.model.specs.Between.{EveryLandingBetween}
use Rattle.model.specs.Call.{AtThrow}
use Rattle.runs.specs.Scenario.{Scenario, reached}

-- after a scenario's throw: demand 3 for regular calls, over a live stack, and with stores between the calls; and what the throw call is
-- given is what the contract of `raise` speaks of
pub record Promises (s : Scenario) : Type 0 where
  pub regular : (exception : ℕ) → EveryLanding (Regular (reached s)) (reached s) s.throw exception
  pub live : (exception : ℕ) → EveryLanding (Usable (reached s)) (reached s) s.throw exception
  pub between : (exception : ℕ) → EveryLandingBetween (reached s) s.throw exception
  pub thrown :
      AtThrow (lent_by (reached s)) (reached s).tables.arch (reached s).registers s.throw.pc s.throw.interrupted

-- that holds of each
abbrev pub All : (Scenario → Type 0) → List Scenario → Type 0
All P [] = Unit
All P (s ∷ ss) = P s × All P ss
