-- What the public functions answer: 28 for an opening that is not accepted, then for an architecture other than 1 and 2, then for a
-- state that counts more than 32 pairs, before anything else.
use Rattle.std.specs.Prelude.{Bool, List, ℕ, if◌then◌else◌}
use Rattle.failure.specs.Outcome.{Outcome, Refused, ◌>>=◌}
use Rattle.failure.specs.Failure.{BadOpening}
use Rattle.mem.specs.Memory.{Lent}
use Rattle.mem.specs.Opening.{opens}
use Rattle.arch.specs.Arch.{Arch, known}
use Rattle.state.specs.declared.State.{State}
use Rattle.state.specs.State.{overfull}
use Rattle.frame.specs.Layout.{layout}
use Rattle.frame.specs.Apply as Apply
use Rattle.frame.specs.Step as Step

-- the numbers of the architecture, if what is lent is accepted
unfoldable pub opened : Lent → ℕ → Outcome Arch
opened l arch = if opens l then known arch else Refused BadOpening

-- the caller's registers from a state
unfoldable pub apply : Lent → ℕ → State → List ℕ → Outcome (List ℕ)
apply l arch st file = do
  a ← opened l arch
  if overfull st then Refused BadOpening else Apply.apply a l.regions (layout st) file

-- the caller's registers from a version 1 frame word; first means interrupted
unfoldable pub step : Lent → ℕ → ℕ → Bool → List ℕ → Outcome (List ℕ)
step l arch frame first file = do
  a ← opened l arch
  Step.step a l.regions frame first file
