-- `program::run_both` meets its contract. The invariant: both runs are what is left of them from where the loop stands, or the first
-- has ended. The measure is the bytes below the limit. Assumes nothing.
use Rattle.std.proofs.Common.{◌-◌}
use Rattle.mem.specs.Given.{lent_by}
use Rattle.arch.specs.Arch.{numbers}
use Rattle.program.proofs.Loop.{Both}
use Rattle.program.proofs.run_both.Given as goal

abbrev pub invariant-ops : goal.invariant-ops
invariant-ops l =
    Both (lent_by l.memory).regions (numbers l.arch) l.program l.limit l.off l.last l.kept l.state l.remembered l.depth l.at l.pos

abbrev pub decreases-ops : goal.decreases-ops
decreases-ops l = l.limit - l.pos
