-- `program::recall` meets its contract. Assumes nothing.
use Rattle.std.proofs.Common.{◌∙◌}
use Rattle.program.proofs.Loop.{recall_none}
use Rattle.program.proofs.recall.Goals as goal

pub returns-then-depth-eq0-clause-turn : goal.returns-then-depth-eq0-clause-turn
returns-then-depth-eq0-clause-turn c =
    λ st states at len. recall_none (record { state = st; remembered = states; at = at }) states (len ∙ c.if-depth-eq0.true)
