-- `arch::require_known` meets its contract. Assumes nothing.
use Rattle.std.proofs.Common.{sym, ◌∙◌}
use Rattle.arch.proofs.Known.{known_settled, unknown_settled}
use Rattle.arch.proofs.require_known.Goals as goal

pub returns-then-is_known : goal.returns-then-is_known
returns-then-is_known c = known_settled _ (sym c.is_known.ensures ∙ c.if-is_known.true)

pub returns : goal.returns
returns c = unknown_settled _ (sym c.is_known.ensures ∙ c.if-is_known.false)
