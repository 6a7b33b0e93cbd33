-- `unwind::search::answer_of` meets its contract. Assumes nothing.
use mathlib.Core.Path.{◌∙◌}
use Rattle.failure.proofs.Outcome.{exit_as}
use Rattle.model.specs.Unwinding.{raise}
use Rattle.unwind.specs.Answers.{searched_as}
use Rattle.unwind.proofs.Opened.{opened_by}
use Rattle.unwind.proofs.search.answer_of.Goals as goal

pub returns-in_err-require_accepted : goal.returns-in_err-require_accepted
unfolding raise
returns-in_err-require_accepted c =
    exit_as searched_as _ _ c.from_residual.ensures.1 ∙ opened_by _ _ _ _ c.in_err-require_accepted.ensures

pub returns : goal.returns
unfolding raise
returns c = c.search.ensures ∙ rw c.set_pc.ensures (opened_by _ _ _ _ c.in_ok-require_accepted.ensures)
