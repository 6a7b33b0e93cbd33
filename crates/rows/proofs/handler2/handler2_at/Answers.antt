-- `rows::handler2::handler2_at` meets its contract. Assumes nothing.
use Rattle.std.proofs.Common.{◌∙◌}
use Rattle.rows.proofs.Left.{found_exit}
use Rattle.rows.proofs.handler2.handler2_at.Goals as goal

pub returns-in_err-word_of : goal.returns-in_err-word_of
returns-in_err-word_of c = found_exit _ _ c.from_residual.ensures.1 ∙ c.in_err-word_of.ensures

pub returns : goal.returns
returns c = c.settled-2.ensures ∙ c.in_ok-word_of.ensures
