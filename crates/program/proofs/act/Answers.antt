-- `program::act` meets its contract: each return is a law of `act`. Assumes nothing.
use Rattle.std.proofs.Common.{◌∙◌}
use Rattle.program.proofs.Loop.{turn_exit, act-found, act-end, act-advance, act-set, act_set_refused, act-remember, act-recall}
use Rattle.program.proofs.act.Goals as goal

pub returns-in-End-clause-turn : goal.returns-in-End-clause-turn
returns-in-End-clause-turn c = λ states len. act-found _ _ _ _ _ _ _ c.in-End.is (act-end _ _ _ _)

pub returns-in-Advance-clause-turn : goal.returns-in-Advance-clause-turn
returns-in-Advance-clause-turn c =
    λ states len. act-found _ _ _ _ _ _ _ c.in-Advance.is (c.advance.ensures.turn _ states ∙ act-advance _ _ _ _ _)

pub returns-in_err-follow-in-Set-clause-turn : goal.returns-in_err-follow-in-Set-clause-turn
returns-in_err-follow-in-Set-clause-turn c =
    λ states len. turn_exit _ _ _ c.from_residual.ensures.1 ∙
    act-found _ _ _ _ _ _ _ c.in-Set.is (act_set_refused _ _ _ _ _ _ c.in_err-follow-in-Set.ensures)

pub returns-in_ok-follow-in-Set-clause-turn : goal.returns-in_ok-follow-in-Set-clause-turn
returns-in_ok-follow-in-Set-clause-turn c =
    λ states len. act-found _ _ _ _ _ _ _ c.in-Set.is (act-set _ _ _ _ _ _ c.in_ok-follow-in-Set.ensures)

pub returns-in-Remember-clause-turn : goal.returns-in-Remember-clause-turn
returns-in-Remember-clause-turn c =
    λ states len. act-found _ _ _ _ _ _ _ c.in-Remember.is (c.remember.ensures.turn _ states _ len ∙ act-remember _ _ _ _)

pub returns-in-Recall-clause-turn : goal.returns-in-Recall-clause-turn
returns-in-Recall-clause-turn c =
    λ states len. act-found _ _ _ _ _ _ _ c.in-Recall.is (c.recall.ensures.turn _ states _ len ∙ act-recall _ _ _ _)
