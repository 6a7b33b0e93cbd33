-- `frame::step::step_into` meets its contract. Assumes nothing.
use Rattle.std.proofs.Common.{sym, ◌∙◌, ap}
use Rattle.failure.specs.Outcome.{outcome}
use Rattle.arch.proofs.InPlace.{place_exit}
use Rattle.frame.proofs.Partly.{place_as}
use Rattle.frame.proofs.Saves.{saves}
use Rattle.frame.proofs.Stepped.{word_refused, word-passes}
use Rattle.frame.proofs.step.step_into.Goals as goal

pub returns-in_err-cfa : goal.returns-in_err-cfa
returns-in_err-cfa c =
    place_exit _ _ _ _ c.from_residual.ensures.1 (sym (word_refused _ _ _ _ _ _ (sym (ap outcome c.in_err-cfa.was) ∙ c.frame_cfa.ensures)))

pub step_at-requires : goal.step_at-requires
step_at-requires c = saves _ _ _ _ _ _ c.in_ok-cfa.ensures c.named_count.ensures

pub returns : goal.returns
returns c = place_as _ _ (word-passes _ _ _ _ _ _ c.in_ok-cfa.ensures) _ _ _ c.step_at.ensures
