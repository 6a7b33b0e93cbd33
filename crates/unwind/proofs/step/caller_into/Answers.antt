-- `unwind::step::caller_into` meets its contract. Assumes nothing.
use Rattle.std.proofs.Common.{◌∙◌}
use Rattle.unwind.proofs.Walks.{in_place_told, caller_1, caller_2}
use Rattle.unwind.proofs.step.caller_into.Goals as goal

pub returns-then-record-ne-VERSION2 : goal.returns-then-record-ne-VERSION2
returns-then-record-ne-VERSION2 c =
    in_place_told _ _ _ _ c.step_into.ensures ∙ caller_1 _ _ _ _ _ _ c.if-record-ne-VERSION2.true

pub returns : goal.returns
returns c =
    c.caller_by_run.ensures ∙ caller_2 _ _ _ _ _ _ c.if-record-ne-VERSION2.false _ c.offset_from-off.ensures
