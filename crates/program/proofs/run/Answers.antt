-- `program::run` meets its contract. Assumes nothing.
use Rattle.std.proofs.Common.{sym, ◌∙◌, ap}
use Rattle.program.specs.Answers.{ended}
use Rattle.program.proofs.Public.{run_closed, run_unknown, run_refused, run-opened}
use Rattle.program.proofs.run.Goals as goal
use Rattle.program.proofs.run.Goals.{then-not-opens-via-then-not-opens, then-not-opens-via-else-not-opens+then-not-is_known}

pub returns-then-not-opens : goal.returns-then-not-opens
returns-then-not-opens c =
    run_refused _ _ _ c.at_entry.ensures
    (elim c.then-not-opens.branch [
      | then-not-opens-via-then-not-opens w ↦ run_closed _ _ _ _ _ (sym c.opens.ensures ∙ w.if-not-opens.true)
      | then-not-opens-via-else-not-opens+then-not-is_known w ↦
          run_unknown _ _ _ _ _ (sym c.opens.ensures ∙ w.if-not-opens.false) (sym w.is_known.ensures ∙ w.if-not-is_known.true)
    ])

pub returns : goal.returns
returns c =
    c.run_program.ensures ∙
    ap (ended _)
    (run-opened _ _ _ _ _ (sym c.opens.ensures ∙ c.if-not-opens.false) (sym c.is_known.ensures ∙ c.if-not-is_known.false))
