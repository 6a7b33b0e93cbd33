-- `unwind::cleanup::resume` meets its contract. Assumes nothing.
use mathlib.Core.Path.{◌∙◌}
use borrow.Author.Tests.{not-true, not-false}
use Rattle.mem.specs.Given.{lent_by}
use Rattle.unwind.proofs.CleanupPhase.{resumed_28, resumed-unchosen, resumed-finished, resumed-on}
use Rattle.unwind.proofs.Told.{told-next}
use Rattle.unwind.proofs.cleanup.resume.Goals as goal
use Rattle.unwind.proofs.cleanup.resume.Goals.{then-not-unwinding-via-then-not-unwinding, then-not-unwinding-via-else-not-unwinding+then-unwinding}

pub returns-in-Err : goal.returns-in-Err
returns-in-Err c =
    let l = lent_by c.args.memory.now in
    told-next l c.args.arch c.args.unwinding _ (c.unchanged.ensures ∙ resumed_28 l c.args.arch c.args.unwinding _ c.in-Err.ensures)

pub returns-then-not-unwinding : goal.returns-then-not-unwinding
returns-then-not-unwinding c =
    let x = c.args in
    let l = lent_by x.memory.now in
    told-next l x.arch x.unwinding _
    (c.unchanged-then-not-unwinding.ensures ∙ elim c.then-not-unwinding.branch [
      | then-not-unwinding-via-then-not-unwinding w ↦
          resumed-unchosen l x.arch x.unwinding _ c.in_default.ensures (not-true _ w.if-not-unwinding.true)
      | then-not-unwinding-via-else-not-unwinding+then-unwinding w ↦
          resumed-finished l x.arch x.unwinding _ c.in_default.ensures (not-false _ w.if-not-unwinding.false) w.if-unwinding.true
    ])

pub returns : goal.returns
returns c =
    let x = c.args in
    let l = lent_by x.memory.now in
    told-next l x.arch x.unwinding _
    (c.clean.ensures
    ∙ resumed-on l x.arch x.unwinding _ c.in_default.ensures (not-false _ c.if-not-unwinding.false) c.if-unwinding.false)
