-- `unwind::search::raise` meets its contract. Assumes nothing.
use mathlib.Core.Path.{◌∙◌, ap}
use Rattle.mem.specs.Given.{lent_by}
use Rattle.unwind.specs.Answers.{raised_by}
use Rattle.unwind.proofs.Told.{told-throw}
use Rattle.unwind.proofs.search.raise.Goals as goal

pub returns : goal.returns
returns c =
    let t = c.args.throw in
    told-throw (lent_by c.args.memory.now) c.args.arch t.regs.r t.pc t.interrupted t.exception _
    (c.begin.ensures ∙ ap (raised_by t.regs.r t.pc t.interrupted t.exception) c.answer_of.ensures)
