-- `program::decode::completed` meets its contract. Assumes nothing.
use mathlib.Core.Path.{sym, ap}
use Rattle.program.specs.declared.decode.Incomplete.{Incomplete}
use Rattle.program.specs.Operation as Operation
use Rattle.program.proofs.decode.completed.Goals as goal

pub returns-in-Save : goal.returns-in-Save
returns-in-Save c = sym (ap (λ (o : Incomplete). Operation.completed o c.args.n) c.in-Save.is)

pub returns-in-Sp : goal.returns-in-Sp
returns-in-Sp c = sym (ap (λ (o : Incomplete). Operation.completed o c.args.n) c.in-Sp.is)

pub returns-in-Fp : goal.returns-in-Fp
returns-in-Fp c = sym (ap (λ (o : Incomplete). Operation.completed o c.args.n) c.in-Fp.is)

pub returns-in-Units : goal.returns-in-Units
returns-in-Units c = sym (ap (λ (o : Incomplete). Operation.completed o c.args.n) c.in-Units.is)

pub returns-in-Advance : goal.returns-in-Advance
returns-in-Advance c = sym (ap (λ (o : Incomplete). Operation.completed o c.args.n) c.in-Advance.is)

pub returns-in-Restore : goal.returns-in-Restore
returns-in-Restore c = sym (ap (λ (o : Incomplete). Operation.completed o c.args.n) c.in-Restore.is)
