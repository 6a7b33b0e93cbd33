-- `program::advance` meets its contract. Assumes nothing.
use Rattle.std.proofs.Common.{ap, ◌≤◌, arith}
use borrow.Author.Rules.{rules}
use Rattle.arch.specs.declared.Arch2.{Arch2}
use Rattle.program.proofs.Loop.{unit_small, advance-fits}
use Rattle.program.proofs.advance.Goals as goal

pub overflow_mul-n : goal.overflow_mul-n
overflow_mul-n c =
    let x = c.args in
    let unit : c.numbers-a.result.unit ≤ 4 =
    omega (arith, unit_small x.arch, ap (λ (r : Arch2). r.unit) c.numbers-a.ensures) in
    record { fits = advance-fits x.n _ (search rules) unit }
