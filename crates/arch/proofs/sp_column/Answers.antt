-- `arch::sp_column` meets its contract. Assumes nothing.
use mathlib.Core.Path.{ap}
use native.Mathlib.Omega.{arith}
use Rattle.arch.specs.declared.Arch2.{Arch2}
use Rattle.arch.proofs.Arch.{fits}
use Rattle.arch.proofs.sp_column.Goals as goal

pub returns : goal.returns
returns c =
    let f = fits c.args.arch in
    let e = ap (λ (r : Arch2). r.sp) c.numbers.ensures in
    (e, omega (arith, e, f.sp, f.low))
