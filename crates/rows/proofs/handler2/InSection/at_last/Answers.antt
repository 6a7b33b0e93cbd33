-- `rows::handler2::InSection::at_last` meets its contract. Assumes nothing.
use Rattle.std.proofs.Common.{◌+◌, ◌≤◌, ◌<◌, length, refl, arith}
use Rattle.rows.proofs.Short.{byte_in, one}
use Rattle.rows.proofs.handler2.InSection.at_last.Goals as goal

pub returns-then-low-lt128 : goal.returns-then-low-lt128
returns-then-low-lt128 c =
    let s = c.args.self.now in
    let inside : s.last + 1 ≤ length s.section.now = omega (arith, s.inside) in
    let held : c.args.pos < s.last + 1 = omega arith in
    one _ _ _ _ _ (byte_in _ s.base _ inside c.args.pos _ _ held refl c.from-low.ensures) c.if-low-lt128.true (omega arith)
