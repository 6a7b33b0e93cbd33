-- `rows::handler::RowIn::right_breaks` meets its contract. Assumes nothing.
use Rattle.std.proofs.Common.{refl}
use Rattle.rows.proofs.Held.{right_said}
use Rattle.rows.proofs.handler.RowIn.right_breaks.Goals as goal

pub returns : goal.returns
returns c =
    let p = c.args.self.now.at in
    right_said _ _ _ _ p.whole _ _ p _ refl _ c.u32_at.ensures.0
