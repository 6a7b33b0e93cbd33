-- `state::State::drop_in` meets its contract. Assumes nothing.
use Rattle.std.proofs.Common.{sym, ◌∙◌, arith}
use Rattle.state.proofs.Pairs.{place-below}
use Rattle.state.proofs.Restore.{without_at_lem, without_none}
use Rattle.state.proofs.State.drop_in.Goals as goal

pub copy_down-requires : goal.copy_down-requires
copy_down-requires c =
    let below = place-below c.args.self.now c.args.reg c.in-Some.i (sym c.seek.ensures ∙ c.in-Some.is) in
    (omega arith, omega arith)

pub copy_down-requires-in-Some : goal.copy_down-requires-in-Some
copy_down-requires-in-Some c =
    let below = place-below c.args.self.now c.args.reg c.in-Some.i (sym c.seek.ensures ∙ c.in-Some.is) in
    (omega arith, omega arith)

pub returns-in-Some : goal.returns-in-Some
returns-in-Some c =
    without_at_lem _ _ _ _ _ (sym c.seek.ensures ∙ c.in-Some.is) c.copy_down.ensures c.copy_down-in-Some.ensures

pub returns-in_default : goal.returns-in_default
returns-in_default c = without_none _ _ (sym c.seek.ensures ∙ c.in_default.is)
