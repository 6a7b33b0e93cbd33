-- `state::seek` meets its contract. Assumes nothing.
use Rattle.std.proofs.Common.{ℕ, eqb, take, rules, tests, ◌∙◌, arith}
use Rattle.std.proofs.lemmas.Iterator.{YieldsList-from_slice}
use Rattle.std.proofs.lemmas.Iterator.Adapters.{position_from-zero}
use Rattle.std.proofs.lemmas.Iterator.Search.{position_from_yields_List}
use Rattle.state.proofs.Pairs.{place_position}
use Rattle.state.proofs.seek.Goals as goal

pub returns : goal.returns
returns c =
    position_from_yields_List (λ (x : ℕ). eqb x c.args.reg) _ _ _ c.position.ensures.ran
    (YieldsList-from_slice (take c.args.count c.args.regs.now) cc) (λ x b q k. search (rules, tests))
    ∙ position_from-zero _ (take c.args.count c.args.regs.now) ∙ place_position c.args.regs.now c.args.reg c.args.count 0 (omega arith)
