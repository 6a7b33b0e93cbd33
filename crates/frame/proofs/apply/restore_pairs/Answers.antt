-- `frame::apply::restore_pairs` meets its contract: each turn restores one pair. Assumes nothing.
use Rattle.std.proofs.Common.{rules, arith, sym, ap, ◌∙◌}
use Rattle.failure.specs.Outcome.{outcome}
use Rattle.arch.proofs.Arch.{fits}
use Rattle.arch.proofs.File.{column_fits}
use Rattle.frame.proofs.Partly.{partly_done, partly_exit}
use Rattle.frame.proofs.PairsAt.{pairs-placed}
use Rattle.frame.proofs.Slot.{cell_at, cell_unknown, cell_outside}
use Rattle.frame.proofs.Turn.{turn_begin, turn_over, turn_set, turn_refused}
use Rattle.frame.proofs.apply.restore_pairs.Goals as goal

pub loop-i-init : goal.loop-i-init
loop-i-init g c =
    let st = c.args.state.now in
    let placed = pairs-placed st.count st.regs st.slots (search rules) (search rules) in
    rw (← placed, ← c.pair_count-n.ensures.0) (turn_begin _ _ _ _ _ _ _)

pub returns-in_err-v : goal.returns-in_err-v
returns-in_err-v g c =
    partly_exit _ _ _ _ c.from_residual.ensures.1
    (turn_refused c.loop-i.invariant (omega arith) _
    (cell_outside _ _ _ _ _ _ (sym (ap outcome c.in_err-v.was) ∙ c.load.ensures)))

pub returns-in_err-k : goal.returns-in_err-k
returns-in_err-k g c =
    partly_exit _ _ _ _ c.from_residual-in_err-k.ensures.1
    (turn_refused c.loop-i.invariant (omega arith) _
    (cell_unknown _ _ _ _ _ _ _ c.in_ok-v.ensures (sym (ap outcome c.in_err-k.was) ∙ c.column_of.ensures)))

pub offset_bounds-file-k : goal.offset_bounds-file-k
offset_bounds-file-k g c = omega (arith, column_fits _ (fits _) _ _ (sym c.in_ok-k.ensures))

pub bounds-file-k : goal.bounds-file-k
bounds-file-k g c = column_fits _ (fits _) _ _ (sym c.in_ok-k.ensures)

pub loop-i-preserved : goal.loop-i-preserved
loop-i-preserved g c =
    turn_set c.loop-i.invariant (omega arith) _ _
    (cell_at _ _ _ _ _ _ _ c.in_ok-v.ensures c.in_ok-k.ensures)

pub returns : goal.returns
returns g c = partly_done _ _ (turn_over c.loop-i.invariant (omega arith))
