-- `frame::step::restore_named` meets its contract: each turn restores one register of the mask. Assumes nothing.
use Rattle.std.proofs.Common.{◌≡◌, ◌*◌, ◌%◌, ◌^◌, sym, ◌∙◌, ap, arith}
use Rattle.std.specs.Int.Count.{count_trailing_zeros}
use Rattle.failure.specs.Outcome.{outcome}
use Rattle.frame.proofs.Named.{table-short}
use Rattle.frame.proofs.InStack.{slot_bounds}
use Rattle.frame.proofs.Saves.{saves-few}
use Rattle.frame.proofs.Partly.{partly_done, partly_exit}
use Rattle.frame.proofs.Slot.{cell_at, cell_outside}
use Rattle.frame.proofs.SavedLeft.{saved-begin, saved_over, saved-next, saved-set, saved_refused}
use Rattle.frame.proofs.step.restore_named.Goals as goal

pub loop-k-init : goal.loop-k-init
loop-k-init g c = saved-begin _ _ _ _ _ _ _ c.mask-rest.ensures c.requires.saves

pub overflow_shl-rest : goal.overflow_shl-rest
overflow_shl-rest g c =
    let f = saved-next c.loop-k.invariant (omega (arith, table-short c.args.arch)) (omega arith) in
    omega (arith, f.place, table-short c.args.arch)

pub overflow_sub-rest : goal.overflow_sub-rest
overflow_sub-rest g c =
    let f = saved-next c.loop-k.invariant (omega (arith, table-short c.args.arch)) (omega arith) in
    omega (arith, f.some)

pub saved_column-column-requires : goal.saved_column-column-requires
saved_column-column-requires g c = (saved-next c.loop-k.invariant (omega (arith, table-short c.args.arch)) (omega arith)).place

pub slot_of-requires : goal.slot_of-requires
slot_of-requires g c = (omega arith, saves-few _ _ _ c.requires.saves)

pub load-requires : goal.load-requires
load-requires g c =
    let x = c.args in
    let b = slot_bounds x.frame x.n c.loop-k.k (omega arith) c.requires.saves.some in
    let s = c.slot_of.ensures.0 in
    c.requires.slots _ (omega (arith, b.0, s)) (omega (arith, b.1, s))

pub returns-in_err-file : goal.returns-in_err-file
returns-in_err-file g c =
    let f = saved-next c.loop-k.invariant (omega (arith, table-short c.args.arch)) (omega arith) in
    partly_exit _ _ _ _ c.from_residual.ensures.1
    (saved_refused c.loop-k.invariant _ f _ c.slot_of.ensures.0 _
    (cell_outside _ _ _ _ _ _ (sym (ap outcome c.in_err-file.was) ∙ c.load.ensures)))

pub loop-k-preserved : goal.loop-k-preserved
loop-k-preserved g c =
    let f = saved-next c.loop-k.invariant (omega (arith, table-short c.args.arch)) (omega arith) in
    let power : 1 * 2 ^ count_trailing_zeros 32 c.loop-k.rest % 2 ^ 32 ≡ 2 ^ count_trailing_zeros 32 c.loop-k.rest = omega (arith, f.some) in
    rw power
    (saved-set c.loop-k.invariant _ f _ c.slot_of.ensures.0 _ _
    (cell_at _ _ _ _ _ _ _ c.in_ok-file.ensures c.saved_column-column.ensures.0))

pub returns : goal.returns
returns g c = partly_done _ _ (saved_over c.loop-k.invariant (omega arith))
