-- `frame::step::step_from` meets its contract. Assumes nothing.
use Rattle.std.proofs.Common.{refl, sym, ◌∙◌, ap, arith, lit<}
use Rattle.failure.specs.Outcome.{outcome}
use Rattle.arch.proofs.File.{get_at}
use Rattle.frame.proofs.InStack.{deepest_bounds}
use Rattle.frame.proofs.Partly.{partly_as, partly_exit, done_partly, refused_partly}
use Rattle.frame.proofs.Stepped.{saved-stops, saved_done, address_refused, address_read}
use Rattle.frame.proofs.step.step_from.Goals as goal

pub returns-in_err-restore_named : goal.returns-in_err-restore_named
returns-in_err-restore_named g c =
    partly_exit _ _ _ _ c.from_residual.ensures.1
    (sym (saved-stops _ _ _ _ _ _ (refused_partly _ _ _ _ c.restore_named.ensures c.in_err-restore_named.was)))

pub return_address-requires : goal.return_address-requires
return_address-requires g c = c.requires.slots 1 (lit< tt) (omega (arith, (deepest_bounds c.args.frame c.args.n).0))

pub returns-in_err-ra : goal.returns-in_err-ra
returns-in_err-ra g c =
    let saved = done_partly _ _ _ c.restore_named.ensures c.in_ok-restore_named.was in
    let held = get_at _ c.args.file.now _ _ c.ra_column.ensures.0 in
    partly_exit _ _ _ _ c.from_residual-in_err-ra.ensures.1
    (sym (saved_done _ _ _ _ _ _ saved) ∙
    sym (address_refused _ _ _ _ c.args.file.now _ _ refl _ (sym (ap outcome c.in_err-ra.was) ∙ c.return_address.ensures c.args.file.now held)))

pub set_frame-requires : goal.set_frame-requires
set_frame-requires g c = c.requires.slots 2 (lit< tt) (deepest_bounds c.args.frame c.args.n).0

pub returns : goal.returns
returns g c =
    let saved = done_partly _ _ _ c.restore_named.ensures c.in_ok-restore_named.was in
    let held = get_at _ c.args.file.now _ _ c.ra_column.ensures.0 in
    partly_as _ _
    (address_read _ _ _ _ c.args.file.now _ _ refl _ (c.in_ok-ra.ensures c.args.file.now held) ∙ saved_done _ _ _ _ _ _ saved)
    _ _ c.set_frame.ensures
