-- `frame::apply::apply_from` meets its contract. Assumes nothing.
use Rattle.std.proofs.Common.{sym, ◌∙◌, ap}
use Rattle.failure.specs.Outcome.{Answer}
use Rattle.arch.proofs.File.{get_at}
use Rattle.frame.proofs.Partly.{partly_done, partly_exit, done_partly, refused_partly}
use Rattle.frame.proofs.Applied.{pairs_refused, ra-answered}
use Rattle.frame.proofs.apply.apply_from.Goals as goal

pub returns-in_err-restore_pairs : goal.returns-in_err-restore_pairs
returns-in_err-restore_pairs g c =
    partly_exit _ _ _ _ c.from_residual.ensures.1
    (sym (pairs_refused _ _ _ _ _ _ (refused_partly _ _ _ _ c.restore_pairs.ensures c.in_err-restore_pairs.was)))

pub returns : goal.returns
returns g c =
    let returned = rw c.cfa.ensures at c.return_to.ensures in
    partly_done _ _
    (sym (ra-answered _ _ _ _ _ _ _ (done_partly _ _ _ c.restore_pairs.ensures c.in_ok-restore_pairs.was) (get_at _ _ _ _ c.ra_column.ensures.0)) ∙
    ap Answer (sym returned))
