-- `frame::apply::apply_into` meets its contract. Assumes nothing.
use Rattle.std.proofs.Common.{rules, sym, ◌∙◌, ap, arith}
use Rattle.failure.specs.Outcome.{outcome}
use Rattle.arch.proofs.InPlace.{place_done, place_exit}
use Rattle.frame.specs.Layout.{layout}
use Rattle.frame.proofs.Partly.{place_as, partly_answered, done_partly, refused_partly}
use Rattle.frame.proofs.Unrefused.{near_applies}
use Rattle.frame.proofs.Applied.{above_refused, above_passes}
use Rattle.frame.proofs.apply.apply_into.Goals as goal

pub returns-in_err-cfa : goal.returns-in_err-cfa
returns-in_err-cfa c =
    let file = c.args.file.now in
    place_exit _ _ _ _ c.from_residual.ensures.1
    (above_refused _ _ (layout c.args.state.now) file _ (c.base_column.ensures.0 file) _ (sym (ap outcome c.in_err-cfa.was) ∙ c.cfa_above.ensures))

pub apply_from-requires : goal.apply_from-requires
apply_from-requires c = λ j p h. let w = c.in-Some.ensures.2 j p in (w.0.some, w.1)

pub returns-in-Some : goal.returns-in-Some
returns-in-Some c =
    let x = c.args in
    let file = x.file.now in
    let s = c.in-Some.slots in
    let is = c.in-Some.ensures in
    let near = rw (is.0, is.1) at s.near in
    let answer = near_applies x.arch x.memory.now c.in_ok-cfa.cfa (omega arith) s.depth near file x.state.now (search rules) (search rules) is.2 in
    place_as _ _
    (above_passes _ _ (layout x.state.now) file _ (c.base_column.ensures.0 file) _ c.in_ok-cfa.ensures)
    _ _ _ (partly_answered _ _ _ _ answer.0 answer.1 (rw (is.0, is.1) at c.apply_from.ensures))

pub returns-in_err-apply_from : goal.returns-in_err-apply_from
returns-in_err-apply_from c =
    let file = c.args.file.now in
    place_exit _ _ _ _ c.from_residual-in_err-apply_from.ensures.1
    (sym (above_passes _ _ (layout c.args.state.now) file _ (c.base_column.ensures.0 file) _ c.in_ok-cfa.ensures) ∙
    refused_partly _ _ _ _ c.apply_from-2.ensures c.in_err-apply_from.was)

pub returns : goal.returns
returns c =
    let file = c.args.file.now in
    place_done _ _ _
    (sym (above_passes _ _ (layout c.args.state.now) file _ (c.base_column.ensures.0 file) _ c.in_ok-cfa.ensures) ∙
    done_partly _ _ _ c.apply_from-2.ensures c.in_ok-apply_from.was)
