-- `program::run_both` meets its contract. The invariant: both runs are what is left of them from where the loop stands, or the first
-- has ended. The measure is the bytes below the limit. Assumes nothing.
use Rattle.std.proofs.Common.{◌≡◌, ◌<◌, refl, sym, ap, not, ◌∙◌, arith}
use lib.ListN.{length-set}
use Rattle.program.specs.Run.{max_remember}
use Rattle.program.proofs.Loop.{kept-length, both_0, both_begin, both_undecoded, both_less, both_ends, both_ends_past, both_refused, both_on, both_pass, both_passed, stepped-found, room-found, step-remember, step-recall}
use Rattle.program.proofs.Near.{near_later}
use Rattle.program.proofs.run_both.Goals as goal
use Rattle.program.proofs.run_both.Goals.{else-off-to-via-then-off-to+else-is_none, else-off-to-via-else-off-to}

pub returns-then-program-eq0 : goal.returns-then-program-eq0
returns-then-program-eq0 c = both_0 _ _ _ _ _ _ _ c.at_entry.ensures c.if-program-eq0.true

pub ops-init : goal.ops-init
ops-init c =
    both_begin c.requires _ _ c.at_entry.ensures refl c.if-program-eq0.false

pub operation_at-requires : goal.operation_at-requires
operation_at-requires c =
    let section = c.args.memory.now.section.now in
    near_later section _ _ _ _ c.near_end-end.ensures _ c.ops.invariant.second.past

pub ops-smaller-then-is_none : goal.ops-smaller-then-is_none
ops-smaller-then-is_none c = both_less c.requires c.ops.invariant _ _ c.in-Ok.ensures

pub ops-preserved-then-is_none : goal.ops-preserved-then-is_none
ops-preserved-then-is_none c =
    both_pass c.requires c.ops.invariant _ _ c.in-Ok.ensures _ _ _ _
    (stepped-found _ _ _ _ _ _ c.in-Ok-At.field-0-is (c.in-Ok-At.ensures.turn _ (kept-length _ _)))
    c.ops.invariant.second.deep c.ops.invariant.second.room (c.is_none.ensures ∙ ap not c.if-is_none.true) c.if-off-to.true

pub ops-smaller-else-off-to : goal.ops-smaller-else-off-to
ops-smaller-else-off-to c = both_less c.requires c.ops.invariant _ _ c.in-Ok.ensures

pub ops-preserved-else-off-to : goal.ops-preserved-else-off-to
ops-preserved-else-off-to c =
    both_on c.requires c.ops.invariant _ _ c.in-Ok.ensures _ _ _ _
    (stepped-found _ _ _ _ _ _ c.in-Ok-At.field-0-is (c.in-Ok-At.ensures.turn _ (kept-length _ _)))
    c.ops.invariant.second.deep c.ops.invariant.second.room
    (elim c.else-off-to.branch [
      | else-off-to-via-then-off-to+else-is_none w ↦ λ h. w.is_none.ensures ∙ ap not w.if-is_none.false
      | else-off-to-via-else-off-to w ↦ λ h. absurd (omega (arith, w.if-off-to.false))
    ])

pub ops-smaller-in-Ok-Set : goal.ops-smaller-in-Ok-Set
ops-smaller-in-Ok-Set c = both_less c.requires c.ops.invariant _ _ c.in-Ok.ensures

pub ops-preserved-in-Ok-Set : goal.ops-preserved-in-Ok-Set
ops-preserved-in-Ok-Set c =
    both_on c.requires c.ops.invariant _ _ c.in-Ok.ensures _ _ _ _
    (stepped-found _ _ _ _ _ _ c.in-Ok-Set.field-0-is (c.in-Ok-Set.ensures.turn _ (kept-length _ _)))
    c.ops.invariant.second.deep c.ops.invariant.second.room (both_passed c.ops.invariant)

pub ops-smaller-in-Ok-Remember : goal.ops-smaller-in-Ok-Remember
ops-smaller-in-Ok-Remember c = both_less c.requires c.ops.invariant _ _ c.in-Ok.ensures

pub ops-preserved-in-Ok-Remember : goal.ops-preserved-in-Ok-Remember
ops-preserved-in-Ok-Remember c =
    let more : c.ops.depth ≡ max_remember → ⊥ = room-found _ _ _ c.in-Ok-Remember.field-0-is c.in-Ok-Remember.ensures.room in
    let room : c.ops.depth < max_remember = omega (arith, c.ops.invariant.second.deep, more) in
    both_on c.requires c.ops.invariant _ _ c.in-Ok.ensures _ _ _ _
    (stepped-found _ _ _ _ _ _ c.in-Ok-Remember.field-0-is (c.in-Ok-Remember.ensures.turn _ (kept-length _ _)) ∙ step-remember _ _ _ _ room c.ops.invariant.second.room)
    (omega (arith, c.ops.invariant.second.deep, more)) (simp length-set c.ops.invariant.second.room) (both_passed c.ops.invariant)

pub ops-smaller : goal.ops-smaller
ops-smaller c = both_less c.requires c.ops.invariant _ _ c.in-Ok.ensures

pub ops-preserved : goal.ops-preserved
ops-preserved c =
    let some : c.ops.depth ≡ 0 → ⊥ = room-found _ _ _ c.in-Ok-Recall.field-0-is c.in-Ok-Recall.ensures.room in
    both_on c.requires c.ops.invariant _ _ c.in-Ok.ensures _ _ _ _
    (stepped-found _ _ _ _ _ _ c.in-Ok-Recall.field-0-is (c.in-Ok-Recall.ensures.turn _ (kept-length _ _)) ∙ step-recall _ _ _ _ some _ refl)
    (omega (arith, c.ops.invariant.second.deep)) c.ops.invariant.second.room (both_passed c.ops.invariant)

pub returns-in-Err : goal.returns-in-Err
returns-in-Err c = c.refused.ensures ∙ both_undecoded c.requires c.ops.invariant _ c.in-Err.ensures

pub returns-in-Err-act : goal.returns-in-Err-act
returns-in-Err-act c =
    c.refused-in-Err-act.ensures ∙
    both_refused c.requires c.ops.invariant _ _ c.in-Ok.ensures _ (sym (c.in-Err-act.ensures.turn _ (kept-length _ _)))

pub returns-in-Some : goal.returns-in-Some
returns-in-Some c =
    both_ends_past c.requires c.ops.invariant _ _ c.in-Ok.ensures _ _
    (stepped-found _ _ _ _ _ _ c.in-Ok-Ends.field-0-is (c.in-Ok-Ends.ensures.turn _ (kept-length _ _))) c.in-Some.is

pub returns-in_default : goal.returns-in_default
returns-in_default c =
    both_ends c.requires c.ops.invariant _ _ c.in-Ok.ensures _
    (stepped-found _ _ _ _ _ _ c.in-Ok-Ends.field-0-is (c.in-Ok-Ends.ensures.turn _ (kept-length _ _))) c.in_default.is
