-- `unwind::cleanup::clean` meets its contract. The invariant is `UnderWay`; the measure is the frames that may still be given. Assumes nothing.
use Rattle.std.specs.Prelude.{Ok}
use mathlib.Core.Path.{◌≡◌, refl, ◌∙◌, ap}
use Prim.Native.Nat.{◌<◌}
use native.Mathlib.Omega.{arith}
use Rattle.unwind.specs.declared.cleanup.Cleaning.{Cleaning}
use Rattle.unwind.proofs.CleanupPhase.{cleaning_begin, cleaning_below, cleaning_on, cleaning_lands, cleaning_fatal, cleaning_refused}
use Rattle.unwind.proofs.Meeting.{never_interrupted}
use Rattle.unwind.proofs.cleanup.clean.Goals as goal
use Rattle.unwind.proofs.cleanup.clean.Goals.{After-clean_turn}

-- a turn that is not refused has passed the frame
below : (c : After-clean_turn) (v : Cleaning) → c.clean_turn.result ≡ Ok v → c.loop-number.number < 1024
below c v e =
    cleaning_below _ _ c.args.unwinding _ c.meet-met.new.file c.meet-met.result c.meet-met.ensures _ _ refl _ c.sp_column-k.ensures.0 refl _ c.clean_turn.ensures v e

pub loop-number-init : goal.loop-number-init
loop-number-init c = cleaning_begin _ _ _

pub overflow_add-number : goal.overflow_add-number
overflow_add-number c =
    let b = below (goal.at.overflow_add-number c).After-clean_turn _ c.in-Ok-On.is in omega (arith, b)

pub loop-number-smaller : goal.loop-number-smaller
loop-number-smaller c =
    let b = below (goal.at.loop-number-smaller c).After-clean_turn _ c.in-Ok-On.is in omega (arith, b)

pub loop-number-preserved : goal.loop-number-preserved
loop-number-preserved c =
    cleaning_on _ _ c.args.unwinding _ c.meet-met.new.file c.meet-met.result c.meet-met.ensures _ _ refl _ c.sp_column-k.ensures.0 refl _ c.clean_turn.ensures
    c.loop-number.invariant (c.in-Ok-On.is ∙ ap Ok c.in-Ok-On.field-0-is) _ (never_interrupted _ _)

pub overflow_add-next : goal.overflow_add-next
overflow_add-next c =
    let b = below (goal.at.overflow_add-next c).After-clean_turn _ c.in-Ok-Install.is in omega (arith, b)

pub returns-in-Ok-Install : goal.returns-in-Ok-Install
returns-in-Ok-Install c =
    cleaning_lands _ _ c.args.unwinding _ c.meet-met.new.file c.meet-met.result c.meet-met.ensures _ _ refl _ c.sp_column-k.ensures.0 refl _ c.clean_turn.ensures
    c.loop-number.invariant _ _ (c.in-Ok-Install.is ∙ ap Ok c.in-Ok-Install.field-0-is) _ c.install.ensures _ (never_interrupted _ _) _
    c.going_on.ensures

pub returns-in-Ok-Fatal : goal.returns-in-Ok-Fatal
returns-in-Ok-Fatal c =
    c.unchanged.ensures
    ∙ cleaning_fatal _ _ c.args.unwinding _ c.meet-met.new.file c.meet-met.result c.meet-met.ensures _ _ refl _ c.sp_column-k.ensures.0 refl _ c.clean_turn.ensures
    c.loop-number.invariant (c.in-Ok-Fatal.is ∙ ap Ok c.in-Ok-Fatal.field-0-is)

pub returns-in-Err : goal.returns-in-Err
returns-in-Err c =
    c.unchanged-in-Err.ensures
    ∙ cleaning_refused _ _ c.args.unwinding _ c.meet-met.new.file c.meet-met.result c.meet-met.ensures _ _ refl _ c.sp_column-k.ensures.0 refl _ c.clean_turn.ensures
    c.loop-number.invariant _ c.in-Err.is
