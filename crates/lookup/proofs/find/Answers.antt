-- `lookup::find` meets its contract. The invariant is `Looking`; the measure is the bytes that are left. Assumes nothing.
use Rattle.std.proofs.Common.{sym, ap, ◌∙◌, arith}
use Rattle.failure.specs.Outcome.{Answer}
use Rattle.lookup.proofs.Headers.{head_inside, head_chunk}
use Rattle.lookup.proofs.Turns.{looking_begin, looking_padding, looking_fault, looking_next, looking_unsorted, looking_held, looking_over, placed_exit}
use Rattle.lookup.proofs.find.Goals as goal

pub loop-k-init : goal.loop-k-init
loop-k-init c = looking_begin _ _ _ _

pub returns-in_err-head_at : goal.returns-in_err-head_at
returns-in_err-head_at c =
    placed_exit _ _ _ _ _ c.from_residual.ensures.1
    (looking_fault _ _ _ _ _ c.loop-k.invariant (omega arith) _ c.in_err-head_at.ensures)

pub loop-k-preserved-in-None : goal.loop-k-preserved-in-None
loop-k-preserved-in-None c =
    looking_padding _ _ _ _ _ c.loop-k.invariant (omega arith) (ap Answer (sym c.in-None.is) ∙ c.in_ok-head_at.ensures)

pub invariant_of-c : goal.invariant_of-c
invariant_of-c c =
    record { inside = (head_inside _ _ _ _ (sym c.in_ok-head_at.ensures ∙ ap Answer c.in-Some.is)).1 }

pub returns-in_err-at-in-Some : goal.returns-in_err-at-in-Some
returns-in_err-at-in-Some c =
    placed_exit _ _ _ _ _ c.from_residual-in_err-at-in-Some.ensures.1
    (looking_unsorted _ _ _ _ _ c.loop-k.invariant (omega arith) _ (ap Answer (sym c.in-Some.is) ∙ c.in_ok-head_at.ensures) _
    (rw c.in_err-at-in-Some.was at c.search_in.ensures.0))

pub place_tested-requires : goal.place_tested-requires
place_tested-requires c =
    (rw (c.in_ok-at-in-Some.was, c.in-Some-2.is) at c.search_in.ensures.1, head_chunk _ _ _ _ (sym c.in_ok-head_at.ensures ∙ ap Answer c.in-Some.is))

pub returns-in-Some-2 : goal.returns-in-Some-2
returns-in-Some-2 c =
    let held = rw (c.in_ok-at-in-Some.was, c.in-Some-2.is) at c.search_in.ensures.0 in (
      c.place_tested.ensures.0 ∙
          looking_held _ _ _ _ _ c.loop-k.invariant (omega arith) _ (ap Answer (sym c.in-Some.is) ∙ c.in_ok-head_at.ensures) _ held,
      c.place_tested.ensures.1,
    )

pub loop-k-preserved : goal.loop-k-preserved
loop-k-preserved c =
    looking_next _ _ _ _ _ c.loop-k.invariant (omega arith) _ (ap Answer (sym c.in-Some.is) ∙ c.in_ok-head_at.ensures)
    (rw (c.in_ok-at-in-Some.was, c.in_default.is) at c.search_in.ensures.0)

pub returns : goal.returns
returns c = (looking_over _ _ _ _ _ c.loop-k.invariant (omega arith), tt)
