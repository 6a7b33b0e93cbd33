-- `leb::uleb_at` meets its contract: each turn adds a group to what was read so far. Assumes nothing.
use Rattle.std.proofs.Common.{sym, ◌∙◌, arith}
use Rattle.std.proofs.lemmas.Result.{err_from_is_err_and}
use Rattle.leb.proofs.Sofar.{begin, weight_bound, turn, ends, stops, over}
use Rattle.leb.proofs.Reader.{byte-read}
use Rattle.leb.proofs.uleb_at.Goals as goal

pub loop-init : goal.loop-init
loop-init c = begin _ _ _

pub with_group-v-requires : goal.with_group-v-requires
with_group-v-requires c =
    let s = c.loop.invariant in
    (s.small, weight_bound _ _ _ _ _ _ _ s (omega arith))

pub overflow_add-at : goal.overflow_add-at
overflow_add-at c = omega (arith, (byte-read _ _ _ _ (sym c.in_ok-b.ensures)).0)

pub returns-in_err-b : goal.returns-in_err-b
returns-in_err-b c =
    let x = err_from_is_err_and c.from_residual.result c.from_residual.ensures.1 in
    rw (x.1, x.2) (stops _ _ _ _ _ _ _ c.loop.invariant (omega arith) _ c.in_err-b.ensures)

pub returns-then-b-lt128 : goal.returns-then-b-lt128
returns-then-b-lt128 c =
    c.at_most_32_bits.ensures
    ∙ rw c.with_group-v.ensures.0
    (ends _ _ _ _ _ _ _ c.loop.invariant (omega arith) _ c.in_ok-b.ensures c.if-b-lt128.true)

pub overflow_mul-weight : goal.overflow_mul-weight
overflow_mul-weight c = omega (arith, weight_bound _ _ _ _ _ _ _ c.loop.invariant (omega arith))

pub loop-preserved : goal.loop-preserved
loop-preserved c =
    rw c.with_group-v.ensures.0
    (turn _ _ _ _ _ _ _ c.loop.invariant (omega arith) _ c.in_ok-b.ensures c.if-b-lt128.false (omega arith))

pub returns : goal.returns
returns c = over _ _ _ _ _ _ _ c.loop.invariant (omega arith)
