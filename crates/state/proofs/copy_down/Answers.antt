-- `state::copy_down` meets its contract. Assumes nothing.
use Rattle.std.proofs.Common.{ℕ, get_or, arith, ap, ◌≡◌, ◌+◌, ◌-◌, ◌∙◌}
use Rattle.state.proofs.Restore.{copied_down}
use Rattle.state.proofs.copy_down.Goals as goal

pub returns : goal.returns
returns c =
    let x = c.args in
    let (copied, below, past) = c.copy_within.ensures.by_index in
    copied_down (x.last - x.i) x.i x.a.now _ (omega arith) c.copy_within.ensures.len (λ k h. below k 0 h)
    (λ k h l. let next : x.i + 1 + (k - x.i) ≡ k + 1 = omega arith in copied k 0 h (omega arith) ∙ ap (λ (j : ℕ). get_or x.a.now j 0) next)
    (λ k h. past k 0 (omega arith))
