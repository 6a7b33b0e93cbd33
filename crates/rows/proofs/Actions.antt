-- What the numbers of actions are valid for. Assumes nothing.
use Rattle.std.proofs.Common.{◌≡◌, ℕ, ◌<◌, false, arith, ne_eqb}
use Rattle.rows.specs.Row.{valid, terminate}

-- no pad goes with a number of no action
pub no_action : (pad n : ℕ) → terminate < n → false ≡ valid pad n
unfolding valid
no_action pad n h =
    let zeroth : n ≡ 0 → ⊥ = λ e. omega arith in
    let first : n ≡ 1 → ⊥ = λ e. omega arith in
    let second : n ≡ 2 → ⊥ = λ e. omega arith in
    simp (ne_eqb n 0 zeroth, ne_eqb n 1 first, ne_eqb n 2 second)
