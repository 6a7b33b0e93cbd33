-- `program::remember` meets its contract. Assumes nothing.
use Rattle.std.proofs.Common.{sym, ◌∙◌}
use Rattle.program.proofs.Loop.{remember_full, remember-on}
use Rattle.program.proofs.remember.Goals as goal

pub returns-then-depth-eq-MAX_REMEMBER-clause-turn : goal.returns-then-depth-eq-MAX_REMEMBER-clause-turn
returns-then-depth-eq-MAX_REMEMBER-clause-turn c =
    λ st states at len. remember_full (record { state = st; remembered = states; at = at }) (len ∙ c.if-depth-eq-MAX_REMEMBER.true)

pub returns-clause-turn : goal.returns-clause-turn
returns-clause-turn c =
    λ st states at len.
    remember-on (record { state = st; remembered = states; at = at }) (λ p. c.if-depth-eq-MAX_REMEMBER.false (sym len ∙ p))
