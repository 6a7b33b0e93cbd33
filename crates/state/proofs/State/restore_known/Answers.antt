-- `state::State::restore_known` meets its contract. Assumes nothing.
use Rattle.state.specs.Public.{restore}
use Rattle.state.proofs.Changes.{change_exit, change_same, known_change, unknown_change}
use Rattle.state.proofs.State.restore_known.Goals as goal

pub returns-in_err-require_known : goal.returns-in_err-require_known
unfolding restore
returns-in_err-require_known c =
    change_exit _ _ _ _ c.from_residual.ensures.1 (unknown_change _ _ _ c.in_err-require_known.ensures)

pub returns : goal.returns
unfolding restore
returns c = change_same _ _ _ _ _ (known_change _ _ c.in_ok-require_known.ensures) c.restore_in.ensures
