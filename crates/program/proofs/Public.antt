-- Laws of the public `run`. Assumes nothing.
use mathlib.Core.Path.{◌≡◌, refl, sym}
use mathlib.Core.Bool.{true, false}
use Prim.Native.Nat.{ℕ}
use Rattle.failure.specs.Outcome.{Outcome, Refused}
use Rattle.failure.specs.Failure.{BadOpening}
use Rattle.mem.specs.Memory.{Lent}
use Rattle.mem.specs.Opening.{opens}
use Rattle.arch.specs.Arch.{numbers, is_known}
use Rattle.arch.proofs.Known.{unknown_refused, known_goes_on}
use Rattle.state.specs.declared.State.{State}
use Rattle.program.specs.Run as Run
use Rattle.program.specs.Run.{Ran}
use Rattle.program.specs.Answers.{ended}
use Rattle.program.specs.Public.{run}

module _ (l : Lent) (arch program limit off : ℕ) where
  -- what is lent is not accepted
  pub run_closed : opens l ≡ false → run l arch program limit off ≡ Refused BadOpening
  unfolding run
  run_closed e = rw e

  -- an unknown architecture
  pub run_unknown : opens l ≡ true → is_known arch ≡ false → run l arch program limit off ≡ Refused BadOpening
  unfolding run
  run_unknown e u = rw e (sym (unknown_refused (λ a. Run.run l.regions a program limit off) arch u))

  -- neither: the run
  pub run-opened :
      opens l ≡ true → is_known arch ≡ true → Run.run l.regions (numbers arch) program limit off ≡ run l arch program limit off
  unfolding run
  run-opened e k = rw e (known_goes_on (λ a. Run.run l.regions a program limit off) arch _ k refl)

-- a run that was refused with 28, as it is handed back
pub run_refused :
    (entry st : State) (o : Outcome Ran) → st ≡ entry → o ≡ Refused BadOpening →
    record { status = Refused BadOpening; state = st; after = 0 } ≡ ended entry o
run_refused entry st o e p = rw (p, e)
