-- Laws of `InPlace`: what the status and the file that a call leaves say of its outcome. Assumes nothing.
use Rattle.std.proofs.Common.{◌≡◌, ℕ, List, Result, Ok, Err, ◌∙◌}
use Rattle.std.specs.Result.{IsErrAnd}
use Rattle.failure.proofs.Outcome.{exit}
use Rattle.failure.specs.Outcome.{Outcome, Refused, Answer}
use Rattle.failure.specs.Failure.{number}
use Rattle.failure.specs.declared.Failure.{Failure}
use Rattle.arch.specs.Answers.{InPlace}

-- the file that an answer leaves is the answer
pub place_done : (entry exit : List ℕ) (o : Outcome (List ℕ)) → o ≡ Answer exit → InPlace entry o (Ok tt) exit
place_done entry exit o e = record { status = rw e; file = rw e }

-- a refusal leaves the file as it was
pub place_refused : (entry : List ℕ) (o : Outcome (List ℕ)) (f : Failure) → o ≡ Refused (number f) → InPlace entry o (Err f) entry
place_refused entry o f e = record { status = rw e; file = rw e }

-- so does the exit of a `?`
pub place_exit : (entry : List ℕ) (o : Outcome (List ℕ)) (s : Result (Unit {0}) Failure) (f : Failure) →
    IsErrAnd s (λ e. e ≡ f) → o ≡ Refused (number f) → InPlace entry o s entry
place_exit entry o s f e p = record { status = exit s f e ∙ rw p; file = rw p }
