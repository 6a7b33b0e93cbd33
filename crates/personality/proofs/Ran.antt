-- What a run's answer says of the run. Assumes nothing.
use Rattle.std.proofs.Common.{◌≡◌, Ok, Err, sym, ◌∙◌, ap}
use Rattle.failure.specs.Outcome.{Outcome, Refused, Answer, outcome}
use Rattle.failure.specs.Failure.{number}
use Rattle.failure.specs.declared.Failure.{Failure}
use Rattle.failure.proofs.Outcome.{answer-refused}
use Rattle.state.specs.declared.State.{State}
use Rattle.program.specs.Run.{Ran}
use Rattle.program.specs.Answers.{Given, given, ended}
use Rattle.program.specs.declared.Ended.{Ended}

module _ (entry : State) (o : Outcome Ran) (r : Ended) (e : given r ≡ ended entry o) where
  status : outcome r.status ≡ (ended entry o).status
  status = ap (λ (x : Given). x.status) e

pub ran_done : (entry : State) (o : Outcome Ran) (r : Ended) → given r ≡ ended entry o → r.status ≡ Ok tt →
    o ≡ Answer (record { state = r.state; after = r.after })
ran_done entry (Refused n) r e d = answer-refused tt n (sym (ap outcome d) ∙ status entry (Refused n) r e)
ran_done entry (Answer ran) r e d = ap Answer (sym (ap (λ (x : Given). record { state = x.state; after = x.after }) e))

pub ran_refused : (entry : State) (o : Outcome Ran) (r : Ended) → given r ≡ ended entry o → (f : Failure) → r.status ≡ Err f →
    o ≡ Refused (number f)
ran_refused entry (Refused m) r e f d =
    let s : Refused m ≡ outcome (Err f) = sym (status entry (Refused m) r e) ∙ ap outcome d in
    let same : m ≡ number f = cc in
    ap Refused same
ran_refused entry (Answer ran) r e f d = answer-refused tt (number f) (sym (status entry (Answer ran) r e) ∙ ap outcome d)
