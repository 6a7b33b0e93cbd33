-- Laws of `Partly`. Assumes nothing.
use Rattle.std.proofs.Common.{◌≡◌, ℕ, List, Result, Ok, Err, refl, sym, ◌∙◌, ap}
use Rattle.std.specs.Result.{IsErrAnd}
use Rattle.failure.proofs.Outcome.{exit, answer-refused}
use Rattle.failure.specs.Outcome.{Outcome, Refused, Answer, outcome}
use Rattle.failure.specs.Failure.{number}
use Rattle.failure.specs.declared.Failure.{Failure}
use Rattle.arch.specs.Answers.{InPlace}
use Rattle.frame.specs.Answers.{Partly}

-- the file is the answer
pub partly_done : (o : Outcome (List ℕ)) (exit : List ℕ) → o ≡ Answer exit → Partly o (Ok tt) exit
partly_done o exit e =
    record {
      status = rw e;
      file = λ next p. let q : Answer exit ≡ Answer next = sym e ∙ p in cc;
    }

-- the exit of a `?` says nothing of the file
pub partly_exit :
    (o : Outcome (List ℕ)) (s : Result (Unit {0}) Failure) (f : Failure) (exit : List ℕ) → IsErrAnd s (λ e. e ≡ f) → o ≡ Refused (number f) →
    Partly o s exit
partly_exit o s f file e p =
    record {
      status = exit s f e ∙ rw p;
      file = λ next q. answer-refused next (number f) (sym q ∙ p);
    }

-- done: the outcome is the file
pub done_partly : (o : Outcome (List ℕ)) (s : Result (Unit {0}) Failure) (exit : List ℕ) → Partly o s exit → s ≡ Ok tt → o ≡ Answer exit
done_partly (Answer next) s exit p e = ap Answer (sym (p.file next refl))
done_partly (Refused n) s exit p e =
    let q : ◌≡◌ {A = Outcome (Unit {0})} (Answer tt) (Refused n) = sym (ap outcome e) ∙ p.status in
    answer-refused tt n q

-- refused: the outcome is that refusal
pub refused_partly :
    (o : Outcome (List ℕ)) (s : Result (Unit {0}) Failure) (exit : List ℕ) (f : Failure) → Partly o s exit → s ≡ Err f → o ≡ Refused (number f)
refused_partly (Answer next) s exit f p e =
    let q : ◌≡◌ {A = Outcome (Unit {0})} (Refused (number f)) (Answer tt) = sym (ap outcome e) ∙ p.status in
    answer-refused tt (number f) (sym q)
refused_partly (Refused k) s exit f p e =
    let q : ◌≡◌ {A = Outcome (Unit {0})} (Refused (number f)) (Refused k) = sym (ap outcome e) ∙ p.status in
    cc

-- of equal outcomes a call comes to either
module _ (o o' : Outcome (List ℕ)) (e : o ≡ o') (s : Result (Unit {0}) Failure) (exit : List ℕ) where
  pub partly_as : Partly o s exit → Partly o' s exit
  partly_as p = rw (← e) p

  pub place_as : (entry : List ℕ) → InPlace entry o s exit → InPlace entry o' s exit
  place_as entry p = rw (← e) p

-- where nothing is refused, a call that stores as it goes comes to the outcome
pub partly_answered :
    (entry : List ℕ) (o : Outcome (List ℕ)) (s : Result (Unit {0}) Failure) (exit next : List ℕ) → o ≡ Answer next → Partly o s exit →
    InPlace entry o s exit
partly_answered entry o s exit next e p = record { status = p.status; file = p.file next e ∙ rw e }
