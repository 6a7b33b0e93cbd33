-- Laws of `Changes`: what the status and the state that a call hands back say of the change. Assumes nothing.
use Rattle.std.proofs.Common.{◌≡◌, ℕ, Bool, true, false, Result, Ok, Err, subst, refl, sym, ap, if◌then◌else◌}
use Rattle.std.specs.Result.{IsErrAnd}
use Rattle.failure.specs.Outcome.{Outcome, map, Refused, Answer, outcome, settled}
use Rattle.failure.specs.Failure as numbered
use Rattle.failure.specs.Failure.{number}
use Rattle.failure.specs.declared.Failure.{Failure}
use Rattle.failure.specs.declared.Failure.TheVariants as failure
use Rattle.failure.proofs.Outcome as Outcome
use Rattle.failure.proofs.Outcome.{answer-refused}
use Rattle.arch.specs.Arch.{numbers, is_known, known}
use Rattle.arch.proofs.Known.{known_settled, unknown_settled}
use Rattle.state.specs.declared.State.{State}
use Rattle.state.specs.State as State
use Rattle.state.specs.Save.{Change, Done, BadOpening}
use Rattle.state.specs.Public.{entry}
use Rattle.state.specs.Answers.{changed, handed_back, Changes}

-- the state that an answer leaves is the answer
pub change_done : (came left : State) (x : Change) → Answer left ≡ changed x → Changes came x (Ok tt) left
change_done came left x e = record { status = rw (← e) refl; state = rw (← e) refl }

-- the exit of a `?` hands back the state that came in
pub change_exit : (came : State) (x : Change) (s : Result (Unit {0}) Failure) (f : Failure) → IsErrAnd s (λ e. e ≡ f) →
    Refused (number f) ≡ changed x → Changes came x s came
change_exit came x s f e p = record { status = rw (← p) (Outcome.exit s f e); state = rw (← p) refl }

-- a refusal leaves the state that came in
pub change_refused : (came : State) (x : Change) (f : Failure) → Refused (number f) ≡ changed x → Changes came x (Err f) came
change_refused came x f p = record { status = rw (← p) refl; state = rw (← p) refl }

-- the same of a change that is another
pub change_same : (came left : State) (x y : Change) (s : Result (Unit {0}) Failure) → x ≡ y → Changes came x s left → Changes came y s left
change_same came left x y s e p = subst (λ (z : Change). Changes came z s left) e p

-- the change's outcome, with the state that is left
pub changed_to : (came left : State) (x : Change) (s : Result (Unit {0}) Failure) → Changes came x s left →
    map (λ u. left) (outcome s) ≡ changed x
changed_to came left x s p = go (changed x) p.status p.state
  where
    go : (o : Outcome State) → outcome s ≡ settled o → left ≡ handed_back came o → map (λ u. left) (outcome s) ≡ o
    go (Refused n) e q = rw e refl
    go (Answer y) e q = rw (e, q) refl

-- a change that is made on a known architecture, and on an unknown one refused with 28
module _ (arch : ℕ) where
  pub known_change : (x : Change) → Answer tt ≡ settled (known arch) → x ≡ (if is_known arch then x else BadOpening)
  unfolding known
  known_change x e = go (is_known arch) e
    where
      go : (t : Bool) → Answer tt ≡ settled (if t then Answer (numbers arch) else Refused numbered.BadOpening) → x ≡ (if t then x else BadOpening)
      go true e = refl
      go false e = answer-refused tt numbered.BadOpening e

  pub unknown_change : (n : ℕ) (x : Change) → Refused n ≡ settled (known arch) → Refused n ≡ changed (if is_known arch then x else BadOpening)
  unfolding known
  unknown_change n x e = go (is_known arch) e
    where
      go : (t : Bool) → Refused n ≡ settled (if t then Answer (numbers arch) else Refused numbered.BadOpening) →
          Refused n ≡ changed (if t then x else BadOpening)
      go true e = answer-refused tt n (sym e)
      go false e = let same : n ≡ numbered.BadOpening = cc in ap Refused same

  -- the entry state
  pub entry_changes : (s : Result (Unit {0}) Failure) (st : State) → outcome s ≡ settled (known arch) → st ≡ State.entry (numbers arch) →
      Changes (State.entry (numbers arch)) (entry arch) s st
  unfolding entry known
  entry_changes s st e p = go (is_known arch) e
    where
      go : (t : Bool) → outcome s ≡ settled (if t then Answer (numbers arch) else Refused numbered.BadOpening) →
          Changes (State.entry (numbers arch)) (if t then Done (State.entry (numbers arch)) else BadOpening) s st
      go true e = record { status = e; state = p }
      go false e = record { status = e; state = p }

  -- of an unknown and of a known architecture
  pub entry_unknown : (st : State) → is_known arch ≡ false → st ≡ State.entry (numbers arch) →
      Changes (State.entry (numbers arch)) (entry arch) (Err failure.BadOpening) st
  entry_unknown st e p = entry_changes (Err failure.BadOpening) st (unknown_settled arch e) p

  pub entry_known : (st : State) → is_known arch ≡ true → st ≡ State.entry (numbers arch) →
      Changes (State.entry (numbers arch)) (entry arch) (Ok tt) st
  entry_known st e p = entry_changes (Ok tt) st (known_settled arch e) p
