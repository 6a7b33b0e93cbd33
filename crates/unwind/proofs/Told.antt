-- The outcome that an answer tells of is demand 3's. Assumes nothing.
use mathlib.Core.Bool.{Bool}
use mathlib.Core.List.{List}
use mathlib.Core.Path.{◌≡◌, refl, ◌∙◌, ap}
use Prim.Native.Nat.{ℕ}
use Rattle.std.specs.Prelude.{Result, Ok, Err}
use Rattle.failure.specs.Outcome.{Outcome, Refused, Answer, Beside, outcome, map}
use Rattle.failure.specs.declared.Failure.{Failure}
use Rattle.mem.specs.Memory.{Lent}
use Rattle.model.specs.declared.Unwinding.{Unwinding}
use Rattle.model.specs.FrameStep.{Frame}
use Rattle.model.specs.Search.{Searched, Chosen, Stopped, Ended, told_by}
use Rattle.model.specs.Cleanup as Cleanup
use Rattle.model.specs.Cleanup.{Cleaned, Install, Fatal, Finished}
use Rattle.model.specs.Unwinding.{raise, raised, resume, frame_of}
use Rattle.model.specs.Machine.{arch_of}
use Rattle.model.specs.Demand.{answer_of}
use Rattle.model.specs.Call.{after, compared_as, machine_at, Throws, Sweeps, GivesNext}
use Rattle.model.proofs.Promised.{raise-throws, unwind-sweeps, gives-next}
use Rattle.unwind.specs.Answers.{searched, raise_as, raise_coded, raise_told, raised_by, raise_handed, Handed, resume_as, resume_coded, resume_told, file_of, resumed_by, resume_handed, cleaned_as, cleaned, call_with, call_number, Called, unwound_by, unwound_handed}
use Rattle.unwind.specs.declared.RaiseAnswer.{RaiseAnswer}
use Rattle.unwind.specs.declared.RaiseAnswer.TheVariants as answer
use Rattle.unwind.specs.declared.Raised.{Raised}
use Rattle.unwind.specs.declared.ResumeAnswer.{ResumeAnswer}
use Rattle.unwind.specs.declared.ResumeAnswer.TheVariants as swept
use Rattle.unwind.specs.declared.Resumed.{Resumed}
use Rattle.unwind.specs.declared.Unwound.{Unwound}

-- every outcome of a search has the number and values of demand 3's
told-search : (o : Outcome Searched) → raise_coded (map raise_as o) ≡ told_by o
told-search (Refused n) = refl
told-search (Answer (Chosen number sp)) = refl
told-search (Answer Stopped) = refl
told-search (Answer Ended) = refl

-- and a throw's answer has those of the outcome that it tells of
told-answer : (x : Result RaiseAnswer Failure) → raise_told x ≡ told_by (searched x)
told-answer (Ok (answer.Chosen number sp)) = refl
told-answer (Ok answer.Stopped) = refl
told-answer (Ok answer.Ended) = refl
told-answer (Err f) = refl

-- every outcome of a call has the number and values of demand 3's
told-resume : (file : List ℕ) (o : Outcome Cleaned) → resume_coded (map resume_as o) (file_of file o) ≡ Cleanup.told_by o
told-resume file (Refused n) = refl
told-resume file (Answer (Install number pad next)) = refl
told-resume file (Answer Fatal) = refl
told-resume file (Answer Finished) = refl

-- and a call's answer has those of the outcome that it tells of
told-swept : (x : Result ResumeAnswer Failure) (file : List ℕ) (next : Frame) →
    resume_told x file ≡ Cleanup.told_by (cleaned_as (outcome x) file next)
told-swept (Ok (swept.Install number)) file next = refl
told-swept (Ok swept.Fatal) file next = refl
told-swept (Ok swept.Finished) file next = refl
told-swept (Err f) file next = refl

-- and it tells of the outcome of which it hands back what it hands back
tells-call : (u : Unwinding) (o : Outcome Cleaned) (r : Resumed) → resume_handed r ≡ resumed_by u o → cleaned r ≡ o
tells-call u o r is =
    ap (λ (b : Beside ResumeAnswer Handed). cleaned_as b.answer b.state.file (frame_of b.state.unwinding)) is ∙ go o
  where
    go : (o : Outcome Cleaned) →
        cleaned_as (resumed_by u o).answer (resumed_by u o).state.file (frame_of (resumed_by u o).state.unwinding) ≡ o
    go (Refused n) = refl
    go (Answer (Install number file next)) = refl
    go (Answer Fatal) = refl
    go (Answer Finished) = refl

-- demand 3, of what a throw hands back
pub told-throw : (l : Lent) (arch : ℕ) (file : List ℕ) (pc : ℕ) (interrupted : Bool) (exception : ℕ) (r : Raised) →
    raise_handed r ≡ raised_by file pc interrupted exception (raise l arch file pc interrupted) →
    (raise_handed r ≡ raised_by file pc interrupted exception (raise l arch file pc interrupted))
    × (raise_told r.answer ≡ told_by (raise l arch file pc interrupted))
    × Throws l arch file pc interrupted (raise_told r.answer)
told-throw l arch file pc interrupted exception r is =
    let told : raise_told r.answer ≡ told_by (raise l arch file pc interrupted) =
    told-answer r.answer ∙ ap (λ (b : Beside Searched Unwinding). told_by b.answer) is in
    (is, told, λ a. told ∙ raise-throws l arch file pc interrupted a)

-- demand 3, of what a sweep call hands back
pub told-next : (l : Lent) (arch : ℕ) (u : Unwinding) (r : Resumed) → resume_handed r ≡ resumed_by u (resume l arch u) →
    (resume_handed r ≡ resumed_by u (resume l arch u))
    × (resume_told r.answer r.regs.r ≡ Cleanup.told_by (resume l arch u))
    × GivesNext (call_with l arch u) (cleaned r)
unfolding answer_of
told-next l arch u r is =
    let same : cleaned r ≡ resume l arch u = tells-call u (resume l arch u) r is in (
      is,
      told-swept r.answer r.regs.r (frame_of r.unwinding) ∙ ap Cleanup.told_by same,
      λ a. ap (compared_as (arch_of (machine_at a.thrown))) same ∙ gives-next (call_with l arch u) a,
    )

-- the throw and the call, put together
pub together : (n : ℕ) (l : Lent) (arch : ℕ) (file : List ℕ) (pc : ℕ) (interrupted : Bool) (exception : ℕ) (x : Raised) →
    raise_handed x ≡ raised_by file pc interrupted exception (raise l arch file pc interrupted) → (y : Resumed) →
    resume_handed y ≡ call_number n l arch x.unwinding →
    unwound_handed (record { raised = x.answer; resumed = y }) ≡ unwound_by n l arch file pc interrupted exception
together n l arch file pc interrupted exception x p y q =
    ap (λ (b : Beside ResumeAnswer Handed). record { raised = searched x.answer; resumed = b }) q
    ∙ ap (λ (b : Beside Searched Unwinding). record { raised = b.answer; resumed = call_number n l arch b.state }) p

-- demand 3, of what both hand back
pub unwound : (n : ℕ) (l : Lent) (arch : ℕ) (file : List ℕ) (pc : ℕ) (interrupted : Bool) (exception : ℕ) (r : Unwound) →
    unwound_handed r ≡ unwound_by n l arch file pc interrupted exception →
    Throws l arch file pc interrupted (raise_told r.raised) × Sweeps l arch file pc interrupted n (cleaned r.resumed)
unwound n l arch file pc interrupted exception r is =
    let u = after n l arch (raised file pc interrupted exception (raise l arch file pc interrupted)) in (
      λ a.
          told-answer r.raised ∙ ap (λ (c : Called). told_by c.raised) is
          ∙ raise-throws l arch file pc interrupted a,
      λ a.
          ap (compared_as (arch_of (machine_at a.thrown))) (tells-call u (resume l arch u) r.resumed (ap (λ (c : Called). c.resumed) is))
          ∙ unwind-sweeps l arch file pc interrupted exception n a,
    )
