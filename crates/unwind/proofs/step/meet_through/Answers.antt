-- `unwind::step::meet_through` meets its contract. Assumes nothing.
use Rattle.std.proofs.Common.{◌≡◌, ℕ, Result, Ok, ap, ◌∙◌, sym, refl}
use Rattle.failure.specs.declared.Failure.{Failure}
use Rattle.failure.specs.Outcome.{outcome, map}
use Rattle.failure.proofs.Outcome.{exit_as}
use Rattle.mem.specs.Given.{lent_by}
use Rattle.arch.specs.Arch.{numbers}
use Rattle.arch.specs.File.{pc}
use Rattle.program.specs.Answers.{Runs}
use Rattle.model.specs.FrameStep as Walk
use Rattle.model.specs.FrameStep.{looked_up, caller_of, caller_file, past}
use Rattle.unwind.specs.Answers.{frame_with}
use Rattle.unwind.specs.Turns.{file_told}
use Rattle.unwind.proofs.Walks.{record_bounds, in_place_told, caller_2, past_refused, past_tested}
use Rattle.unwind.proofs.Meeting.{meets_refused, meets_row, meets_rowless_refused, ran-applied, ran_refused, end_row, end_refused, row_2}
use Rattle.unwind.proofs.step.meet_through.Goals as goal
use Rattle.unwind.proofs.step.meet_through.Goals.{After-looked_up, After-apply_into, After-advancing}

-- looked up is the frame's own address
looked : (c : After-looked_up) → c.looked_up.result ≡ looked_up c.args.interrupted (pc c.args.file.now)
looked c = c.looked_up.ensures ∙ ap (λ (k : ℕ). looked_up c.args.interrupted k) c.requires.0

-- the caller's registers, by a run that was not refused, and apply
applied : (c : After-apply_into) → c.run_through-through.result.status ≡ Ok tt →
    file_told c.apply_into.result c.apply_into.new.file
    ≡ caller_file (numbers c.args.arch) (lent_by c.args.memory.now).regions c.args.interrupted c.args.«record» c.looked_up.result c.args.file.now
applied c ran =
    in_place_told _ _ _ _ c.apply_into.ensures
    ∙ ran-applied _ _ _ _ _ _ _ _ _ c.run_through-through.ensures (ap outcome ran)
    ∙ caller_2 _ _ _ _ _ _ c.requires.3 _ c.offset_from-off.ensures

-- past the frame, by the test for 20
tested : (c : After-advancing) → c.run_through-through.result.status ≡ Ok tt → (v : Result (Unit {0}) Failure) → c.advancing.result ≡ v →
    map
    (λ x.
    Walk.Past c.args.«record»
    (caller_of (lent_by c.args.memory.now) (frame_with c.args.number c.args.interrupted c.args.file.now) c.apply_into.new.file))
    (outcome v)
    ≡ past (numbers c.args.arch) (lent_by c.args.memory.now) (frame_with c.args.number c.args.interrupted c.args.file.now) c.args.«record»
tested c ran v p =
    let at = goal.at.After-advancing c in
    let file = ap (λ (s : Result (Unit {0}) Failure). file_told s c.apply_into.new.file) (sym c.in_ok-apply_into.was) ∙ applied at.After-apply_into ran in
    past_tested _ _ _ _ _ (looked at.After-looked_up) _ file _ c.sp_column-k.ensures.0 v (ap outcome (sym p) ∙ c.advancing.ensures)

pub looked_up-requires : goal.looked_up-requires
looked_up-requires c = (record_bounds _ _ _ _ _ _ c.requires.1).0

pub returns-in_err-through : goal.returns-in_err-through
returns-in_err-through c =
    exit_as _ _ _ c.from_residual.ensures.1
    ∙ meets_refused _ _ _ _ _ c.requires.0 c.requires.1 _ _
    (past_refused _ _ _ _ _ (looked (goal.at.returns-in_err-through c).After-looked_up) _
    (ran_refused _ _ _ _ _ _ _ _ _ c.run_through-through.ensures _ (ap outcome c.in_err-through.was)
    ∙ caller_2 _ _ _ _ _ _ c.requires.3 _ c.offset_from-off.ensures))

pub returns-in_err-apply_into : goal.returns-in_err-apply_into
returns-in_err-apply_into c =
    let at = goal.at.returns-in_err-apply_into c in
    exit_as _ _ _ c.from_residual-in_err-apply_into.ensures.1
    ∙ meets_refused _ _ _ _ _ c.requires.0 c.requires.1 _ _
    (past_refused _ _ _ _ _ (looked at.After-looked_up) _
    (ap (λ (s : Result (Unit {0}) Failure). file_told s c.apply_into.new.file) (sym c.in_err-apply_into.was) ∙ applied at.After-apply_into c.in_ok-through.was))

pub returns-in_err-advancing : goal.returns-in_err-advancing
returns-in_err-advancing c =
    exit_as _ _ _ c.from_residual-in_err-advancing.ensures.1
    ∙ meets_refused _ _ _ _ _ c.requires.0 c.requires.1 _ _
    (tested (goal.at.returns-in_err-advancing c).After-advancing c.in_ok-through.was _ c.in_err-advancing.was)

pub returns-in_err-through-2 : goal.returns-in_err-through-2
returns-in_err-through-2 c =
    let passed = tested (goal.at.returns-in_err-through-2 c).After-advancing c.in_ok-through.was _ c.in_ok-advancing.was in
    exit_as _ _ _ c.from_residual-in_err-through-2.ensures.1
    ∙ meets_rowless_refused _ _ _ _ _ c.requires.0 c.requires.1 _ _ passed refl _
    (row_2 _ _ _ _ _ c.requires.2 c.requires.3 _
    (end_refused _ _ _ _ _ refl _ (ap (λ (x : Runs). x.end) c.run_through-through.ensures) _ (sym (ap outcome c.in_err-through-2.was))))

pub returns-in_err-row : goal.returns-in_err-row
returns-in_err-row c =
    let passed = tested (goal.at.returns-in_err-row c).After-advancing c.in_ok-through.was _ c.in_ok-advancing.was in
    exit_as _ _ _ c.from_residual-in_err-row.ensures.1
    ∙ meets_rowless_refused _ _ _ _ _ c.requires.0 c.requires.1 _ _ passed refl _
    (row_2 _ _ _ _ _ c.requires.2 c.requires.3 _
    ((rw c.return_offset-ret.ensures at c.in_err-row.ensures) ∙ end_row _ _ _ _ _ refl _ (ap (λ (x : Runs). x.end) c.run_through-through.ensures) _ (sym (ap outcome c.in_ok-through-2.was))))

pub returns : goal.returns
returns c =
    let passed = tested (goal.at.returns c).After-advancing c.in_ok-through.was _ c.in_ok-advancing.was in
    meets_row _ _ _ _ _ c.requires.0 c.requires.1 _ _ passed refl _
    (row_2 _ _ _ _ _ c.requires.2 c.requires.3 _
    ((rw c.return_offset-ret.ensures at c.in_ok-row.ensures) ∙ end_row _ _ _ _ _ refl _ (ap (λ (x : Runs). x.end) c.run_through-through.ensures) _ (sym (ap outcome c.in_ok-through-2.was))))
    _ c.met_row.ensures
