-- `unwind::step::meet_at` meets its contract. Assumes nothing.
use Rattle.std.proofs.Common.{◌≡◌, ℕ, true, false, ap, ◌∙◌, sym}
use Rattle.failure.proofs.Outcome.{exit_as}
use Rattle.model.specs.FrameStep.{looked_up}
use Rattle.personality.specs.Reason.{rowless}
use Rattle.unwind.proofs.Walks.{record_bounds}
use Rattle.unwind.proofs.Meeting.{asked-rows, not_both, seen-asked, meets_refused, meets_unasked, meets_row, meets_rowless_refused, row_1}
use Rattle.unwind.proofs.step.meet_at.Goals as goal
use Rattle.unwind.proofs.step.meet_at.Goals.{After-asked-row_asked, After-past, then-row_asked+else-record-eq-VERSION2, else-row_asked}

-- a row is asked for, and the frame may have one
wanted : (c : After-asked-row_asked) → c.asked-row_asked.result ≡ true →
    (c.args.rows ≡ true) × (rowless c.args.interrupted c.args.«record» c.args.pc ≡ false)
wanted c e = asked-rows c.args.rows c.args.interrupted c.args.«record» c.args.pc _ c.asked-row_asked.ensures e

-- its version is not 2: those of version 2 have gone another way
other : (c : After-past) → c.asked-row_asked.result ≡ true → c.args.«record».version ≡ 2 → ⊥
other c e =
    elim c.if-row_asked.branch [
      | then-row_asked+else-record-eq-VERSION2 w ↦ w.if-record-eq-VERSION2.false
      | else-row_asked w ↦ absurd (not_both _ e w.if-row_asked.false)
    ]

pub meet_through-requires : goal.meet_through-requires
meet_through-requires c =
    let may = wanted (goal.at.meet_through-requires c).After-asked-row_asked c.if-row_asked.true in
    (c.requires.0, c.requires.1, may.1, c.if-record-eq-VERSION2.true)

pub returns-then-record-eq-VERSION2 : goal.returns-then-record-eq-VERSION2
returns-then-record-eq-VERSION2 c =
    let may = wanted (goal.at.returns-then-record-eq-VERSION2 c).After-asked-row_asked c.if-row_asked.true in
    seen-asked _ _ _ _ may.0 _ c.meet_through.ensures

pub looked_up-at-requires : goal.looked_up-at-requires
looked_up-at-requires c = (record_bounds _ _ _ _ _ _ c.requires.1).0

pub past-requires : goal.past-requires
past-requires c = c.looked_up-at.ensures ∙ ap (λ (p : ℕ). looked_up c.args.interrupted p) c.requires.0

pub returns-in_err-past : goal.returns-in_err-past
returns-in_err-past c =
    exit_as _ _ _ c.from_residual.ensures.1 ∙ meets_refused _ _ _ _ _ c.requires.0 c.requires.1 _ _ c.in_err-past.ensures

pub returns-then-not-row_asked : goal.returns-then-not-row_asked
returns-then-not-row_asked c =
    meets_unasked _ _ _ _ _ c.requires.0 c.requires.1 _ _ c.in_ok-past.ensures (sym c.asked-row_asked.ensures ∙ c.if-not-row_asked.true)

pub returns-in_err-row : goal.returns-in_err-row
returns-in_err-row c =
    let at = goal.at.returns-in_err-row c in
    let e = c.if-not-row_asked.false in
    let may = wanted at.After-asked-row_asked e in
    exit_as _ _ _ c.from_residual-in_err-row.ensures.1
    ∙ meets_rowless_refused _ _ _ _ _ c.requires.0 c.requires.1 _ _ c.in_ok-past.ensures may.0 _
    (row_1 _ _ _ _ _ may.1 (other at.After-past e) _ (rw c.return_offset.ensures at c.in_err-row.ensures))

pub returns : goal.returns
returns c =
    let at = goal.at.returns c in
    let e = c.if-not-row_asked.false in
    let may = wanted at.After-asked-row_asked e in
    meets_row _ _ _ _ _ c.requires.0 c.requires.1 _ _ c.in_ok-past.ensures may.0 _
    (row_1 _ _ _ _ _ may.1 (other at.After-past e) _ (rw c.return_offset.ensures at c.in_ok-row.ensures))
    _ c.met_row.ensures
