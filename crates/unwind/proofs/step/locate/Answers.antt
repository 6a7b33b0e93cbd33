-- `unwind::step::locate` meets its contract. Assumes nothing.
use Rattle.std.proofs.Common.{◌∙◌, ap, sym}
use Rattle.failure.specs.Outcome.{Answer}
use Rattle.failure.proofs.Outcome.{exit}
use Rattle.unwind.proofs.Walks.{record-end, record_29, record-looked}
use Rattle.unwind.proofs.step.locate.Goals as goal

pub returns-then-pc-eq0 : goal.returns-then-pc-eq0
returns-then-pc-eq0 c = λ stack base. record-end _ _ _ _ _ c.if-pc-eq0.true

pub returns-then-number-ge-MAX_FRAMES : goal.returns-then-number-ge-MAX_FRAMES
returns-then-number-ge-MAX_FRAMES c = λ stack base. record_29 _ _ _ _ _ c.if-pc-eq0.false c.if-number-ge-MAX_FRAMES.true

pub returns-in_err-found : goal.returns-in_err-found
returns-in_err-found c =
    λ stack base.
    exit _ _ c.from_residual.ensures.1
    ∙ record-looked _ _ _ _ _ c.if-pc-eq0.false c.if-number-ge-MAX_FRAMES.false _ c.looked_up.ensures _ c.in_err-found.ensures

pub returns-in-Some : goal.returns-in-Some
returns-in-Some c =
    λ stack base.
    record-looked _ _ _ _ _ c.if-pc-eq0.false c.if-number-ge-MAX_FRAMES.false _ c.looked_up.ensures _
    (ap Answer (sym c.in-Some.is) ∙ c.in_ok-found.ensures)

pub returns-in-None : goal.returns-in-None
returns-in-None c =
    λ stack base.
    record-looked _ _ _ _ _ c.if-pc-eq0.false c.if-number-ge-MAX_FRAMES.false _ c.looked_up.ensures _
    (ap Answer (sym c.in-None.is) ∙ c.in_ok-found.ensures)
