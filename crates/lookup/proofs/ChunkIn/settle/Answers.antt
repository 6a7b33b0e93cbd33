-- `lookup::ChunkIn::settle` meets its contract. Assumes nothing.
use mathlib.Core.Path.{refl, sym, ◌∙◌}
use Rattle.lookup.proofs.Records.{stands-start, stands-end, stands-record, holds-below, holds-above, holds-within}
use Rattle.lookup.proofs.Neighbours.{settle_left, settle_right, settle_not, settle-held}
use Rattle.lookup.proofs.Halving.{search-halved}
use Rattle.lookup.proofs.ChunkIn.settle.Goals as goal

pub returns-then-left_meets : goal.returns-then-left_meets
returns-then-left_meets c =
    let s = c.requires in
    (settle_left _ _ _ _ (sym (c.left_meets.ensures _ s) ∙ c.if-left_meets.true) ∙ search-halved _ _ _ _ refl, tt)

pub returns-then-right_meets : goal.returns-then-right_meets
returns-then-right_meets c =
    let s = c.requires in
    (settle_right _ _ _ _ (sym (c.right_meets.ensures _ s) ∙ c.if-right_meets.true) ∙ search-halved _ _ _ _ refl, tt)

pub returns-then-pc-start : goal.returns-then-pc-start
returns-then-pc-start c =
    let s = c.requires in (
      settle_not _ _ _ _
          (sym (c.left_meets.ensures _ s) ∙ c.if-left_meets.false)
          (sym (c.right_meets.ensures _ s) ∙ c.if-right_meets.false)
          (holds-below _ _ _ (c.start_at-start.ensures ∙ stands-start _ _ _ _ _ s) c.if-pc-start.true) ∙
          search-halved _ _ _ _ refl,
      tt,
    )

pub returns-then-end-pc : goal.returns-then-end-pc
returns-then-end-pc c =
    let s = c.requires in (
      settle_not _ _ _ _
          (sym (c.left_meets.ensures _ s) ∙ c.if-left_meets.false)
          (sym (c.right_meets.ensures _ s) ∙ c.if-right_meets.false)
          (holds-above _ _ _ (c.end_at-end.ensures ∙ stands-end _ _ _ _ _ s) c.if-end-pc.true) ∙
          search-halved _ _ _ _ refl,
      tt,
    )

pub returns : goal.returns
returns c =
    let s = c.requires in (
      settle-held _ _ _ _ _
          (sym (c.left_meets.ensures _ s) ∙ c.if-left_meets.false)
          (sym (c.right_meets.ensures _ s) ∙ c.if-right_meets.false)
          (holds-within _ _ _ _ (c.start_at-start.ensures ∙ stands-start _ _ _ _ _ s) (c.end_at-end.ensures ∙ stands-end _ _ _ _ _ s) c.if-pc-start.false c.if-end-pc.false)
          (stands-record _ _ _ _ _ s) ∙
          search-halved _ _ _ _ refl,
      record { index = _; stands = s },
    )
