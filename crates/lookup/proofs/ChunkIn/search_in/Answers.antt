-- `lookup::ChunkIn::search_in` meets its contract. Assumes nothing.
use mathlib.Core.Path.{◌∙◌}
use native.Mathlib.Omega.{arith}
use Rattle.lookup.proofs.Records.{first-stands, last-stands, stands-start, stands-end}
use Rattle.lookup.proofs.InRange.{range_empty, range_below, range_above, range_within, search_skips, search_goes}
use Rattle.lookup.proofs.ChunkIn.search_in.Goals as goal

pub returns-then-c-eq0 : goal.returns-then-c-eq0
returns-then-c-eq0 c = (search_skips _ _ _ _ (range_empty _ _ _ c.if-c-eq0.true), tt)

pub returns-then-pc-start_at : goal.returns-then-pc-start_at
returns-then-pc-start_at c =
    let first = first-stands c.args.self.now.chunk (omega arith) in
    (search_skips _ _ _ _ (range_below _ _ _ (rw (c.start_at.ensures ∙ stands-start _ _ _ _ _ first) at c.if-pc-start_at.true)), tt)

pub returns-then-end_at-pc : goal.returns-then-end_at-pc
returns-then-end_at-pc c =
    let last = last-stands c.args.self.now.chunk (omega arith) in
    (search_skips _ _ _ _ (range_above _ _ _ (rw (c.end_at.ensures ∙ stands-end _ _ _ _ _ last) at c.if-end_at-pc.true)), tt)

pub returns : goal.returns
returns c =
    let first = first-stands c.args.self.now.chunk (omega arith) in
    let last = last-stands c.args.self.now.chunk (omega arith) in
    let within =
    range_within _ _ _ c.if-c-eq0.false
    (rw (c.start_at.ensures ∙ stands-start _ _ _ _ _ first) at c.if-pc-start_at.false)
    (rw (c.end_at.ensures ∙ stands-end _ _ _ _ _ last) at c.if-end_at-pc.false) in
    (c.settle.ensures.0 ∙ search_goes _ _ _ _ within, c.settle.ensures.1)
