-- `mem::Memory::place_of` meets its contract: each test says which case of `place_of` holds. Assumes nothing.
use Rattle.std.proofs.Common.{sym, ◌∙◌}
use Rattle.mem.specs.Place.{place_of}
use Rattle.mem.proofs.Place.{holds_range}
use Rattle.mem.proofs.Memory.place_of.Goals as goal

pub overflow_sub-result : goal.overflow_sub-result
overflow_sub-result c = (holds_range _ _ _ _ (sym c.holds.ensures ∙ c.if-holds.true)).0

pub returns-then-holds : goal.returns-then-holds
unfolding place_of
returns-then-holds c = simp (sym c.holds.ensures ∙ c.if-holds.true)

pub overflow_sub-result-then-holds-2 : goal.overflow_sub-result-then-holds-2
overflow_sub-result-then-holds-2 c = (holds_range _ _ _ _ (sym c.holds-2.ensures ∙ c.if-holds-2.true)).0

pub returns-then-holds-2 : goal.returns-then-holds-2
unfolding place_of
returns-then-holds-2 c =
    simp (sym c.holds.ensures ∙ c.if-holds.false, sym c.holds-2.ensures ∙ c.if-holds-2.true)

pub returns : goal.returns
unfolding place_of
returns c =
    simp (sym c.holds.ensures ∙ c.if-holds.false, sym c.holds-2.ensures ∙ c.if-holds-2.false)
