-- `mem::Memory::bytes_at` meets its contract: each arm lends the part at the place that `place_of` names. Assumes nothing.
use Rattle.std.proofs.Common.{sym, ap, ◌∙◌, arith}
use Rattle.mem.specs.Place.{placed}
use Rattle.mem.proofs.Place.{place_found}
use Rattle.mem.proofs.Part.{lends_part}
use Rattle.mem.proofs.Memory.bytes_at.Goals as goal

pub overflow_add-result : goal.overflow_add-result
overflow_add-result c =
    let told = sym c.place_of.ensures ∙ ap placed c.in-Section.is in
    omega (arith, (place_found _ _ _ _ told).0)

pub slice_bounds-result-end : goal.slice_bounds-result-end
slice_bounds-result-end c =
    let told = sym c.place_of.ensures ∙ ap placed c.in-Section.is in
    omega (arith, (place_found _ _ _ _ told).0)

pub overflow_add-result-in-Stack : goal.overflow_add-result-in-Stack
overflow_add-result-in-Stack c =
    let told = sym c.place_of.ensures ∙ ap placed c.in-Stack.is in
    omega (arith, (place_found _ _ _ _ told).0)

pub slice_bounds-result-end-in-Stack : goal.slice_bounds-result-end-in-Stack
slice_bounds-result-end-in-Stack c =
    let told = sym c.place_of.ensures ∙ ap placed c.in-Stack.is in
    omega (arith, (place_found _ _ _ _ told).0)

pub returns-in-Section : goal.returns-in-Section
returns-in-Section c =
    rw (sym c.place_of.ensures ∙ ap placed c.in-Section.is)
    (lends_part _ _ _)

pub returns-in-Stack : goal.returns-in-Stack
returns-in-Stack c =
    rw (sym c.place_of.ensures ∙ ap placed c.in-Stack.is)
    (lends_part _ _ _)

pub returns-in-Neither : goal.returns-in-Neither
returns-in-Neither c =
    rw (sym c.place_of.ensures ∙ ap placed c.in-Neither.is)
    (lends_part _ 0 0)
