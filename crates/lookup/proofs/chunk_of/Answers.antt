-- `lookup::chunk_of` meets its contract: it lends the chunk that `lookup_arch` names. Assumes nothing.
use mathlib.Core.Path.{sym, ◌∙◌, ap}
use native.Mathlib.Omega.{arith}
use Rattle.failure.specs.Outcome.{Answer}
use Rattle.lookup.proofs.Opened.{arch_in}
use Rattle.lookup.proofs.chunk_of.Goals as goal

pub overflow_add-result : goal.overflow_add-result
overflow_add-result c =
    omega (arith, (arch_in _ _ _ _ _ _ _ (sym c.in-Ok-Some.ensures ∙ ap Answer c.in-Ok-Some.field-0-is)).whole)

pub slice_bounds-result-end : goal.slice_bounds-result-end
slice_bounds-result-end c =
    omega (arith, (arch_in _ _ _ _ _ _ _ (sym c.in-Ok-Some.ensures ∙ ap Answer c.in-Ok-Some.field-0-is)).whole)
