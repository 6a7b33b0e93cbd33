-- `lookup::head_of` meets its contract. Assumes nothing.
use mathlib.Core.Path.{sym, ◌∙◌}
use Rattle.lookup.proofs.Headers.{head_fault, head_here, chunk-version}
use Rattle.lookup.proofs.head_of.Goals as goal

pub faulty-requires : goal.faulty-requires
faulty-requires c =
    let p = c.requires in
    (p.0, p.1, chunk-version _ _ _ p.3, p.4, p.5)

pub returns-then-faulty : goal.returns-then-faulty
returns-then-faulty c =
    let p = c.requires in
    head_fault _ _ _ (λ z. p.2 (p.1 ∙ z)) _ p.3 (sym c.faulty.ensures ∙ c.if-faulty.true)

pub returns : goal.returns
returns c =
    let p = c.requires in
    head_here _ _ _ (λ z. p.2 (p.1 ∙ z)) _ p.3 (sym c.faulty.ensures ∙ c.if-faulty.false)
