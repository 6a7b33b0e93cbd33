-- `lookup::head_at` meets its contract. Assumes nothing.
use mathlib.Core.Path.{sym, ◌∙◌}
use native.Mathlib.Omega.{arith}
use Rattle.lookup.proofs.Headers.{head_padding, head_fault, fault_version, chunk_of_1, chunk_of_2, chunk_unknown}
use Rattle.lookup.proofs.head_at.Goals as goal

pub returns-then-magic-eq0 : goal.returns-then-magic-eq0
returns-then-magic-eq0 c = head_padding _ _ _ (sym c.u32_at-magic.ensures ∙ c.if-magic-eq0.true)

pub head_of-requires : goal.head_of-requires
head_of-requires c =
    let made = c.chunk_at-c.ensures in
    (c.requires, c.u32_at-magic.ensures, c.if-magic-eq0.false, chunk_of_1 _ _ _ made.0 c.if-c-eq-VERSION.true, omega arith, made.2)

pub head_of-requires-then-c-eq-VERSION2 : goal.head_of-requires-then-c-eq-VERSION2
head_of-requires-then-c-eq-VERSION2 c =
    let made = c.chunk_at-c.ensures in
    (c.requires, c.u32_at-magic.ensures, c.if-magic-eq0.false, chunk_of_2 _ _ _ made.0 c.if-c-eq-VERSION2.true, omega arith, made.2)

pub returns : goal.returns
returns c =
    let made = c.chunk_at-c.ensures in
    head_fault _ _ _ (λ z. c.if-magic-eq0.false (c.u32_at-magic.ensures ∙ z)) _ made.0
    (fault_version _ _ _ _ (chunk_unknown _ _ _ made.0 c.if-c-eq-VERSION.false c.if-c-eq-VERSION2.false))
