-- `program::decode::form_of` meets its contract. Assumes nothing.
use mathlib.Core.Path.{sym, ap}
use native.Mathlib.Omega.{arith}
use Rattle.program.specs.Operation.{form_of}
use Rattle.program.proofs.Form.{form_advance, form_units, form_save, form_restore}
use Rattle.program.proofs.decode.form_of.Goals as goal

pub returns-then-code-eq0 : goal.returns-then-code-eq0
unfolding form_of
returns-then-code-eq0 c = sym (ap form_of c.if-code-eq0.true)

pub returns-then-code-lt64 : goal.returns-then-code-lt64
returns-then-code-lt64 c = form_advance _ c.if-code-eq0.false c.if-code-lt64.true

pub returns-then-code-lt128 : goal.returns-then-code-lt128
returns-then-code-lt128 c = form_units _ c.if-code-eq0.false c.if-code-lt64.false c.if-code-lt128.true

pub returns-then-code-lt192 : goal.returns-then-code-lt192
returns-then-code-lt192 c = form_save _ c.if-code-eq0.false c.if-code-lt128.false c.if-code-lt192.true

pub returns : goal.returns
returns c = form_restore _ (omega arith) c.if-code-lt224.false
