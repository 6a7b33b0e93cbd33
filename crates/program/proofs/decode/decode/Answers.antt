-- `program::decode::decode` meets its contract. Assumes nothing.
use Rattle.std.proofs.Common.{sym, ◌∙◌, arith}
use Rattle.failure.proofs.Outcome.{exit_as}
use Rattle.leb.proofs.Reader.{byte-read}
use Rattle.program.proofs.Decoding.{decode-byte, decode_refused}
use Rattle.program.proofs.decode.decode.Goals as goal

pub returns-in_err-code : goal.returns-in_err-code
returns-in_err-code c = exit_as _ _ _ c.from_residual.ensures.1 ∙ decode_refused _ _ _ _ c.in_err-code.ensures

pub overflow_add-pos : goal.overflow_add-pos
overflow_add-pos c = omega (arith, (byte-read _ _ _ _ (sym c.in_ok-code.ensures)).0)

pub returns : goal.returns
returns c = c.rest_at.ensures ∙ decode-byte _ _ _ _ _ c.in_ok-code.ensures c.form_of.ensures
