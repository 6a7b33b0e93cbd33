-- `cursor::Bytes::u8` meets its contract; a byte that is read stands below the limit, so its place has a next one. Assumes nothing.
use Rattle.std.proofs.Common.{sym, arith}
use Rattle.leb.proofs.Reader.{byte-read}
use Rattle.cursor.proofs.Bytes.u8.Goals as goal

pub overflow_add-self : goal.overflow_add-self
overflow_add-self c = omega (arith, (byte-read _ _ _ _ (sym c.in_ok-b.ensures)).0)
