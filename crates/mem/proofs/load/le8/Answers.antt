-- `mem::load::le8` meets its contract, word by word. Assumes nothing.
use Rattle.std.proofs.Common.{sym, ap, ◌∙◌, arith, take_all}
use Rattle.mem.specs.Word.{little_endian}
use Rattle.mem.proofs.Word.{joined}
use Rattle.mem.proofs.load.le8.Goals as goal

pub returns : goal.returns
returns c =
    let b = c.args.b.now in
    let words = ap little_endian (sym (take_all 8 b (omega arith))) ∙ joined 4 4 b in
    (omega (arith, words, c.le4.ensures.0, c.le4-2.ensures.0), omega (arith, c.le4.ensures.1, c.le4-2.ensures.1))
