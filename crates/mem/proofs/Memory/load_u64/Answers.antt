-- `mem::Memory::load_u64` meets its contract. Assumes nothing.
use Rattle.std.proofs.Common.{lit<, ◌∙◌}
use Rattle.mem.specs.Word.{word_in}
use Rattle.mem.proofs.Loaded.{loads_word}
use Rattle.mem.proofs.Memory.load_u64.Goals as goal

pub returns : goal.returns
unfolding word_in
returns c = c.u64_in.ensures ∙ loads_word _ _ _ _ _ 8 _ (lit< tt) c.bytes_at.ensures
