-- `lookup::ChunkIn::start_of` meets its contract. Assumes nothing.
use mathlib.Core.Path.{sym, ◌∙◌}
use Rattle.lookup.proofs.Records.{record-start}
use Rattle.lookup.proofs.ChunkIn.start_of.Goals as goal

pub returns : goal.returns
returns g c = c.start_at.ensures ∙ rw (sym c.requires.1) (sym (record-start _ _ _ _))
