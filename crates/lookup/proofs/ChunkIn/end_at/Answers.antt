-- `lookup::ChunkIn::end_at` meets its contract. Assumes nothing.
use Rattle.lookup.proofs.Records.{end-made}
use Rattle.lookup.proofs.ChunkIn.end_at.Goals as goal

pub returns : goal.returns
returns c = end-made _ _ _ _ _ _ c.start_at.ensures c.u32_at.ensures c.add.ensures
