-- `lookup::ChunkIn::start_at` meets its contract. Assumes nothing.
use Rattle.lookup.proofs.Records.{start-made}
use Rattle.lookup.proofs.ChunkIn.start_at.Goals as goal

pub returns : goal.returns
returns c =
    start-made _ _ _ _ _ _ _ c.add.ensures c.u32_at.ensures c.extend.ensures c.add-2.ensures
