-- `lookup::ChunkIn::record_at` meets its contract. Assumes nothing.
use Rattle.lookup.proofs.Records.{record-made}
use Rattle.lookup.proofs.ChunkIn.record_at.Goals as goal

pub returns : goal.returns
returns c =
    record-made _ _ _ _ _ _ _ _ _ c.start_at.ensures c.end_at.ensures c.u32_at.ensures c.u32_at-2.ensures c.address_of.ensures
