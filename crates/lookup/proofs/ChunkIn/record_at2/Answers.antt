-- `lookup::ChunkIn::record_at2` meets its contract. Assumes nothing.
use Rattle.lookup.proofs.Records.{record2-made}
use Rattle.lookup.proofs.ChunkIn.record_at2.Goals as goal

pub returns : goal.returns
returns c =
    record2-made _ _ _ _ _ _ _ _ _ _ c.u32_at-data.ensures c.start_at.ensures c.end_at.ensures c.handlers2.ensures c.address_of.ensures
