-- `lookup::found_at` meets its contract. Assumes nothing.
use Rattle.lookup.proofs.Headers.{header_room}
use Rattle.lookup.proofs.found_at.Goals as goal

pub chunk_at-chunk-requires : goal.chunk_at-chunk-requires
chunk_at-chunk-requires c =
    header_room _ 0 _ (rw (c.in_ok-p.was, c.in-Some.is) at c.requires).0
