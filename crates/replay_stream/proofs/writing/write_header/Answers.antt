-- `write_header` writes as many bytes as the header has.
use Rattle.replay_stream.proofs.PlayLines.{header_counts}
use Rattle.replay_stream.proofs.writing.write_header.Goals as goal

-- so many bytes are the header's
pub slice_bounds-out-end : goal.slice_bounds-out-end
slice_bounds-out-end g c = (header_counts _ _ _ c.header-n.auto.out c.header-n.ensures).0

pub slice_bounds-write_all-end : goal.slice_bounds-write_all-end
slice_bounds-write_all-end g c = (header_counts _ _ _ c.header-n.auto.out c.header-n.ensures).1
