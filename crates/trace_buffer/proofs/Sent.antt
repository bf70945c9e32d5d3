-- The buffer of traces may go to another thread, by what it holds.
-- For each call above that starts threads.
use denote.Param.Send.{IsSend, sendable}
use Rattle.circular_buffer.specs.contracts.heap.HeapCircularBuffer as ring
use Rattle.circular_buffer.proofs.cells.Cells.TheSendSync as cells
use Rattle.circular_buffer.proofs.cells.Deed.TheSendSync as deed
use Rattle.otlp_types.proofs.Sent.{arrival_send}
use Rattle.std.proofs.Crossing.{crosses}
use Rattle.std.proofs.Crossing as crossing
use Rattle.std.proofs.MapsCrossing as maps
use Rattle.std.specs.contracts.alloc.Global as heap
use Rattle.std.specs.contracts.impls.GlobalAllocator.TheImpl as impl
use Rattle.trace_buffer.specs.contracts.episode.Episode as episode
use Rattle.trace_buffer.specs.contracts.buffer.TraceBuffer as buffer

pub episode_send : IsSend episode.the_row
episode_send = search (sendable, crosses, arrival_send) depth 20

pub ring_field : IsSend (ring.the_field episode.the_row heap.the_row impl.ghosts).row
ring_field = search (sendable, cells.the_send, deed.the_send, crosses, crossing.send, episode_send) depth 20

pub buffer_send : IsSend buffer.the_row
buffer_send = search (sendable, crosses, maps.crosses, ring_field) depth 40
