use Rattle.std.proofs.Common.{◌≡◌, ◌<◌, length}
use Rattle.span_exporter.proofs.Turning.{Turned}
use Rattle.span_exporter.proofs.worker.work_from.Given as goal

abbrev pub invariant-loop : goal.invariant-loop
invariant-loop g l = (length l.sending.exporter.batch < l.sending.exporter.size)
    × (length l.sending.exporter.ends ≡ length l.fn.exporter.ends)
    × Turned g.Queue.Inbox.gives l.fn.exporter l.fn.tally l.fn.inbox l.sending.exporter l.sending.tally l.inbox
