use Rattle.std.proofs.Common.{[], subst, sym}
use Rattle.lane_queue.specs.Merges.{IsMergeOf}
use Rattle.lane_queue.proofs.Merging.{merge_none}
use Rattle.span_exporter.specs.Work.{shipments_in}
use Rattle.span_exporter.proofs.Merged.{merged_in, same_in}
use Rattle.span_exporter.proofs.worker.work.Goals as goal

pub returns : goal.returns
returns g c =
    let w = c.work_from.ensures.works in
    let turns = w.2.turns in
    let merged = merged_in _ [] turns c.args.receiver c.work_from.result.inbox (merge_none c.args.receiver.ends c.requires.new_queues) w.2.pops in
    record {
      works = (w.0, w.1 c.work_from.result.inbox (subst (λ l. IsMergeOf c.work_from.result.inbox.ends (shipments_in l)) (sym w.2.makes) merged), w.2);
      same_queues = same_in _ turns c.args.receiver c.work_from.result.inbox w.2.pops;
    }
