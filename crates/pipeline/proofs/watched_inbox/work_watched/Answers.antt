use Rattle.std.proofs.Common.{[], subst, sym}
use Rattle.lane_queue.specs.Merges.{IsMergeOf}
use Rattle.lane_queue.proofs.Merging.{merge_none}
use Rattle.span_exporter.specs.Work.{shipments_in}
use Rattle.span_exporter.proofs.Merged.{merged_in, same_in}
use Rattle.pipeline.proofs.Watched.{watched_pops}
use Rattle.pipeline.proofs.watched_inbox.work_watched.Goals as goal

pub returns : goal.returns
returns g c =
    let w = c.work_from-exporter.ensures.works in
    let turns = w.2.turns in
    let new = c.work_from-exporter.result.inbox.receiver in
    let pops = watched_pops (λ i. i.receiver) _ turns _ c.work_from-exporter.result.inbox w.2.pops in
    let merged = merged_in _ [] turns c.args.receiver new (merge_none c.args.receiver.ends c.requires.new_queues) pops in
    record {
      works = (w.0, w.1 new (subst (λ l. IsMergeOf new.ends (shipments_in l)) (sym w.2.makes) merged));
      same_queues = same_in _ turns c.args.receiver new pops;
    }
