use Rattle.std.proofs.Common.{◌≡◌, ◌++◌, ◌∷◌, [], ap, sym, ◌∙◌, arith, append_assoc, length}
use Rattle.std.proofs.lemmas.List.{map-append}
use Rattle.lane_queue.specs.Grid.{ends_of}
use Rattle.pipeline.proofs.Gathered.{one_more, any_more}
use Rattle.pipeline.proofs.gathering.gather_lanes.Goals as goal

pub loop-lane-preserved : goal.loop-lane-preserved
loop-lane-preserved g c =
    let h = c.loop-lane.invariant in
    let lane = c.in-Some.lane in
    let taken : c.loop-lane.lane-iterator.rest.items ≡ lane ∷ c.next.new.self.rest.items = c.in-Some.ensures.steps.0 in (
      append_assoc c.loop-lane.yielded (lane ∷ []) c.next.new.self.rest.items ∙ (ap (λ z. c.loop-lane.yielded ++ z) (sym taken) ∙ h.0),
      omega (arith, c.push_reserved.ensures.len, ap (λ z. length z) taken, h.1),
      c.push_reserved.ensures.capacity ∙ h.2,
      omega (arith, c.add.ensures.len, ap (λ z. length z) taken, h.3),
      c.add.ensures.capacity ∙ h.4,
      one_more (λ lane. lane.senders.items) (ends_of c.loop-lane.columns.items) (ends_of c.push_reserved.new.self.items) (ends_of c.args.columns.now.items) c.loop-lane.yielded lane
          (ap ends_of c.push_reserved.ensures.items ∙ map-append (λ v. v.items) c.loop-lane.columns.items (lane.senders ∷ [])) h.5,
      one_more (λ lane. lane.counts) c.loop-lane.counted.counts.items c.add.new.self.counts.items c.args.counted.now.counts.items c.loop-lane.yielded lane c.add.ensures.counts h.6,
      any_more (λ lane. lane.is_full) c.loop-lane.counted.is_full c.add.new.self.is_full c.args.counted.now.is_full c.loop-lane.yielded lane c.add.ensures.full h.7,
    )
