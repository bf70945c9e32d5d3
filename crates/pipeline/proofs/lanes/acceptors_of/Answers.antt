use Rattle.std.proofs.Common.{◌≡◌, ◌++◌, ◌∷◌, [], ap, sym, ◌∙◌, arith, append_assoc, length}
use Rattle.pipeline.proofs.Gathered.{one_more}
use Rattle.pipeline.proofs.lanes.acceptors_of.Goals as goal

pub loop-job-preserved : goal.loop-job-preserved
loop-job-preserved g c =
    let h = c.loop-job.invariant in
    let job = c.in-Some.job in
    let taken : c.loop-job.job-iterator.rest.items ≡ job ∷ c.next.new.self.rest.items = c.in-Some.ensures.steps.0 in (
      append_assoc c.loop-job.yielded (job ∷ []) c.next.new.self.rest.items ∙ (ap (λ z. c.loop-job.yielded ++ z) (sym taken) ∙ h.0),
      omega (arith, c.push_reserved.ensures.len, ap (λ z. length z) taken, h.1),
      c.push_reserved.ensures.capacity ∙ h.2,
      one_more (λ job. job.acceptor) c.loop-job.acceptors.items c.push_reserved.new.self.items c.args.acceptors.items c.loop-job.yielded job c.push_reserved.ensures.items h.3,
    )
