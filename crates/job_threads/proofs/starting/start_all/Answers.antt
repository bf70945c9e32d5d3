use Rattle.std.proofs.Common.{◌≡◌, ◌∙◌, sym, subst, arith, All, Some}
use Rattle.std.proofs.lemmas.List.Elements.{All-push, All-pop}
use Rattle.job_threads.proofs.Joined.{starts_one}
use Rattle.job_threads.proofs.starting.start_all.Goals as goal

pub loop-job-preserved : goal.loop-job-preserved
loop-job-preserved g c =
    let h = c.loop-job.invariant in
    let p = c.in-Some.ensures in
    let started = c.in-Ok-start.ensures.started in
    let pushed = c.push_reserved.ensures in (
      starts_one g.J.Job.did (λ h. h.promise.job.value) c.loop-job.jobs.items c.loop-job.handles.items c.push_reserved.new.self.items c.in-Ok-start.handle c.pop.new.self.items c.in-Some.job p.items pushed.items started.1 ∙ h.0,
      omega (arith, p.len, pushed.len, pushed.capacity, h.1),
      subst (All (λ h. h.promise.word.now.id ≡ c.args.word.now.id)) (sym pushed.items) (All-push (λ h. h.promise.word.now.id ≡ c.args.word.now.id) c.loop-job.handles.items c.in-Ok-start.handle h.2 started.0),
      (All-pop g.J.Job.ready c.loop-job.jobs.items c.pop.new.self.items (Some c.in-Some.job) p.items h.3).0,
      omega (arith, p.len, p.capacity, pushed.len, h.4),
    )
