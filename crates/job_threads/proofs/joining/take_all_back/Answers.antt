use Rattle.std.proofs.Common.{◌≡◌, ◌∙◌, sym, arith, Some}
use Rattle.std.proofs.lemmas.List.Elements.{All-pop}
use Rattle.job_threads.proofs.Joined.{comes_back, all_back, is_empty}
use Rattle.job_threads.proofs.joining.take_all_back.Goals as goal

pub loop-handle-preserved : goal.loop-handle-preserved
loop-handle-preserved g c =
    let h = c.loop-handle.invariant in
    let p = c.in-Some.ensures in
    let pushed = c.push_reserved.ensures in (
      comes_back (λ h. h.promise.job.value) c.loop-handle.jobs.items c.push_reserved.new.self.items c.loop-handle.handles.items c.pop.new.self.items c.in-Some.handle c.take_back-job.result p.items pushed.items c.take_back-job.ensures ∙ h.0,
      omega (arith, p.len, pushed.len, pushed.capacity, h.1),
      (All-pop (λ h. h.promise.word.now.id ≡ c.args.token.now.of) c.loop-handle.handles.items c.pop.new.self.items (Some c.in-Some.handle) p.items h.2).0,
    )

pub returns : goal.returns
returns g c = all_back (λ h. h.promise.job.value) _ c.loop-handle.jobs.items c.loop-handle.handles.items (is_empty c.loop-handle.handles.items (sym c.loop-handle.handles.ok.0 ∙ c.in_default.ensures.cases.0)) c.loop-handle.invariant.0
