use Rattle.std.proofs.Common.{◌≡◌, ap, sym, length, arith, Some, ◌∙◌}
use Rattle.std.proofs.lemmas.List.Elements.{All-pop}
use Rattle.job_threads.proofs.Joined.{joins_none, joins_one, joins_all, is_empty}
use Rattle.job_threads.proofs.joining.join_all.Goals as goal

pub loop-handle-init : goal.loop-handle-init
loop-handle-init g c = (
  joins_none g.J.Job.did (λ h. h.promise.job.value) c.args.handles.items c.args.room.items c.requires.room.0,
  omega (arith, ap length c.requires.room.0, c.args.room.ok.0, c.requires.room.1),
  c.requires.word.1,
)

pub loop-handle-preserved : goal.loop-handle-preserved
loop-handle-preserved g c =
    let h = c.loop-handle.invariant in
    let p = c.in-Some.ensures in (
      joins_one g.J.Job.did (λ h. h.promise.job.value) _ c.loop-handle.handles.items c.pop.new.self.items c.in-Some.handle c.loop-handle.lefts.items c.push_reserved.new.self.items c.join-left.result p.items c.push_reserved.ensures.items h.0 c.join-left.ensures,
      omega (arith, p.len, c.push_reserved.ensures.len, c.push_reserved.ensures.capacity, h.1),
      (All-pop (λ h. h.promise.word.now.id ≡ c.args.token.now.of) c.loop-handle.handles.items c.pop.new.self.items (Some c.in-Some.handle) p.items h.2).0,
    )

pub returns : goal.returns
returns g c = joins_all g.J.Job.did (λ h. h.promise.job.value) _ c.loop-handle.handles.items c.loop-handle.lefts.items (is_empty c.loop-handle.handles.items (sym c.loop-handle.handles.ok.0 ∙ c.in_default.ensures.cases.0)) c.loop-handle.invariant.0
