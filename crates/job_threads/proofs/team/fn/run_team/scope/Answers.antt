use Rattle.std.proofs.Common.{rules, arith, subst}
use Rattle.job_threads.specs.Jobs.{HaveDone}
use Rattle.job_threads.proofs.Joined.{as_many, on_ok, all_started, one_did}
use Rattle.job_threads.proofs.team.fn.run_team.scope.Goals as goal

pub returns-in-Ok : goal.returns-in-Ok
returns-in-Ok g c =
    let team = c.captures.team in
    let handles = c.start_team-handles.result.0 in
    let begun = c.start_team-handles.ensures in
    let worked = c.work_and_join.ensures in
    let left = c.work_and_join.result.0 in
    let all = on_ok c.start_team-handles.result.1 _ c.in-Ok.ensures.all begun.all in
    let first : HaveDone g.First.Job.did team.first.items left.first.items = subst (λ l. HaveDone g.First.Job.did l left.first.items) (all_started _ _ _ begun.first all.0) worked.first in
    let third : HaveDone g.Third.Job.did team.third.items left.third.items = subst (λ l. HaveDone g.Third.Job.did l left.third.items) (all_started _ _ _ begun.third all.2) worked.third in
    record {
      did = ((first, one_did (λ h. h.promise.job.value) g.Second.Job.did handles.second team.second left.second all.1 begun.second worked.second, third), worked.main);
      counts = (
        omega (arith, left.first.ok.0, team.first.ok.0, as_many g.First.Job.did team.first.items left.first.items first),
        omega (arith, left.third.ok.0, team.third.ok.0, as_many g.Third.Job.did team.third.items left.third.items third),
      );
      back = search rules;
    }
