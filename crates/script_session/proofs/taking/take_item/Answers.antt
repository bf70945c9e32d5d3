use Rattle.std.proofs.Common.{◌≡◌, refl, subst, sym}
use Rattle.rate_budget.specs.Budget.{limiter_counts}
use Rattle.journal_theory.specs.Journal.{Settings}
use Rattle.shard_core.specs.Taking.{entry}
use Rattle.script_session.specs.Pulling.{Export, DecidesAll}
use Rattle.script_session.proofs.Nodes.{nodes-kept}
use Rattle.script_session.proofs.Runs.{takes-one}
use Rattle.script_session.proofs.taking.take_item.Goals as goal

pub decide_all-requires : goal.decide_all-requires
decide_all-requires g c = record { nodes = nodes-kept c.args.limiter.now c.args.limiter.now c.args.shard.now c.take-taken.new.self (λ node. refl) c.take-taken.ensures.settings c.requires.nodes }

pub returns-clause-takes : goal.returns-clause-takes
returns-clause-takes g c = record {
  takes = λ past has.
      let all = has.released_all in
      let taken = c.take-taken.result in
      let told = c.take-taken.ensures in
      let e = entry c.args.item taken in
      let between : Export = c.settle_taken.new.desk in
      let after : Export = c.decide_all.new.output in
      let L = λ (s : Settings). c.args.limiter.now ≡ limiter_counts s.policies past.askings in
      let P = λ (s : Settings). DecidesAll s e past between c.decide_all.new.shard c.decide_all.new.limiter after in
      takes-one c.args.shard.now c.take-taken.new.self c.decide_all.new.shard c.args.limiter.now c.decide_all.new.limiter past c.args.item taken c.args.output.now between after
      (told.marks past.journal all.dealt all.stands) told.settings c.decide_all.ensures.settings has
      (told.released past.journal all.dealt all.stands) (λ reason. told.dropped past.journal all.dealt reason all.stands) c.settle_taken.ensures.takes.0
      (subst P told.settings (c.decide_all.ensures.decides e past refl (told.stands past.journal all.dealt all.stands) (subst L (sym told.settings) has.limiter_is)));
}
