use Rattle.std.proofs.Common.{◌≡◌, ◌∙◌, arith}
use Rattle.std.proofs.lemmas.List.Elements.{All-same, All-push}
use Rattle.collector_serve.specs.Sharing.{share_of, allowed_by}
use Rattle.collector_serve.proofs.serving.drivers.Goals as goal

pub loop-lane-preserved : goal.loop-lane-preserved
loop-lane-preserved g c = (
  omega (arith, c.in_ok-push.ensures.len, c.loop-lane.invariant.0),
  All-same (λ it. it.allowed ≡ allowed_by c.args.config.now) c.push.new.self.items _ c.in_ok-push.ensures.items
      (All-push (λ it. it.allowed ≡ allowed_by c.args.config.now) c.loop-lane.drivers.items _ c.loop-lane.invariant.1 c.allowed_by-allowed.ensures),
  All-same (λ it. it.driver.links.limit ≡ share_of c.args.config.now.max_connections c.args.config.now.lanes) c.push.new.self.items _ c.in_ok-push.ensures.items
      (All-push (λ it. it.driver.links.limit ≡ share_of c.args.config.now.max_connections c.args.config.now.lanes) c.loop-lane.drivers.items _ c.loop-lane.invariant.2 (c.in_ok-driver.ensures ∙ c.share-limit.ensures)),
)
