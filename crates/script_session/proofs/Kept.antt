-- What a loop over one shard keeps: the limiter's nodes, the shard's settings and ends, and what stays of the exporter.
-- For the loops of `decide_all` and `drain`.
use Rattle.std.proofs.Common.{◌≡◌, true, refl, ◌∙◌}
use Rattle.shard_core.specs.Held.{Held, settings}
use Rattle.script_session.specs.Pulling.{Export, GoesOn, Counts, has_nodes_of}
use Rattle.script_session.proofs.Pulls.{goes-on-then}
use Rattle.script_session.specs.Staying.{goes-on}
use Rattle.script_session.proofs.Nodes.{SameNodes, nodes-then, nodes-kept}

-- from these on, with which it began, to those that it has now
pub record Kept (shard now : Held) (limiter counts : Counts) (before sent : Export) : Type 0 where
  pub nodes : has_nodes_of counts now ≡ true
  pub same_nodes : SameNodes limiter counts
  pub settings_same : settings now ≡ settings shard
  pub ends_same : now.standing.ends ≡ shard.standing.ends
  pub goes_on : GoesOn before sent

pub kept-first : (shard : Held) (limiter : Counts) (output : Export) → has_nodes_of limiter shard ≡ true → Kept shard shard limiter limiter output output
kept-first shard limiter output nodes = record { nodes = nodes; same_nodes = λ node. refl; settings_same = refl; ends_same = refl; goes_on = goes-on output }

pub kept-then : (shard now next : Held) (limiter counts more : Counts) (first sent later : Export) → Kept shard now limiter counts first sent
    → SameNodes counts more → settings next ≡ settings now → next.standing.ends ≡ now.standing.ends
    → GoesOn sent later → Kept shard next limiter more first later
kept-then shard now next limiter counts more first sent later before same set ends then = record {
  nodes = nodes-kept counts more now next same set before.nodes;
  same_nodes = nodes-then limiter counts more before.same_nodes same;
  settings_same = set ∙ before.settings_same;
  ends_same = ends ∙ before.ends_same;
  goes_on = goes-on-then first sent later before.goes_on then;
}
