use Rattle.std.proofs.Common.{◌<◌, ◌++◌, ◌∙◌, [], ◌∷◌, ap, sym, arith, length, Some}
use Rattle.std.proofs.lemmas.List.{map-append}
use Rattle.std.proofs.lemmas.List.Elements.{All-pop}
use Rattle.policy_tree.specs.Tree.{limiters}
use Rattle.policy_tree.specs.Meaning.{meaning}
use Rattle.lane_queue.specs.Grid.{ends_of}
use Rattle.pipeline.proofs.making.team_of.Goals as goal

pub shard_jobs-requires-clause-seats : goal.shard_jobs-requires-clause-seats
shard_jobs-requires-clause-seats g c = (omega (arith, c.args.ends.seats.ok.0, c.requires.seats.0), c.new_seats_have_nodes.ensures (limiters (meaning c.args.config.now.policies)) _ c.args.ends.seats.items c.requires.seats)

pub lane_jobs-requires-clause-columns : goal.lane_jobs-requires-clause-columns
lane_jobs-requires-clause-columns g c = (
  omega (arith, c.take_last-senders.ensures.len, c.requires.columns.0, c.requires.acceptors.0),
  (All-pop (λ v. 0 < length v.items) c.args.columns.items c.take_last-senders.new.self.items (Some c.take_last-senders.result) c.take_last-senders.ensures.items c.requires.columns.1).0,
)

pub returns-clause-ports : goal.returns-clause-ports
returns-clause-ports g c =
    ap ends_of c.take_last-senders.ensures.items ∙ (map-append (λ v. v.items) c.take_last-senders.new.self.items (c.take_last-senders.result ∷ [])
    ∙ ap (λ z. z ++ c.take_last-senders.result.items ∷ []) (sym c.in-Ok-lane_jobs.ensures.columns))
