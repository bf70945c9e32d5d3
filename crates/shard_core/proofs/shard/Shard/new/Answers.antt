use Rattle.std.proofs.Common.{ap}
use Rattle.shard_core.specs.Forgotten.{have_spans}
use Rattle.trace_buffer.specs.Buffer.{Buffer}
use Rattle.decision_cache.specs.Lists.{CacheLists}
use Rattle.shard_core.proofs.Forgetting.{new_keeps}
use Rattle.shard_core.proofs.Stands.{new_stands, new_runs}
use Rattle.shard_core.proofs.shard.Shard.new.Goals as goal

pub returns-in-Ok-clause-stands : goal.returns-in-Ok-clause-stands
returns-in-Ok-clause-stands c =
    let made = c.in-Ok.ensures in
    new_stands c.args.policies c.args.setup.waits c.args.setup.senders c.in-Ok.buffer c.in-Ok.cache c.in-Ok.ends.items (ap (λ (b : Buffer). b.episodes) made.buffer)
    (ap (λ (l : CacheLists). l.sampled.traces) made.cache) (ap (λ (l : CacheLists). l.not_sampled.traces) made.cache) made.ends

pub returns-in-Ok-clause-running : goal.returns-in-Ok-clause-running
returns-in-Ok-clause-running c = new_runs c.args.setup.senders c.in-Ok.ends.items c.in-Ok.ensures.ends c.requires.has_senders

pub invariant_of-result : goal.invariant_of-result
invariant_of-result c =
    let made = c.in-Ok.ensures in
    let k = new_keeps c.in-Ok.buffer c.in-Ok.cache c.args.setup.num_traces made.buffer c.requires.keeps_a_trace in
    (c.requires.waits, k.0, ap (λ (b : Buffer). have_spans b.episodes) made.buffer, k.1, k.2, c.in_ok-searches.ensures)
