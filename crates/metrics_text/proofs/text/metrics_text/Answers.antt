use Rattle.std.specs.Prelude.{string_bytes, ◌++◌}
use Rattle.metrics_text.specs.Families.{build, connections, dropped, family_text, handed, received, uptime}
use Rattle.metrics_text.specs.Figures.{figures_text}
use Rattle.metrics_text.specs.Deciders.{policies_text}
use Rattle.metrics_text.specs.Shards.{shards_text}
use Rattle.metrics_text.proofs.Appending.{six-families, both-more}
use Rattle.metrics_text.proofs.text.metrics_text.Goals as goal

pub returns : goal.returns
returns c =
    let metrics = c.args.metrics.now in
    six-families (family_text (received metrics.report)) (family_text (handed metrics.report)) (family_text (dropped metrics.report)) (family_text (connections metrics)) (family_text (uptime metrics)) (family_text build) (figures_text metrics) (policies_text c.args.policies.now ++ shards_text c.args.shards.now)
    (string_bytes c.new-text.result) (string_bytes c.put_spans.new.text) (string_bytes c.put_all_dropped.new.text) (string_bytes c.put_collector.new.text) (string_bytes c.put_figures.new.text) (string_bytes c.put_shards.new.text)
    c.new-text.ensures.bytes c.in_ok-put_spans.ensures c.in_ok-put_all_dropped.ensures c.in_ok-put_collector.ensures c.in_ok-put_figures.ensures
    (both-more (policies_text c.args.policies.now) (shards_text c.args.shards.now) (string_bytes c.put_figures.new.text) (string_bytes c.put_policies.new.text) (string_bytes c.put_shards.new.text) c.in_ok-put_policies.ensures c.in_ok-put_shards.ensures)
