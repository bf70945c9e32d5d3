use Rattle.serde_json.specs.Data.{string}
use Rattle.span_size.proofs.Objects.{one-added}
use Rattle.span_size.proofs.counting.object_of_text.Goals as goal

pub returns : goal.returns
returns c = one-added c.args.name.now (string c.args.text.now) c.begin_nested.ensures.object c.key.ensures (rw c.as_str.ensures at c.string.ensures) c.end_nested.ensures.object
