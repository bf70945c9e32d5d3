use Rattle.std.proofs.Common.{refl, codes, rules}
use Rattle.otlp_json.specs.Writing.{status_table, enum_field}
use Rattle.span_size.specs.Counting.{AddsField}
use Rattle.span_size.proofs.Objects.{object-added}
use Rattle.span_size.proofs.Counts.{then}
use Rattle.span_size.proofs.span.StatusHasSize.count.Goals as goal

pub returns : goal.returns
returns c =
    let code : AddsField c.begin_nested.new.self c.enumeration.new.out (codes "code") (enum_field c.args.self.now.code) = search (rules, c.enumeration.ensures) in
    object-added (status_table c.args.self.now) refl (then c.begin_nested.ensures.object (then code (then c.text.ensures c.end_nested.ensures.object)))
