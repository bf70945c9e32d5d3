use Rattle.std.proofs.Common.{codes, rules}
use Rattle.otlp_json.specs.Writing.{enum_field}
use Rattle.span_size.specs.Counting.{AddsField}
use Rattle.span_size.proofs.Counts.{then}
use Rattle.span_size.proofs.span.count_head.Goals as goal

pub returns : goal.returns
returns c =
    let kind : AddsField c.u32.new.out c.enumeration.new.out (codes "kind") (enum_field c.args.span.now.kind) = search (rules, c.enumeration.ensures) in
    then c.u64.ensures (then (rw c.as_slice.ensures at c.list.ensures) (then c.u32.ensures kind))
