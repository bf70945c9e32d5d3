use Rattle.http_text.specs.Fields.{is_foreign_field}
use Rattle.http_text.proofs.FieldLemmas.{any_more}
use Rattle.http_text.proofs.fields.has_foreign_field.Goals as goal

pub loop-span-preserved : goal.loop-span-preserved
loop-span-preserved c =
    any_more (is_foreign_field c.args.host.now) c.args.text.now c.args.spans.now c.loop-span.span-index _ c.loop-span.is_foreign c.is_foreign_field-is_foreign.result c.of.result.now c.of-in-loop-span.result.now
    c.loop-span-test.true c.loop-span.invariant c.is_foreign_field-is_foreign.ensures c.of.ensures c.of-in-loop-span.ensures
