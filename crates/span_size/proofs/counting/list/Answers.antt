use Rattle.std.proofs.Common.{[], ◌∷◌, sym, ◌∙◌}
use Rattle.json.specs.Token.{key, begin_array}
use Rattle.span_size.proofs.Defaults.{no-items}
use Rattle.span_size.proofs.Objects.{one-more, list-added}
use Rattle.span_size.proofs.Counts.{nothing, then}
use Rattle.span_size.proofs.counting.list.Goals as goal

pub returns-then-is_empty : goal.returns-then-is_empty
returns-then-is_empty g c = rw (no-items g.T.HasSize.fields c.args.items.now (sym c.is_empty.ensures ∙ c.if-is_empty.true)) (nothing c.args.out.now)

pub loop-item-init : goal.loop-item-init
loop-item-init g c = then c.key.ensures c.begin_nested.ensures.array

pub loop-item-preserved : goal.loop-item-preserved
loop-item-preserved g c = one-more g.T.HasSize.fields c.args.items.now c.loop-item.item-index c.item-item.result (key c.args.name.now ∷ begin_array ∷ []) c.loop-item.invariant c.loop-item-test.true c.item-item.is c.count.ensures

pub returns : goal.returns
returns g c = list-added g.T.HasSize.fields c.args.name.now c.args.items.now c.loop-item.item-index (sym c.if-is_empty.ensures) c.loop-item-test.false c.loop-item.invariant c.end_nested.ensures.array
