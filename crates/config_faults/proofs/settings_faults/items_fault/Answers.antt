use Rattle.std.proofs.Common.{refl, ap, ◌∙◌}
use Rattle.toml.specs.View.{view, array_view}
use Rattle.config_faults.specs.Faults.{item_fault, items_fault}
use Rattle.config_faults.proofs.Least.{items_step}
use Rattle.config_faults.proofs.settings_faults.items_fault.Goals as goal

pub loop-item-preserved : goal.loop-item-preserved
loop-item-preserved c =
    let f = item_fault c.args.kind in
    let one_is = c.item_fault.ensures ∙ ap (λ v. f (view v)) c.item-item.is in
    items_step f (items_fault f) (λ value rest. refl) c.loop-item.fault c.item_fault.result c.least-fault.result c.deref-item-items.result.now c.loop-item.item-index c.item-item.result
    (items_fault f (array_view c.args.items.now)) c.loop-item-test.true one_is c.least-fault.ensures c.loop-item.invariant
