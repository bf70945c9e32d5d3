use Rattle.std.proofs.Common.{refl, ap, ◌∙◌}
use Rattle.toml.specs.View.{view, array_view}
use Rattle.config_faults.specs.Faults.{policy_fault, policy_items_fault}
use Rattle.config_faults.proofs.Least.{items_step}
use Rattle.config_faults.proofs.policy_faults.+policies.Goals as goal

pub policy_items_fault-loop-item-preserved : goal.policy_items_fault-loop-item-preserved
policy_items_fault-loop-item-preserved t c =
    let one_is = c.policy_fault.ensures ∙ ap (λ v. policy_fault (view v)) c.item-item.is in
    items_step policy_fault policy_items_fault (λ value rest. refl) c.loop-item.fault c.policy_fault.result c.least-fault.result c.deref-item-items.result.now c.loop-item.item-index c.item-item.result
    (policy_items_fault (array_view c.args.items.now)) c.loop-item-test.true one_is c.least-fault.ensures c.loop-item.invariant
