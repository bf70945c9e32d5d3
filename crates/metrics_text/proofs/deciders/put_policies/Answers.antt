use Rattle.std.proofs.Common.{◌++◌, ap, ◌∙◌}
use Rattle.std.specs.Prelude.{string_bytes}
use Rattle.metrics_text.specs.Deciders.{decided_lines}
use Rattle.metrics_text.specs.declared.metrics.PolicyNumbers.{PolicyNumbers}
use Rattle.metrics_text.proofs.Appending.{items-next, lines-begin}
use Rattle.metrics_text.proofs.deciders.put_policies.Goals as goal

pub loop-policy-init : goal.loop-policy-init
loop-policy-init c = lines-begin (string_bytes c.args.text.now) _ (string_bytes c.put_head.new.text) _ c.in_ok-put_head.ensures

pub loop-policy-preserved : goal.loop-policy-preserved
loop-policy-preserved c =
    let text = string_bytes c.loop-policy.text in
    items-next decided_lines c.args.policies.now c.policy-item.result text (string_bytes c.put_policy.new.text) _ c.loop-policy.policy-index c.loop-policy-test.true c.loop-policy.invariant
    (c.in_ok-put_policy.ensures ∙ ap (λ (p : PolicyNumbers). text ++ decided_lines p) c.policy-item.is)
