use Rattle.std.proofs.Common.{◌+◌, min, drop, sym, ap, ◌∙◌}
use Rattle.otlp_types.specs.declared.span.Span.{Span}
use Rattle.policy_eval.specs.Policies.{earliest_with}
use Rattle.policy_eval.proofs.Verdicts.{earliest-next}
use Rattle.policy_eval.proofs.latency.earliest_start.Goals as goal

pub loop-arrival-preserved : goal.loop-arrival-preserved
loop-arrival-preserved c =
    let rest = c.in-Some.rest.now in
    let i = c.loop-arrival.arrival-index in
    ap (λ m. earliest_with m (drop (i + 1) rest)) c.min-earliest.ensures
    ∙ ap (λ (span : Span). earliest_with (min span.start_time_unix_nano c.loop-arrival.earliest) (drop (i + 1) rest)) c.get-in-loop-arrival.ensures
    ∙ sym (earliest-next c.loop-arrival.earliest rest i c.arrival-item.result c.loop-arrival-test.true c.arrival-item.is)
    ∙ c.loop-arrival.invariant
