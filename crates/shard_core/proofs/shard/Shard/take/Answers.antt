use Rattle.std.proofs.Common.{◌≡◌, ℕ, ◌<◌, ◌∷◌, sym, ap, subst, ◌∙◌, true, if◌then◌else◌}
use Rattle.journal_theory.specs.Journal.{Journal, has_ids}
use Rattle.otlp_types.specs.declared.arrival.Item.{Item}
use Rattle.shard_core.specs.Held.{StandsFor, settings, is_finished, Held}
use Rattle.shard_core.specs.Taking.{entry, answer_to, TellsFate}
use Rattle.journal_theory.specs.Marked.{marks_apply}
use Rattle.shard_core.specs.declared.answer.Taken.{Taken}
use Rattle.shard_core.specs.declared.answer.Taken.TheVariants.{Ticked, Ended, Finished}
use Rattle.otlp_types.specs.declared.arrival.Item.TheVariants.{Tick, End}
use Rattle.shard_core.proofs.Stands.{ready, takes_span, takes_tick, takes_end, end-answer}
use Rattle.shard_core.proofs.Effects.{take_released, take_dropped}
use Rattle.shard_core.proofs.Fates.{tells_fate}
use Rattle.shard_core.proofs.shard.Shard.take.Goals as goal

wait_of : (c : goal.After-take_span) → 0 < c.args.self.now.waits.decision_wait
wait_of c = let P = λ (h : Held). 0 < h.waits.decision_wait in subst P c.self.view_is c.self.invariant.0

limit_of : (c : goal.After-take_span) → 0 < c.args.self.now.num_traces
limit_of c = let P = λ (h : Held). 0 < h.num_traces in subst P c.self.view_is c.self.invariant.1

span_facts : (c : goal.After-take_span) (past : Journal) (k : ℕ) → StandsFor c.args.self.now past k →
    StandsFor c.take_span.new.self (entry c.args.item c.take_span.result ∷ past) 0 × (c.take_span.result ≡ answer_to (settings c.args.self.now) (entry c.args.item c.take_span.result) past) × (marks_apply (settings c.args.self.now) (entry c.args.item c.take_span.result) past ≡ true)
span_facts c past k s =
    let P = λ (i : Item). StandsFor c.take_span.new.self (entry i c.take_span.result ∷ past) 0 × (c.take_span.result ≡ answer_to (settings c.args.self.now) (entry i c.take_span.result) past) × (marks_apply (settings c.args.self.now) (entry i c.take_span.result) past ≡ true) in
    let g = ready c.args.self.now past k (wait_of c) (limit_of c) c.requires.nothing_due c.requires.running s in
    let ids = ap has_ids (sym c.in-Span.is) ∙ c.requires.ids in
    subst P (sym c.in-Span.is) (takes_span c.args.self.now c.in-Span.arrival past k ids (limit_of c) g c.take_span.new.self c.take_span.result c.take_span.ensures.takes)

pub returns-in-Span-clause-stands : goal.returns-in-Span-clause-stands
returns-in-Span-clause-stands c = λ past k s. (span_facts c past k s).0

pub returns-in-Span-clause-answer : goal.returns-in-Span-clause-answer
returns-in-Span-clause-answer c = λ past k s. (span_facts c past k s).1

pub returns-in-Span-clause-marks : goal.returns-in-Span-clause-marks
returns-in-Span-clause-marks c = λ past k s. (span_facts c past k s).2

pub returns-in-Tick-clause-stands : goal.returns-in-Tick-clause-stands
returns-in-Tick-clause-stands c = λ past k s.
    let P = λ (i : Item). StandsFor c.take_tick.new.self (entry i c.take_tick.result ∷ past) 0 in
    let Q = λ (h : Held). 0 < h.waits.decision_wait in
    let L = λ (h : Held). 0 < h.num_traces in
    let R = λ (h : Held). StandsFor h (entry (Tick c.in-Tick.moment) Ticked ∷ past) 0 in
    let T = λ (t : Taken). StandsFor c.take_tick.new.self (entry (Tick c.in-Tick.moment) t ∷ past) 0 in
    let g = ready c.args.self.now past k (subst Q c.self.view_is c.self.invariant.0) (subst L c.self.view_is c.self.invariant.1) c.requires.nothing_due c.requires.running s in
    subst P (sym c.in-Tick.is) (subst T (sym c.take_tick.ensures.answer) (subst R (sym c.take_tick.ensures.after) (takes_tick c.args.self.now c.in-Tick.moment past k (subst L c.self.view_is c.self.invariant.1) g)))

pub returns-in-End-clause-stands : goal.returns-in-End-clause-stands
returns-in-End-clause-stands c = λ past k s.
    let P = λ (i : Item). StandsFor c.take_end.new.self (entry i c.take_end.result ∷ past) 0 in
    let Q = λ (h : Held). 0 < h.waits.decision_wait in
    let L = λ (h : Held). 0 < h.num_traces in
    let R = λ (h : Held). StandsFor h (entry (End c.in-End.sender) c.take_end.result ∷ past) 0 in
    let g = ready c.args.self.now past k (subst Q c.self.view_is c.self.invariant.0) (subst L c.self.view_is c.self.invariant.1) c.requires.nothing_due c.requires.running s in
    subst P (sym c.in-End.is) (subst R (sym c.take_end.ensures.after) (takes_end c.args.self.now c.in-End.sender c.take_end.result past k (subst L c.self.view_is c.self.invariant.1) g))

end_facts : (c : goal.After-take_end) (past : Journal) (k : ℕ) → StandsFor c.args.self.now past k → c.take_end.result ≡ answer_to (settings c.args.self.now) (entry c.args.item c.take_end.result) past
end_facts c past k s =
    let P = λ (i : Item). c.take_end.result ≡ answer_to (settings c.args.self.now) (entry i c.take_end.result) past in
    let Q = λ (h : Held). 0 < h.waits.decision_wait in
    let L = λ (h : Held). 0 < h.num_traces in
    let g = ready c.args.self.now past k (subst Q c.self.view_is c.self.invariant.0) (subst L c.self.view_is c.self.invariant.1) c.requires.nothing_due c.requires.running s in
    subst P (sym c.in-End.is) (c.take_end.ensures.answer ∙ ap (λ (h : Held). if is_finished h then Finished else Ended) c.take_end.ensures.after ∙ end-answer c.args.self.now c.in-End.sender c.take_end.result past k (subst L c.self.view_is c.self.invariant.1) g)

pub returns-in-End-clause-answer : goal.returns-in-End-clause-answer
returns-in-End-clause-answer c = λ past k s. end_facts c past k s

pub returns-in-End-clause-released : goal.returns-in-End-clause-released
returns-in-End-clause-released c = λ past k s.
    let Q = λ (h : Held). 0 < h.waits.decision_wait in
    let L = λ (h : Held). 0 < h.num_traces in
    take_released c.args.self.now c.args.item c.take_end.result past k (subst Q c.self.view_is c.self.invariant.0) (subst L c.self.view_is c.self.invariant.1) c.requires.nothing_due s (end_facts c past k s)

pub returns-in-End-clause-dropped : goal.returns-in-End-clause-dropped
returns-in-End-clause-dropped c = λ past k reason s.
    let Q = λ (h : Held). 0 < h.waits.decision_wait in
    let L = λ (h : Held). 0 < h.num_traces in
    take_dropped c.args.self.now c.args.item c.take_end.result past k reason (subst Q c.self.view_is c.self.invariant.0) (subst L c.self.view_is c.self.invariant.1) c.requires.nothing_due s (end_facts c past k s)

pub returns-in-Span-clause-released : goal.returns-in-Span-clause-released
returns-in-Span-clause-released c = λ past k s. take_released c.args.self.now c.args.item c.take_span.result past k (wait_of c) (limit_of c) c.requires.nothing_due s (span_facts c past k s).1

pub returns-in-Span-clause-dropped : goal.returns-in-Span-clause-dropped
returns-in-Span-clause-dropped c = λ past k reason s. take_dropped c.args.self.now c.args.item c.take_span.result past k reason (wait_of c) (limit_of c) c.requires.nothing_due s (span_facts c past k s).1

tick_answer : (c : goal.After-take_tick) (past : Journal) → c.take_tick.result ≡ answer_to (settings c.args.self.now) (entry c.args.item c.take_tick.result) past
tick_answer c past =
    let P = λ (i : Item). c.take_tick.result ≡ answer_to (settings c.args.self.now) (entry i c.take_tick.result) past in
    subst P (sym c.in-Tick.is) c.take_tick.ensures.answer

pub returns-in-Tick-clause-released : goal.returns-in-Tick-clause-released
returns-in-Tick-clause-released c = λ past k s.
    let Q = λ (h : Held). 0 < h.waits.decision_wait in
    let L = λ (h : Held). 0 < h.num_traces in
    take_released c.args.self.now c.args.item c.take_tick.result past k (subst Q c.self.view_is c.self.invariant.0) (subst L c.self.view_is c.self.invariant.1) c.requires.nothing_due s (tick_answer c past)

pub returns-in-Tick-clause-dropped : goal.returns-in-Tick-clause-dropped
returns-in-Tick-clause-dropped c = λ past k reason s.
    let Q = λ (h : Held). 0 < h.waits.decision_wait in
    let L = λ (h : Held). 0 < h.num_traces in
    take_dropped c.args.self.now c.args.item c.take_tick.result past k reason (subst Q c.self.view_is c.self.invariant.0) (subst L c.self.view_is c.self.invariant.1) c.requires.nothing_due s (tick_answer c past)

pub returns-in-Span-clause-fate : goal.returns-in-Span-clause-fate
returns-in-Span-clause-fate c = λ past k s.
    let P = λ (i : Item). c.take_span.result ≡ answer_to (settings c.args.self.now) (entry i c.take_span.result) past → TellsFate (settings c.args.self.now) past i c.take_span.result in
    let g = ready c.args.self.now past k (wait_of c) (limit_of c) c.requires.nothing_due c.requires.running s in
    subst P (sym c.in-Span.is) (λ e. tells_fate c.args.self.now c.in-Span.arrival past c.take_span.result (limit_of c) e) (span_facts c past k s).1

pub returns-in-Tick-clause-fate : goal.returns-in-Tick-clause-fate
returns-in-Tick-clause-fate c = λ past k s. let P = λ (i : Item). TellsFate (settings c.args.self.now) past i c.take_tick.result in subst P (sym c.in-Tick.is) tt

pub returns-in-End-clause-fate : goal.returns-in-End-clause-fate
returns-in-End-clause-fate c = λ past k s. let P = λ (i : Item). TellsFate (settings c.args.self.now) past i c.take_end.result in subst P (sym c.in-End.is) tt
