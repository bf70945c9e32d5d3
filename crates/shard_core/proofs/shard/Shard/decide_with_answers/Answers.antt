use Rattle.std.proofs.Common.{◌≡◌, ℕ, ◌<◌, false, Some, None, [], List, option_map, sym, ap, subst, ◌∙◌, inr}
use Rattle.std.specs.List.{find}
use Rattle.policy_tree.specs.Meaning.{meaning}
use Rattle.policy_eval.specs.Given.{verdict_given}
use Rattle.trace_buffer.specs.Buffer.{Episode, Buffer, is_due_at, with_settled}
use Rattle.otlp_types.specs.declared.arrival.Arrival.{Arrival}
use Rattle.span_ids.specs.declared.outcome.Verdict.{Verdict}
use Rattle.shard_core.specs.Taking.{Releases, DecidesWithAnswers, waiting}
use Rattle.shard_core.specs.Holding.{SettlesFirst, policies_on}
use Rattle.shard_core.specs.declared.answer.Decided.TheVariants.{Nothing}
use Rattle.shard_core.specs.Held.{Held, held_of, settings, StandsFor, due_by, has_due}
use Rattle.shard_core.specs.contracts.shard.Shard.{the_view}
use Rattle.shard_core.proofs.Forgetting.{settle_keeps}
use Rattle.std.specs.Option.{option_copied}
use Rattle.journal_theory.specs.Journal.{IsAnswered}
use Rattle.journal_theory.specs.Fate.{effect, effect_dealt}
use Rattle.shard_core.proofs.HeldSpans.{settle_spans, due_spans}
use Rattle.shard_core.proofs.Effects.{all_dealt, all_answered}
use Rattle.shard_core.proofs.Deciding.{nothing_due, decides_nothing, decides_some, decider_nothing, decider_some, told_nothing, told_some, waits_less}
use Rattle.shard_core.proofs.shard.Shard.decide_with_answers.Given.{Over}
use Rattle.shard_core.proofs.shard.Shard.decide_with_answers.Goals as goal

pub decide_on-verdict-requires-clause-spans : goal.decide_on-verdict-requires-clause-spans
decide_on-verdict-requires-clause-spans g c =
    let d = c.due_by-mark.result in due_spans d.0 d.1 d.2 c.self.inside.buffer.episodes c.in-Some.episode.now c.self.invariant.2 (sym c.next_due.ensures ∙ ap option_copied c.in-Some.is)

pub invariant_of-self : goal.invariant_of-self
invariant_of-self g c =
    let i = c.self.inside in
    let inv = c.self.invariant in
    let d = c.due_by-mark.result in
    let k = settle_keeps i.clock d.0 d.1 d.2 c.decide_on-verdict.result.verdict i.buffer c.settle-spans.new.self i.cache c.settle-spans.ensures.after (inv.1, inv.3, inv.4) in
    (inv.0, k.0, settle_spans d.0 d.1 d.2 c.decide_on-verdict.result.verdict i.buffer c.settle-spans.new.self c.settle-spans.ensures.after inv.2, k.1, k.2, rw c.decide_on-verdict.ensures.same inv.5)

-- ---- no episode was due

none_found : (h : Held) (d : ℕ × ℕ × ℕ) (es : List Episode) → d ≡ due_by h → find (is_due_at d.0 d.1 d.2) es ≡ None → find (is_due_at (due_by h).0 (due_by h).1 (due_by h).2) es ≡ None
none_found h d es e none = subst (λ (x : ℕ × ℕ × ℕ). find (is_due_at x.0 x.1 x.2) es ≡ None) e none

pub returns-in_default-clause-nothing : goal.returns-in_default-clause-nothing
returns-in_default-clause-nothing g c = λ _.
    let none = none_found (the_view c.self.inside) _ c.self.inside.buffer.episodes (c.due_by-mark.ensures ∙ ap due_by (sym c.self.view_is)) (sym c.next_due.ensures ∙ ap option_copied c.in_default.is) in
    subst (λ (x : Held). has_due x ≡ false) c.self.view_is (nothing_due (the_view c.self.inside) c.self.invariant.3 none)

pub returns-in_default-clause-decides : goal.returns-in_default-clause-decides
returns-in_default-clause-decides g c =
    let inv = c.self.invariant in
    let asks = g.L.Limiter.asks in
    let limiter = c.args.limiter.now in
    let none = none_found (the_view c.self.inside) _ c.self.inside.buffer.episodes (c.due_by-mark.ensures ∙ ap due_by (sym c.self.view_is)) (sym c.next_due.ensures ∙ ap option_copied c.in_default.is) in
    let P = λ (x : Held). DecidesWithAnswers asks x x Nothing None c.new.result.items limiter limiter in
    let Q = λ (x : Held). DecidesWithAnswers asks x c.search.new.self Nothing None c.new.result.items limiter limiter in
    subst Q c.search.ensures (subst P c.self.view_is (
      [],
      λ past k s.
          let did = decides_nothing asks (the_view c.self.inside) inv.0 inv.1 inv.3 limiter past k none s in
          (did.0, did.1, did.2, decider_nothing asks (the_view c.self.inside) inv.0 inv.1 inv.3 past k none s, told_nothing asks (the_view c.self.inside) inv.0 inv.1 inv.3 c.new.result.items past k none c.new.ensures s),
    ))

pub returns-in_default-clause-all_dealt : goal.returns-in_default-clause-all_dealt
returns-in_default-clause-all_dealt g c = λ _ past k s.
    let none = none_found (the_view c.self.inside) _ c.self.inside.buffer.episodes (c.due_by-mark.ensures ∙ ap due_by (sym c.self.view_is)) (sym c.next_due.ensures ∙ ap option_copied c.in_default.is) in
    let P = λ (x : Held). StandsFor x past k → effect_dealt (settings x) past k ≡ effect (settings x) past in
    subst P (c.self.view_is ∙ c.search.ensures) (all_dealt (the_view c.self.inside) past k c.self.invariant.0 c.self.invariant.1 (nothing_due (the_view c.self.inside) c.self.invariant.3 none)) s

pub returns-in_default-clause-answered : goal.returns-in_default-clause-answered
returns-in_default-clause-answered g c = λ _ past k s.
    let none = none_found (the_view c.self.inside) _ c.self.inside.buffer.episodes (c.due_by-mark.ensures ∙ ap due_by (sym c.self.view_is)) (sym c.next_due.ensures ∙ ap option_copied c.in_default.is) in
    let P = λ (x : Held). StandsFor x past k → IsAnswered (settings x) past in
    subst P (c.self.view_is ∙ c.search.ensures) (all_answered (the_view c.self.inside) past k c.self.invariant.0 c.self.invariant.1 (nothing_due (the_view c.self.inside) c.self.invariant.3 none)) s

-- ---- an episode was due

due_found : (g : Over) (c : goal.After-decided g) → find (is_due_at c.due_by-mark.result.0 c.due_by-mark.result.1 c.due_by-mark.result.2) c.self.inside.buffer.episodes ≡ Some c.in-Some.episode.now
due_found g c = sym c.next_due.ensures ∙ ap option_copied c.in-Some.is

abbrev new_held : (g : Over) (c : goal.After-decided g) → Held
new_held g c = let i = c.self.inside in held_of i.policies i.waits c.settle-spans.new.self i.cache i.clock i.mark i.ends.items

settles : (g : Over) (c : goal.After-decided g) → SettlesFirst (the_view c.self.inside) c.due_by-mark.result.0 c.due_by-mark.result.1 c.due_by-mark.result.2 c.decide_on-verdict.ensures.evaluates.0 c.decided.result (new_held g c)
settles g c = λ e f.
    let i = c.self.inside in
    let d = c.due_by-mark.result in
    let policies = policies_on (meaning i.policies) in
    let answers = c.decide_on-verdict.ensures.evaluates.0 in
    let same : c.in-Some.episode.now ≡ e = cc (due_found g c, f) in
    let v = c.decide_on-verdict.result.verdict in
    let verdict : v ≡ verdict_given (policies e) answers e.spans = c.decide_on-verdict.ensures.evaluates.1 ∙ ap (λ (y : Episode). verdict_given (policies y) answers y.spans) same in
    let R = λ (ms : List Arrival). Releases c.decided.result ms v in
    let released : c.settle-spans.result.items ≡ e.spans = cc (c.settle-spans.ensures.spans ∙ ap (option_map (λ (y : Episode). y.spans)) f) in
    let V = λ (x : Verdict). Releases c.decided.result e.spans x in
    let put = λ (b : Buffer). held_of i.policies i.waits b i.cache i.clock i.mark i.ends.items in
    (subst V verdict (subst R released c.decided.ensures), ap put c.settle-spans.ensures.after ∙ ap (λ (x : Verdict). put (with_settled d.0 d.1 d.2 x i.buffer)) verdict)

pub returns-clause-decides : goal.returns-clause-decides
returns-clause-decides g c =
    let h = the_view c.self.inside in
    let inv = c.self.invariant in
    let asks = g.L.Limiter.asks in
    let e = c.in-Some.episode.now in
    let before = c.args.limiter.now in
    let after = c.decide_on-verdict.new.limiter in
    let made = c.decide_on-verdict.ensures.evaluates in
    let answers = made.0 in
    let decider = c.decide_on-verdict.result.decider in
    let P = λ (x : Held). DecidesWithAnswers asks x (new_held g c) c.decided.result decider c.decide_on-verdict.result.answers.items before after in
    let by : c.due_by-mark.result ≡ due_by h = c.due_by-mark.ensures ∙ ap due_by (sym c.self.view_is) in
    let F = λ (d : ℕ × ℕ × ℕ). find (is_due_at d.0 d.1 d.2) c.self.inside.buffer.episodes ≡ Some e in
    let S = λ (d : ℕ × ℕ × ℕ). SettlesFirst h d.0 d.1 d.2 answers c.decided.result (new_held g c) in
    subst P (c.self.view_is ∙ c.search.ensures) (
      answers,
      λ past k s.
          let did = decides_some asks h inv.0 inv.1 inv.3 (new_held g c) c.decided.result before after answers e past k (subst F by (due_found g c)) (subst S by (settles g c)) made.2 made.3 s in
          (did.0, did.1, did.2, decider_some asks h inv.0 inv.1 inv.3 answers decider e past k (subst F by (due_found g c)) made.4 s, told_some asks h inv.0 inv.1 inv.3 answers c.decide_on-verdict.result.answers.items e past k (subst F by (due_found g c)) made.5 s),
    )

pub returns-clause-fewer : goal.returns-clause-fewer
returns-clause-fewer g c =
    let P = λ (x : Held). waiting (new_held g c) < waiting x in
    inr (subst P (c.self.view_is ∙ c.search.ensures) (waits_less (the_view c.self.inside) (new_held g c) c.due_by-mark.result.0 c.due_by-mark.result.1 c.due_by-mark.result.2 c.decide_on-verdict.ensures.evaluates.0 c.in-Some.episode.now c.decided.result (due_found g c) (settles g c)))
