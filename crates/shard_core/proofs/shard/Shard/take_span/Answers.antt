use Rattle.std.proofs.Common.{◌≡◌, ℕ, ◌≤◌, max, Option, sym, subst, ◌∙◌, arith}
use Rattle.otlp_types.specs.declared.span.Ids.{Ids}
use Rattle.std.proofs.Common.{Some, false}
use Rattle.trace_buffer.specs.Buffer.{Appended, Opened, episode_of}
use Rattle.decision_cache.specs.Lists.{CacheLists, is_held_in_either}
use Rattle.shard_core.proofs.Forgetting.{IsKept, append_keeps, ask_keeps, later_keeps, asked-nothing}
use Rattle.shard_core.proofs.HeldSpans.{append_spans}
use Rattle.shard_core.specs.Held.{Held, held_of}
use Rattle.shard_core.specs.Holding.{TakesSpan, TakesSpanOf}
use Rattle.shard_core.specs.contracts.shard.Shard.{the_view}
use Rattle.shard_core.proofs.Codes.{no_episode}
use Rattle.shard_core.proofs.Opening.{opening_keeps, opening_spans, opening_takes}
use Rattle.shard_core.proofs.shard.Shard.take_span.Goals.{After-find}
use Rattle.shard_core.proofs.shard.Shard.take_span.Goals as goal

later : (moment clock now : ℕ) → now ≡ max moment clock → clock ≤ now
later moment clock now e = omega (arith, e)

-- the invariant at the later clock
kept : (c : After-find) → IsKept c.max-self-inside.result c.self.inside.buffer c.self.inside.cache
kept c =
    let i = c.self.inside in
    let inv = c.self.invariant in
    let now = c.max-self-inside.result in
    later_keeps i.clock now i.buffer i.cache (later c.args.arrival.moment i.clock now c.max-self-inside.ensures) (inv.1, inv.3, inv.4)

pub invariant_of-self : goal.invariant_of-self
invariant_of-self c =
    let i = c.self.inside in
    let inv = c.self.invariant in
    let now = c.max-self-inside.result in
    let k = kept (goal.at.invariant_of-self c).After-find in
    let P = λ (o : Option Ids). Appended i.buffer c.args.arrival o now c.append.result c.append.new.buffer in
    let a = append_keeps now i.buffer c.append.new.buffer i.cache c.args.arrival c.unwrap-ids.result.trace c.append.result (subst P (sym c.ids_of.ensures ∙ c.unwrap-ids.ensures) c.append.ensures.appended) k in
    let g = append_spans now i.buffer c.append.new.buffer c.args.arrival c.unwrap-ids.result.trace c.append.result (subst P (sym c.ids_of.ensures ∙ c.unwrap-ids.ensures) c.append.ensures.appended) inv.2 in
    (inv.0, a.0, g, a.1, a.2, inv.5)

pub invariant_of-self-in-Some-Decided : goal.invariant_of-self-in-Some-Decided
invariant_of-self-in-Some-Decided c =
    let inv = c.self.invariant in
    let k = kept (goal.at.invariant_of-self-in-Some-Decided c).After-find in
    (inv.0, k.0, inv.2, k.1, k.2, inv.5)

pub invariant_of-self-in-Some : goal.invariant_of-self-in-Some
invariant_of-self-in-Some c =
    let inv = c.self.invariant in
    let a = ask_keeps c.max-self-inside.result c.self.inside.buffer c.unwrap-ids.result.trace c.self.inside.cache c.ask.new.self c.ask.ensures.lists (kept (goal.at.invariant_of-self-in-Some c).After-find) in
    (inv.0, a.0, inv.2, a.1, a.2, inv.5)

pub open-requires-clause-clock : goal.open-requires-clause-clock
open-requires-clause-clock c = (kept (goal.at.open-requires-clause-clock c).After-find).1

pub invariant_of-self-in-None-ask : goal.invariant_of-self-in-None-ask
invariant_of-self-in-None-ask c =
    let i = c.self.inside in
    let inv = c.self.invariant in
    let now = c.max-self-inside.result in
    let ids = c.unwrap-ids.result in
    let a = ask_keeps now i.buffer ids.trace i.cache c.ask.new.self c.ask.ensures.lists (kept (goal.at.invariant_of-self-in-None-ask c).After-find) in
    let P = λ (o : Option Ids). Opened i.buffer c.args.arrival o now i.waits.maximum_trace_size c.open.result c.open.new.buffer in
    let is_opened = subst P (sym c.ids_of.ensures ∙ c.unwrap-ids.ensures) c.open.ensures.opened in
    let none = no_episode (episode_of ids.trace i.buffer.episodes) (sym c.find.ensures ∙ c.in-None.is) in
    let nothing = asked-nothing ids.trace i.cache (sym c.ask.ensures.verdict ∙ c.in-None-ask.is) in
    let out = λ (l : CacheLists). is_held_in_either ids.trace l ≡ false in
    let r = opening_keeps now i.waits.maximum_trace_size i.buffer c.open.new.buffer c.ask.new.self c.opened.new.cache c.args.arrival ids c.opened.result c.open.result is_opened c.opened.ensures none (subst out (sym (c.ask.ensures.lists ∙ nothing.1)) nothing.0) a in
    (inv.0, r.0, opening_spans now i.waits.maximum_trace_size i.buffer c.open.new.buffer c.args.arrival ids c.open.result is_opened inv.2, r.1, r.2, inv.5)

pub returns-in-None-ask-clause-takes : goal.returns-in-None-ask-clause-takes
returns-in-None-ask-clause-takes c =
    let i = c.self.inside in
    let a = c.args.arrival in
    let now = c.max-self-inside.result in
    let ids = c.unwrap-ids.result in
    let by : a.rec.span.ids ≡ Some ids = sym c.ids_of.ensures ∙ c.unwrap-ids.ensures in
    let P = λ (o : Option Ids). Opened i.buffer a o now i.waits.maximum_trace_size c.open.result c.open.new.buffer in
    let N = λ (n : ℕ). Opened i.buffer a (Some ids) n i.waits.maximum_trace_size c.open.result c.open.new.buffer in
    let is_opened = subst N c.max-self-inside.ensures (subst P by c.open.ensures.opened) in
    let unasked = sym c.ask.ensures.verdict ∙ c.in-None-ask.is in
    let same : c.ask.new.self ≡ i.cache = c.ask.ensures.lists ∙ (asked-nothing ids.trace i.cache unasked).1 in
    let T = opening_takes i.policies i.waits i.buffer i.cache i.clock i.mark i.ends.items a ids c.opened.result c.open.result (sym c.find.ensures ∙ c.in-None.is) unasked
    c.open.new.buffer c.ask.new.self c.opened.new.cache same is_opened c.opened.ensures in
    let C = λ (n : ℕ). TakesSpanOf (the_view i) a ids.trace c.opened.result (held_of i.policies i.waits c.open.new.buffer c.opened.new.cache n i.mark i.ends.items) in
    let there = subst C (sym c.max-self-inside.ensures) T in
    let V = λ (h : Held). TakesSpanOf h a ids.trace c.opened.result (held_of i.policies i.waits c.open.new.buffer c.opened.new.cache now i.mark i.ends.items) in
    let O = λ (o : Option Ids). TakesSpan c.args.self.now a o c.opened.result (held_of i.policies i.waits c.open.new.buffer c.opened.new.cache now i.mark i.ends.items) in
    subst O (sym by) (subst V c.self.view_is there)
