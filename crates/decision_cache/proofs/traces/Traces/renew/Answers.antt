use Rattle.std.proofs.Common.{◌≡◌, Some, sym, ap, ◌∙◌}
use Rattle.decision_cache.specs.Lists.{TraceList, traces_of, is_held, renewed}
use Rattle.lru.specs.LruCache.{LruCache}
use Rattle.span_ids.specs.declared.ids.TraceId.{TraceId}
use Rattle.decision_cache.proofs.Entries.{keys-promoted, is_held-lookup}
use Rattle.decision_cache.proofs.traces.Traces.renew.Goals as goal

now_is : (c : goal.After-promote) → traces_of (Some c.in-Some.cache) ≡ c.args.self.now
now_is c = sym (ap traces_of c.in-Some.is) ∙ c.self.view_is

pub returns-clause-held : goal.returns-clause-held
returns-clause-held c = c.promote.ensures.value ∙ is_held-lookup c.args.trace c.in-Some.cache.entries ∙ ap (λ (l : TraceList). is_held c.args.trace l.traces) (now_is c)

pub returns-clause-after : goal.returns-clause-after
returns-clause-after c =
    ap (λ (x : LruCache TraceId (Unit {0})). traces_of (Some x)) c.promote.ensures.entries
    ∙ ap (λ ts. record { traces = ts; size = c.in-Some.cache.cap }) (keys-promoted c.args.trace c.in-Some.cache.entries)
    ∙ ap (λ (l : TraceList). record l { traces = renewed c.args.trace l.traces }) (now_is c)
