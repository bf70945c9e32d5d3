use Rattle.std.proofs.Common.{Some, sym, ap, ◌∙◌}
use Rattle.decision_cache.specs.Lists.{TraceList, traces_of, is_held}
use Rattle.decision_cache.proofs.Entries.{is_held-lookup}
use Rattle.decision_cache.proofs.traces.Traces.has.Goals as goal

pub returns : goal.returns
returns c = c.contains.ensures ∙ is_held-lookup c.args.trace c.in-Some.cache.entries ∙ ap (λ (l : TraceList). is_held c.args.trace l.traces) (sym (ap traces_of c.in-Some.is) ∙ c.self.view_is)
