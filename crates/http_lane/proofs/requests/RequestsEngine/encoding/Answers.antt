use Rattle.std.proofs.Common.{◌∙◌, subst, sym}
use Rattle.http_lane.specs.Requests.{Stands}
use Rattle.http_lane.proofs.RequestLemmas.{encoding_awaited}
use Rattle.http_lane.proofs.requests.RequestsEngine.encoding.Goals as goal

pub returns-clause-stands : goal.returns-clause-stands
returns-clause-stands c = λ r s.
    let e = c.self.inside in
    c.encoding_of.ensures ∙ encoding_awaited e.allowed e.stage e.input.rest e.parts r (subst (λ x. Stands x r) (sym c.self.view_is) s)

pub returns-clause-awaits : goal.returns-clause-awaits
returns-clause-awaits c = λ r s.
    let e = c.self.inside in
    c.encoding_of.ensures ∙ encoding_awaited e.allowed e.stage e.input.rest e.parts r (subst (λ x. Stands x r) (sym c.self.view_is) s.0)
