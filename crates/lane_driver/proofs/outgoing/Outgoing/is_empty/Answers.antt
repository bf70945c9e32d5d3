use Rattle.std.proofs.Common.{◌≡◌, ◌≤◌, ◌∙◌, ap, eqb, length, rules}
use Rattle.lane_driver.specs.Looks.{is_sent}
use Rattle.lane_driver.proofs.Sent.{sent_at}
use Rattle.lane_driver.proofs.outgoing.Outgoing.is_empty.Goals as goal

pub returns-clause-sent : goal.returns-clause-sent
returns-clause-sent c =
    let all : c.len.result ≡ length c.self.inside.bytes.items = search rules in
    let within : c.self.inside.at ≤ length c.self.inside.bytes.items = search rules in
    ap (λ n. eqb c.self.inside.at n) all ∙ sent_at c.self.inside.at c.self.inside.bytes.items within ∙ ap is_sent c.self.view_is
