use Rattle.std.proofs.Common.{◌≡◌, vec_len, All}
use Rattle.collector_serve.specs.Sharing.{share_of, allowed_by}
use Rattle.collector_serve.proofs.serving.drivers.Given as goal

abbrev pub invariant-loop-lane : goal.invariant-loop-lane
invariant-loop-lane g l = (vec_len l.drivers ≡ l.lane) × All (λ it. it.allowed ≡ allowed_by l.config) l.drivers.items
    × All (λ it. it.driver.links.limit ≡ share_of l.config.max_connections l.config.lanes) l.drivers.items
