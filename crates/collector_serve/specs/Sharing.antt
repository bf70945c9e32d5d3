-- How many connections each lane may have, and what is allowed to clients.
use Rattle.std.specs.Prelude.{ℕ, ◌*◌, ◌-◌, ◌^◌, min, ◌/◌, ◌==◌, length, if◌then◌else◌, nat_le}
use Rattle.http_text.specs.declared.allowed.Allowed.{Allowed}
use Rattle.tsc_config.specs.declared.config.Config.{Config}

-- its share of those that may be open at once, and one at least
abbrev pub share_of : (connections lanes : ℕ) → ℕ
share_of connections lanes = if nat_le lanes connections then connections / lanes else 1

-- packed bodies are taken where the configuration says so, a client may close where there is no address for those in
-- charge, and a body may have at most `max_request_mib`
abbrev pub allowed_by : Config → Allowed
allowed_by config = record { gzip = config.accept_gzip; protobuf = config.accept_protobuf; close = length config.admin == 0; body_limit = min (config.max_request_mib * 1048576) (2 ^ 32 - 1) }
