-- What a configuration says of requests to a backend.
use Rattle.std.specs.Prelude.{ℕ, ◌*◌, ◌-◌, ◌/◌, ◌^◌, min, max, List, ◌∷◌, map, codes}
use Rattle.http1.specs.Fields.{Header}
use Rattle.otlp_encoding.specs.declared.encoding.Encoding.{Encoding}
use Rattle.otlp_encoding.specs.MediaTypes.{media_type}
use Rattle.tsc_config.specs.declared.config.Config.{Config}
use Rattle.tsc_config.specs.declared.headers.HeaderField.{HeaderField}

-- the name and the value of a field of a configuration
abbrev pub parts_of : HeaderField → Header
parts_of field = (field.name, field.value)

-- the fields of a request to this host and port: where it goes, what its body is, and those of the configuration
abbrev pub request_fields : (authority : List ℕ) → Encoding → List HeaderField → List Header
request_fields authority encoding headers = (codes "Host", authority) ∷ (codes "Content-Type", media_type encoding) ∷ map parts_of headers

-- a shard's share of this number of full batches, in spans, rounded down, and at least `spans`
abbrev pub room_of : (batches size shards spans : ℕ) → ℕ
room_of batches size shards spans = max (min (batches * size) (2 ^ 64 - 1) / shards) spans

-- how many spans wait between a shard and the backend
abbrev pub export_room : Config → ℕ
export_room config = room_of config.export.queue_batches config.send_batch_size config.shards config.export_capacity
