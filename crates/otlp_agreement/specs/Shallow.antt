-- How deep the JSON of a request nests.
use Rattle.std.specs.Prelude.{◌≤◌}
use Rattle.serde_json.specs.Data.{depth}
use Rattle.otlp_types.specs.declared.request.Request.{Request}
use Rattle.otlp_json.specs.Writing.{data_of}
use Rattle.otlp_protobuf.specs.Values.{most_levels}
use Rattle.otlp_protobuf.specs.Nesting.{RequestNests}

-- that of one whose values nest as deep as protobuf's are read is read, too
abbrev pub NestsAsDeep : Type 0
NestsAsDeep = (r : Request) → RequestNests most_levels r → depth (data_of r) ≤ 127
