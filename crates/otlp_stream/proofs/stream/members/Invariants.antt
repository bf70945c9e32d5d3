use Rattle.serde_json.specs.Data.{Members}
use Rattle.otlp_stream.specs.Taking.{Within, fields_of}
use Rattle.otlp_stream.proofs.stream.members.Given as goal

abbrev pub invariant-members : goal.invariant-members
invariant-members g l = (found : Members) × Within l.depth l.fn.reader l.reader found × g.B.Building.so_far l.fn.keeps_doubles (fields_of found) l.built
