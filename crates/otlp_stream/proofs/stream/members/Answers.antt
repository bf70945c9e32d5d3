use Rattle.std.proofs.Common.{◌≡◌, Some, None, subst, arith}
use Rattle.json.specs.Json.{read_key}
use Rattle.serde_json.specs.Data.{no_members, put}
use Rattle.otlp_stream.specs.Taking.{fields_of}
use Rattle.otlp_stream.proofs.Named.{fields_put}
use Rattle.otlp_stream.proofs.Streaming.{Within-start, Within-member, Within-end}
use Rattle.otlp_stream.proofs.stream.members.Goals as goal

pub members-init : goal.members-init
members-init g c = (no_members, Within-start c.args.depth c.args.reader.now, c.start-built.ensures c.args.keeps_doubles)

pub members-preserved : goal.members-preserved
members-preserved g c =
    let l = c.members in
    let w = l.invariant in
    let f = c.in_ok-field.ensures in
    let named : read_key l.reader ≡ Some (Some c.in-Some.name.now, c.next_key.new.self) = rw c.in-Some.is at c.in_ok-name.ensures.value in (
      put c.in-Some.name.now f.found w.0,
      Within-member c.args.depth c.args.reader.now l.reader w.0 c.in-Some.name.now c.next_key.new.self c.field.new.reader f.found w.1 named f.takes,
      subst (λ seen. g.B.Building.so_far c.args.keeps_doubles seen c.field.new.self) (fields_put c.in-Some.name.now f.found w.0) (f.keeps (fields_of w.0) w.2),
    )

pub returns-in_default : goal.returns-in_default
returns-in_default g c =
    let l = c.members in
    let w = l.invariant in
    let over : read_key l.reader ≡ Some (None, c.next_key.new.self) = grind arith in
    Within-end (g.B.Building.meaning c.args.keeps_doubles) c.build.result c.args.depth c.args.reader.now l.reader w.0 c.next_key.new.self w.1 over (c.build.ensures c.args.keeps_doubles w.0 w.2)
