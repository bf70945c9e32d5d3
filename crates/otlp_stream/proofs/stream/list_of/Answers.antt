use Rattle.std.proofs.Common.{◌-◌, [], ◌∷◌, ◌++◌, Some, sym, ap, ◌∙◌, arith}
use Rattle.otlp_reading.specs.Kinds.{message}
use Rattle.otlp_stream.proofs.Streaming.{WithinItems-start, WithinItems-next, each-push, list_array}
use Rattle.otlp_stream.proofs.stream.list_of.Goals as goal

pub items-init : goal.items-init
items-init g c = ([], WithinItems-start (c.args.depth - 1) c.begin_array.new.reader, ap Some (sym c.new-all.ensures))

pub items-preserved : goal.items-preserved
items-preserved g c =
    let l = c.items in
    let w = l.invariant in
    let t = c.in_ok-message.ensures.item in (
      w.0 ++ t.found ∷ [],
      WithinItems-next (c.args.depth - 1) c.begin_array.new.reader l.reader w.0 c.take_end_array.new.self c.message.new.reader t.found w.1 (grind arith) (grind arith) t.takes,
      each-push (message (g.B.Building.meaning c.args.keeps_doubles)) w.0 t.found l.all c.in_ok-message.field-0 w.2 t.is ∙ ap Some {x = l.all ++ c.in_ok-message.field-0 ∷ []} (sym c.in_ok-push.ensures.ok),
    )

pub returns-then-take_end_array : goal.returns-then-take_end_array
returns-then-take_end_array g c =
    let l = c.items in
    let w = l.invariant in
    list_array (message (g.B.Building.meaning c.args.keeps_doubles)) l.all c.args.depth c.args.reader.now c.begin_array.new.reader l.reader c.take_end_array.new.self w.0 c.in_ok-begin_array.ensures.deep
    c.in_ok-begin_array.ensures.begins w.1 (grind arith) w.2
