use Rattle.otlp_reading.specs.Kinds.{message}
use Rattle.otlp_reading.proofs.Each.{ReadsTo}
use Rattle.otlp_reading.proofs.message.each.Given as goal

abbrev pub invariant-loop-item : goal.invariant-loop-item
invariant-loop-item g l = ReadsTo (message (g.T.Message.meaning l.fn.keeps_doubles)) l.items l.item-index l.all
