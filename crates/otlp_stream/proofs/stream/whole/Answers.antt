use Rattle.std.proofs.Common.{◌≡◌, [], arith}
use Rattle.otlp_reading.specs.Kinds.{message}
use Rattle.otlp_stream.proofs.Streaming.{whole_text_is}
use Rattle.otlp_stream.proofs.stream.whole.Goals as goal

pub returns-in-None : goal.returns-in-None
returns-in-None g c =
    let none : c.message.new.reader ≡ [] = grind arith in
    whole_text_is (message (g.B.Building.meaning c.args.keeps_doubles)) c.args.text.now c.message.new.reader _ (rw c.in_ok-reader.ensures.ok at c.in_ok-found.ensures.item) none
