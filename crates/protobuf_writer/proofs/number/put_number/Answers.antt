use Rattle.std.proofs.Common.{◌++◌, ◌∙◌, sym, ap}
use Rattle.protobuf_writer.proofs.Numbers.{last}
use Rattle.protobuf_writer.proofs.number.put_number.Goals as goal

pub returns-then-number-lt128 : goal.returns-then-number-lt128
returns-then-number-lt128 c = c.in_ok-push.ensures.items ∙ ap (λ s. c.args.out.now.items ++ s) (sym (last 9 c.args.number c.if-number-lt128.true))
