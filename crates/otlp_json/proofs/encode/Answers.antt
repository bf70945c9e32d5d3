use Rattle.std.proofs.Common.{Some, ap, ◌∙◌}
use Rattle.otlp_json.specs.Writing.{data_of}
use Rattle.otlp_json.proofs.Encoding.{encoded, reads-again}
use Rattle.otlp_json.proofs.Discards.{left_out, nothing_left_out}
use Rattle.otlp_json.proofs.encode.Goals as goal

pub returns-clause-text : goal.returns-clause-text
returns-clause-text c =
    c.into_inner.ensures.items
    ∙ encoded (data_of c.args.request.now) c.new-out.result c.write.new.out (c.new-out.ensures.before ∙ c.in_ok-with_capacity.ensures.items) c.new-out.ensures.tokens c.in_ok-write.ensures.fields

pub returns-clause-back : goal.returns-clause-back
returns-clause-back c = λ shallow. (
  reads-again (data_of c.args.request.now) c.new-out.result c.write.new.out c.into_inner.result.items (c.new-out.ensures.before ∙ c.in_ok-with_capacity.ensures.items) c.new-out.ensures.tokens c.in_ok-write.ensures.fields
      c.into_inner.ensures.items c.into_inner.ensures.reads_back c.into_inner.ensures.utf8 c.in_ok-write.ensures.back.canonical shallow,
  c.in_ok-write.ensures.back.again shallow,
)

pub returns-clause-without : goal.returns-clause-without
returns-clause-without c = λ shallow. left_out (data_of c.args.request.now) c.args.request.now (c.in_ok-write.ensures.back.again shallow)

pub returns-clause-back_discarding : goal.returns-clause-back_discarding
returns-clause-back_discarding c = λ shallow none.
    left_out (data_of c.args.request.now) c.args.request.now (c.in_ok-write.ensures.back.again shallow)
    ∙ ap Some (nothing_left_out c.args.request.now none)
