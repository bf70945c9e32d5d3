use Rattle.std.proofs.lemmas.Result.{err_from_is_err_and}
use Rattle.otlp_protobuf.proofs.Merging.{Merges-next, Merges-refused, Merges-fault, Merges-done}
use Rattle.otlp_protobuf.proofs.message.merge.Goals as goal

pub fields-preserved : goal.fields-preserved
fields-preserved g c = Merges-next (g.B.Building.step c.args.keeps_doubles) c.args.built.now c.args.bytes.now c.fields.built c.fields.fields c.next.new.self c.in_ok-field.field-0 c.in-Some.field c.take.new.self c.fields.invariant c.in_ok-field.ensures.first c.in-Some.is c.in_ok-take.ensures

pub returns-in_err-take : goal.returns-in_err-take
returns-in_err-take g c =
    let p = err_from_is_err_and c.from_residual-in_err-take.result c.from_residual-in_err-take.ensures.1 in
    rw (p.1, p.2) (Merges-refused (g.B.Building.step c.args.keeps_doubles) c.args.built.now c.args.bytes.now c.fields.built c.fields.fields c.next.new.self c.in_ok-field.field-0 c.in-Some.field c.in_err-take.field-0.0 c.fields.invariant c.in_ok-field.ensures.first c.in-Some.is c.in_err-take.ensures)

pub returns : goal.returns
returns g c = Merges-done (g.B.Building.step c.args.keeps_doubles) c.args.built.now c.args.bytes.now c.fields.built c.fields.fields c.next.new.self c.in_ok-field.field-0 c.fields.invariant c.in_ok-field.ensures.first c.in_default.is

pub returns-in_err-field : goal.returns-in_err-field
returns-in_err-field g c =
    let p = err_from_is_err_and c.from_residual.result c.from_residual.ensures.1 in
    rw (p.1, p.2) (Merges-fault (g.B.Building.step c.args.keeps_doubles) c.args.built.now c.args.bytes.now c.fields.built c.fields.fields c.next.new.self c.in_err-field.field-0.0 c.fields.invariant c.in_err-field.ensures.first)
