use Rattle.std.proofs.lemmas.Result.{err_from_is_err_and}
use Rattle.otlp_protobuf.specs.declared.protobuf_fault.ProtobufFault.TheVariants.{Wire}
use Rattle.otlp_protobuf.specs.declared.decode_error.DecodeError.TheVariants.{Refused}
use Rattle.otlp_protobuf.proofs.Merging.{Merges-next, Merges-refused, Merges-fault, Merges-done}
use Rattle.post_socket.specs.Rejected as spec
use Rattle.post_socket.proofs.rejected.response.Goals as goal

pub returns-in_err-field : goal.returns-in_err-field
returns-in_err-field c =
    let p = err_from_is_err_and c.from_residual.result c.from_residual.ensures.1 in
    rw (p.1, p.2) (Merges-fault spec.response_step 0 c.args.body.now c.fields.rejected c.fields.fields c.next.new.self c.in_err-field.field-0.0 c.fields.invariant c.in_err-field.ensures.first)

pub returns-in_err-rejected : goal.returns-in_err-rejected
returns-in_err-rejected c =
    let p = err_from_is_err_and c.from_residual-in_err-rejected.result c.from_residual-in_err-rejected.ensures.1 in
    rw (p.1, p.2) (Merges-refused spec.response_step 0 c.args.body.now c.fields.rejected c.fields.fields c.next.new.self c.in_ok-field.field-0 c.in-Some.field (Refused (Wire c.in_err-rejected.field-0.0)) c.fields.invariant c.in_ok-field.ensures.first c.in-Some.is c.in_err-rejected.ensures)

pub fields-preserved : goal.fields-preserved
fields-preserved c =
    Merges-next spec.response_step 0 c.args.body.now c.fields.rejected c.fields.fields c.next.new.self c.in_ok-field.field-0 c.in-Some.field c.in_ok-rejected.rejected
    c.fields.invariant c.in_ok-field.ensures.first c.in-Some.is c.in_ok-rejected.ensures

pub returns : goal.returns
returns c = Merges-done spec.response_step 0 c.args.body.now c.fields.rejected c.fields.fields c.next.new.self c.in_ok-field.field-0 c.fields.invariant c.in_ok-field.ensures.first c.in_default.is
