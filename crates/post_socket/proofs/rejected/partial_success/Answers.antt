use Rattle.std.proofs.Common.{ap, sym, Ok}
use Rattle.std.proofs.lemmas.Result.{err_from_is_err_and}
use Rattle.otlp_protobuf.proofs.Merging.{Merges-next, Merges-fault, Merges-done}
use Rattle.post_socket.specs.Rejected as spec
use Rattle.post_socket.proofs.rejected.partial_success.Goals as goal

pub returns-in_err-field : goal.returns-in_err-field
returns-in_err-field c =
    let p = err_from_is_err_and c.from_residual.result c.from_residual.ensures.1 in
    rw (p.1, p.2) (Merges-fault spec.spans_step c.args.before c.args.bytes.now c.inside.rejected c.inside.fields c.next.new.self c.in_err-field.field-0.0 c.inside.invariant c.in_err-field.ensures.first)

pub inside-preserved : goal.inside-preserved
inside-preserved c =
    Merges-next spec.spans_step c.args.before c.args.bytes.now c.inside.rejected c.inside.fields c.next.new.self c.in_ok-field.field-0 c.in-Some.field c.spans_with-rejected.result
    c.inside.invariant c.in_ok-field.ensures.first c.in-Some.is (ap Ok (sym c.spans_with-rejected.ensures))

pub returns : goal.returns
returns c = Merges-done spec.spans_step c.args.before c.args.bytes.now c.inside.rejected c.inside.fields c.next.new.self c.in_ok-field.field-0 c.inside.invariant c.in_ok-field.ensures.first c.in_default.is
