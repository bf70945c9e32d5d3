use Rattle.std.proofs.Common.{◌+◌, subst, sym, arith, add-one}
use Rattle.ledger_text.proofs.Scripts.{SoFar, at_most_one, next, one_then, whole}
use Rattle.ledger_text.proofs.script.script_of.Goals as goal

pub loop-request-preserved : goal.loop-request-preserved
loop-request-preserved c =
    let place = c.loop-request.request-index in
    let requests = c.args.requests.now in
    let request = c.request-item.result in
    let more = c.put_line.new.lines.items in
    let few = at_most_one c.in_ok-has_line.has_line c.left_by-left_out.result c.left_by-left_out.ensures in
    let found = next requests place request c.loop-request.lines.items more c.loop-request.left_out c.left_by-left_out.result c.in_ok-has_line.has_line
    (one_then requests place request c.loop-request-test.true c.request-item.is) c.left_by-left_out.ensures c.loop-request.invariant.so_far c.in_ok-has_line.ensures in
    record {
      within = omega (arith, few, c.loop-request.invariant.within);
      so_far = subst (λ p. SoFar requests p more (c.loop-request.left_out + c.left_by-left_out.result)) (sym (add-one place)) found;
    }

pub returns : goal.returns
returns c = whole c.args.requests.now c.loop-request.request-index c.loop-request.lines.items c.loop-request.left_out c.loop-request-test.false c.loop-request.invariant.so_far
