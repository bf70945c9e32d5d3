use Rattle.std.proofs.Common.{sym, arith}
use Rattle.std.proofs.lemmas.List.{length-take-le, take_all}
use Rattle.http_text.specs.declared.lines.TheConstants.{PART_LIMIT}
use Rattle.http_text.proofs.lines.front.Goals as goal

pub slice_bounds-result-end : goal.slice_bounds-result-end
slice_bounds-result-end c = sym (length-take-le PART_LIMIT c.args.stream.now (omega arith))

pub returns : goal.returns
returns c = sym (take_all PART_LIMIT c.args.stream.now (omega arith))
