use Rattle.output_file.proofs.Segments.{last_ends}
use Rattle.output_file.proofs.output.line_end_after.Goals as goal

pub returns-in-Some : goal.returns-in-Some
returns-in-Some c = last_ends c.args.before c.args.taken.now c.in-Some.byte.now c.in-Some.ensures.value
