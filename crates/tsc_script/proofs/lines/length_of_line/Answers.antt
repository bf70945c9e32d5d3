use Rattle.std.proofs.Common.{length}
use Rattle.tsc_script.proofs.Reading.{no-line-feed}
use Rattle.tsc_script.proofs.lines.length_of_line.Goals as goal

pub returns-in-Some-clause-plain : goal.returns-in-Some-clause-plain
returns-in-Some-clause-plain c = no-line-feed c.args.bytes.now c.in-Some.at (rw c.in-Some.is at c.memchr.ensures).0.before

pub returns-in-None-clause-plain : goal.returns-in-None-clause-plain
returns-in-None-clause-plain c = no-line-feed c.args.bytes.now (length c.args.bytes.now) (rw c.in-None.is at c.memchr.ensures)
