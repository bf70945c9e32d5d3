use Rattle.std.proofs.Common.{◌≡◌, ◌-◌, ◌≤◌, ◌++◌, List, vec_len, vec_capacity}
use Rattle.tsc_script.specs.Reads.{SourceTurn, bytes_given, Gives, GoOn}
use Rattle.tsc_script.specs.ToRead.{CountsReads}
use Rattle.tsc_script.specs.Lines.{HasNoLineFeed}
use Rattle.tsc_script.proofs.lines.read_line.Given as goal
use Rattle.tsc_script.specs.declared.limits.TheConstants.{MAX_LINE_BYTES, MAX_READS}

-- of the bytes that the buffer had and the reads gave, the line has the first, and the buffer the others
abbrev pub invariant-line : goal.invariant-line
invariant-line g l = record {
  turns : (turns : List SourceTurn) × Gives (g.R.ScriptSource.given l.fn.reader) (g.R.ScriptSource.given l.reader) turns × CountsReads l.fn.buffer.reads l.buffer.reads turns
      × GoOn turns × (l.fn.buffer.bytes ++ bytes_given turns ≡ l.line.items ++ l.buffer.bytes);
  plain : HasNoLineFeed l.line.items;
  short : vec_len l.line ≤ MAX_LINE_BYTES;
  room : MAX_LINE_BYTES ≤ vec_capacity l.line;
}

abbrev pub decreases-line : goal.decreases-line
decreases-line g l = MAX_READS - l.buffer.reads
