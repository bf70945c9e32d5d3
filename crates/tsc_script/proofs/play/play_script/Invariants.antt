use Rattle.std.proofs.Common.{◌≡◌, ◌≤◌, true, false, vec_capacity, List}
use Rattle.tsc_script.specs.declared.limits.TheConstants.{MAX_LINE_BYTES}
use Rattle.tsc_script.specs.Reads.{SourceTurn, bytes_given, Gives, GoOn}
use Rattle.tsc_script.specs.ToRead.{CountsReads}
use Rattle.tsc_script.specs.Instructions.{Instruction}
use Rattle.tsc_script.proofs.Playing.{Follows}
use Rattle.tsc_script.proofs.play.play_script.Given as goal

-- the machine has played what the script says first, and takes further instructions
abbrev pub invariant-loop-number : goal.invariant-loop-number
invariant-loop-number g l = record {
  room : MAX_LINE_BYTES ≤ vec_capacity l.line;
  turns : (turns : List SourceTurn) × Gives (g.R.ScriptSource.given l.fn.reader) (g.R.ScriptSource.given l.reader) turns × CountsReads 0 l.buffer.reads turns × GoOn turns
      × (done : List Instruction) × Follows (bytes_given turns) l.buffer.bytes l.number done × g.M.ScriptPlayer.leads l.fn.machine done l.machine;
  still_open : g.M.ScriptPlayer.is_closed l.machine ≡ false;
  still_up : g.M.ScriptPlayer.is_up l.machine ≡ true;
}
