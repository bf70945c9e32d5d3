use Rattle.std.proofs.Common.{◌≤◌, vec_capacity, map, take}
use Rattle.std.specs.List.{concat}
use Rattle.collector_commands.specs.declared.outcome.TheConstants.{TEXT_ROOM}
use Rattle.collector_commands.specs.Texts.{HandsText, count_line, counts}
use Rattle.collector_commands.proofs.outcome.say_report.Given as goal

abbrev pub invariant-loop-what : goal.invariant-loop-what
invariant-loop-what g l = record {
  room : TEXT_ROOM ≤ vec_capacity l.text;
  hands : HandsText l.fn.lines (concat (map (count_line l.fn.report) (take l.what-index counts))) l.written l.lines;
}
