use Rattle.std.proofs.Common.{◌≡◌, ◌++◌, drop, string_bytes}
use Rattle.collector_commands.specs.Validating.{lines_of}
use Rattle.collector_commands.proofs.validating.lines_of.Given as goal

-- the lines so far, and those of the findings that are left
abbrev pub invariant-loop-finding : goal.invariant-loop-finding
invariant-loop-finding l = string_bytes l.lines ++ lines_of (drop l.finding-index l.findings) ≡ lines_of l.findings
