use Rattle.std.proofs.Common.{◌≡◌, ◌++◌, drop, string_bytes}
use Rattle.collector_commands.specs.Validating.{address_lines}
use Rattle.collector_commands.proofs.validating.add_addresses.Given as goal

-- the lines so far, and those of the addresses that are left
abbrev pub invariant-loop-finding : goal.invariant-loop-finding
invariant-loop-finding l = string_bytes l.lines ++ address_lines (drop l.finding-index l.findings) ≡ string_bytes l.fn.lines ++ address_lines l.findings
