use Rattle.std.proofs.Common.{◌≡◌}
use Rattle.toml.specs.View.{members_view, table_view}
use Rattle.config_faults.specs.Faults.{least, fields_fault}
use Rattle.config_faults.proofs.headers.fields_fault.Given as goal

-- the least so far and the least of the fields that are left make the least of all
abbrev pub invariant-loop-name : goal.invariant-loop-name
invariant-loop-name l = least l.fault (fields_fault (members_view l.name-iterator)) ≡ fields_fault (table_view l.table)
