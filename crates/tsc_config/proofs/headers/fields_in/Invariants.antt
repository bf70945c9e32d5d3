use Rattle.std.proofs.Common.{◌≡◌, ◌++◌}
use Rattle.toml.specs.View.{members_view, table_view}
use Rattle.tsc_config.specs.HeaderFields.{fields_in}
use Rattle.tsc_config.proofs.headers.fields_in.Given as goal

-- the fields so far, and those that are left
abbrev pub invariant-loop-name : goal.invariant-loop-name
invariant-loop-name l = l.fields ++ fields_in (members_view l.name-iterator) ≡ fields_in (table_view l.table)
