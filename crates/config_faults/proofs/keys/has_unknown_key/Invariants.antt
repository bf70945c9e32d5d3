use Rattle.std.proofs.Common.{◌≡◌}
use Rattle.toml.specs.View.{members_view, table_view}
use Rattle.config_faults.specs.Keys.{has_unknown_key}
use Rattle.config_faults.proofs.keys.has_unknown_key.Given as goal

-- some key is unknown where one of those that are left is
abbrev pub invariant-loop-key : goal.invariant-loop-key
invariant-loop-key l = has_unknown_key l.kind (members_view l.key-iterator) ≡ has_unknown_key l.kind (table_view l.table)
