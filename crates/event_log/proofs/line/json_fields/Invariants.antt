use Rattle.std.proofs.Common.{◌≡◌, ◌++◌, drop, string_bytes}
use Rattle.event_log.specs.Lines.{json_fields}
use Rattle.event_log.proofs.line.json_fields.Given as goal

-- the fields so far, and those that are left
abbrev pub invariant-loop-field : goal.invariant-loop-field
invariant-loop-field l = string_bytes l.text ++ json_fields (drop l.field-index l.fields) ≡ json_fields l.fields
