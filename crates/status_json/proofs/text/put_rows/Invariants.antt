use Rattle.std.proofs.Common.{◌≡◌, ◌++◌, drop}
use Rattle.std.specs.Prelude.{map, string_bytes}
use Rattle.status_json.specs.Json.{behind_commas, joined}
use Rattle.status_json.specs.Text.{row_of}
use Rattle.status_json.proofs.text.put_rows.Given as goal

-- the rows that are there, with those that are left, are all
abbrev pub invariant-loop-row : goal.invariant-loop-row
invariant-loop-row l =
    string_bytes l.text ++ behind_commas (map row_of (drop l.row-index l.rest))
    ≡ string_bytes l.fn.text ++ joined (map row_of l.rows)
