use Rattle.std.proofs.Common.{◌≡◌, ◌++◌, drop}
use Rattle.std.specs.Prelude.{decimal, map, string_bytes}
use Rattle.status_json.specs.Json.{behind_commas}
use Rattle.status_json.proofs.text.put_numbers.Given as goal

-- the numbers that are there, with those that are left, are all
abbrev pub invariant-loop-number : goal.invariant-loop-number
invariant-loop-number l =
    string_bytes l.text ++ behind_commas (map decimal (drop l.number-index l.numbers))
    ≡ string_bytes l.fn.text ++ behind_commas (map decimal l.numbers)
