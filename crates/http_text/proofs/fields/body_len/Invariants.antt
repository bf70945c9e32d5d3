use Rattle.std.proofs.Common.{◌≡◌, true, take, suc, min}
use Rattle.std.specs.List.{list_all}
use Rattle.std.specs.Char.{is_ascii_digit}
use Rattle.std.specs.Str.Parse.{digits_value}
use Rattle.http_text.proofs.fields.body_len.Given as goal

abbrev pub invariant-loop-digit : goal.invariant-loop-digit
invariant-loop-digit l =
    (l.len ≡ min (digits_value 10 (take l.digit-index l.text)) (suc l.limit)) × (list_all is_ascii_digit (take l.digit-index l.text) ≡ true)
