use Rattle.std.proofs.Common.{◌≡◌, take, map, codes}
use Rattle.std.specs.List.{list_any}
use Rattle.std.specs.Str.{str_eq_ignore_ascii_case}
use Rattle.httparse.specs.Spans.{header_bytes}
use Rattle.http_text.specs.Fields.{has}
use Rattle.http_text.proofs.fields.expects_continue.Given as goal

abbrev pub invariant-loop-span : goal.invariant-loop-span
invariant-loop-span l = list_any (has (codes "expect") (λ value. str_eq_ignore_ascii_case value (codes "100-continue"))) (map (header_bytes l.text) (take l.span-index l.spans)) ≡ l.expects
