use Rattle.std.proofs.Common.{◌≡◌, take, map, codes}
use Rattle.std.specs.List.{list_any}
use Rattle.httparse.specs.Spans.{header_bytes}
use Rattle.http_text.specs.Fields.{has, has_word}
use Rattle.http_text.proofs.fields.says_close.Given as goal

abbrev pub invariant-loop-span : goal.invariant-loop-span
invariant-loop-span l = list_any (has (codes "connection") (has_word (codes "close"))) (map (header_bytes l.text) (take l.span-index l.spans)) ≡ l.says
