use Rattle.std.proofs.Common.{◌≡◌, take, map, codes}
use Rattle.std.specs.List.{list_any}
use Rattle.httparse.specs.Spans.{header_bytes}
use Rattle.http_text.specs.Fields.{has, is_coded}
use Rattle.http_text.proofs.fields.is_plain.Given as goal

abbrev pub invariant-loop-span : goal.invariant-loop-span
invariant-loop-span l = list_any (has (codes "content-encoding") is_coded) (map (header_bytes l.text) (take l.span-index l.spans)) ≡ l.is_coded
