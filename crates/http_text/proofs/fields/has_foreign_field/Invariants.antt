use Rattle.std.proofs.Common.{◌≡◌, take, map}
use Rattle.std.specs.List.{list_any}
use Rattle.httparse.specs.Spans.{header_bytes}
use Rattle.http_text.specs.Fields.{is_foreign_field}
use Rattle.http_text.proofs.fields.has_foreign_field.Given as goal

abbrev pub invariant-loop-span : goal.invariant-loop-span
invariant-loop-span l = list_any (is_foreign_field l.host) (map (header_bytes l.text) (take l.span-index l.spans)) ≡ l.is_foreign
