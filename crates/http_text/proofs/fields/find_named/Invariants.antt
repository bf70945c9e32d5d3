use Rattle.std.proofs.Common.{take, map}
use Rattle.httparse.specs.Spans.{header_bytes}
use Rattle.http_text.specs.Fields.{values_named}
use Rattle.http_text.specs.Named.{Seen}
use Rattle.http_text.proofs.fields.find_named.Given as goal

abbrev pub invariant-loop-span : goal.invariant-loop-span
invariant-loop-span l = Seen l.found (values_named l.name (map (header_bytes l.text) (take l.span-index l.spans)))
