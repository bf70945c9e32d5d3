use Rattle.std.proofs.Common.{take, map}
use Rattle.httparse.specs.Spans.{header_bytes}
use Rattle.http_text.specs.Fields.{codings}
use Rattle.http_text.specs.Named.{Seen}
use Rattle.http_text.proofs.fields.find_coding.Given as goal

abbrev pub invariant-loop-span : goal.invariant-loop-span
invariant-loop-span l = Seen l.found (codings (map (header_bytes l.text) (take l.span-index l.spans)))
