use Rattle.std.proofs.Common.{rules}
use Rattle.serde_json.specs.View.{members_view}
use Rattle.otlp_reading.proofs.Spans.{span_in_parts}
use Rattle.otlp_reading.proofs.span.SpanMessage.read.Goals as goal

pub returns-in_err-context : goal.returns-in_err-context
returns-in_err-context c = rw (span_in_parts c.args.keeps_doubles (members_view c.args.members.now.entries)) (search rules)

pub returns-in_err-name : goal.returns-in_err-name
returns-in_err-name c = rw (span_in_parts c.args.keeps_doubles (members_view c.args.members.now.entries)) (search rules)

pub returns-in_err-kind : goal.returns-in_err-kind
returns-in_err-kind c = rw (span_in_parts c.args.keeps_doubles (members_view c.args.members.now.entries)) (search rules)

pub returns-in_err-attributes : goal.returns-in_err-attributes
returns-in_err-attributes c = rw (span_in_parts c.args.keeps_doubles (members_view c.args.members.now.entries)) (search rules)

pub returns-in_err-held : goal.returns-in_err-held
returns-in_err-held c = rw (span_in_parts c.args.keeps_doubles (members_view c.args.members.now.entries)) (search rules)

pub returns : goal.returns
returns c = rw (span_in_parts c.args.keeps_doubles (members_view c.args.members.now.entries)) (search rules)
