use Rattle.std.proofs.Common.{◌-◌, ◌^◌, min, length, ap, ◌∙◌}
use Rattle.otlp_types.specs.declared.span.Span.{Span}
use Rattle.span_size.specs.Size.{span_text}
use Rattle.trace_buffer.proofs.Sizes.{size-one}
use Rattle.trace_buffer.proofs.episode.size_within.Goals as goal

pub returns : goal.returns
returns c = λ _. c.span_size.ensures ∙ ap (λ (s : Span). min (length (span_text s)) (2 ^ 64 - 1)) c.get.ensures ∙ size-one c.args.arrival.now
