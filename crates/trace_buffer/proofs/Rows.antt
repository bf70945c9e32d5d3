-- Worked rows of commands, by computation. No clause needs them: they show what `moment_of` says, which code and
-- contracts follow. No contract rests on it: it shows the definitions on worked cases.
use Rattle.std.specs.Prelude.{[], ◌∷◌, map, ◌≡◌, refl}
use Rattle.span_ids.specs.declared.ids.TraceId.{TraceId}
use Rattle.span_ids.specs.declared.outcome.Verdict.{Verdict}
use Rattle.otlp_types.specs.declared.arrival.Arrival.{Arrival}
use Rattle.trace_buffer.specs.declared.commands.BufferCommand.TheVariants.{Find, Keep, NextDue, Settle}
use Rattle.trace_buffer.specs.Commands.{moment_of}

-- a span tells its moment; a question and a look for what is due tell none, whatever they look for
pub moments : (t : TraceId) → (a : Arrival) → (v : Verdict) → map moment_of (Find t ∷ Keep a 5 7 ∷ NextDue 9 1 2 ∷ Settle 9 1 2 v ∷ []) ≡ 0 ∷ 5 ∷ 0 ∷ 0 ∷ []
moments t a v = refl
