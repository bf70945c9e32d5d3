-- What the events of a script leave of the sink.
use Rattle.std.specs.Prelude.{◌≡◌, ◌+◌, if◌then◌else◌, List, [], ◌∷◌}
use Rattle.otlp_types.specs.declared.arrival.Arrival.{Arrival}
use Rattle.span_sink.specs.LineSinks.{LineSinkState}
use Rattle.span_exporter.specs.Exports.{WritesLine, Sends}
use Rattle.span_exporter.specs.declared.answer.Flushed.{Flushed}
use Rattle.span_exporter.specs.declared.answer.Flushed.TheVariants.{Handed, BatchDropped, Empty}
use Rattle.script_run.specs.Requests.{reply_line}
use Rattle.script_run.specs.World.{OutputEvent, replied, was_sent}

-- an event writes its line: the reply's, or that of the batch; once a write has failed nothing is written
abbrev pub Writes : LineSinkState → OutputEvent → LineSinkState → Type 0
Writes old (replied reply) new = WritesLine old (reply_line reply) new
Writes old (was_sent sent) new = Sends old sent.batch sent.flushed new

-- the events write their lines in turn
abbrev pub WritesAll : LineSinkState → List OutputEvent → LineSinkState → Type 0
WritesAll old [] new = new ≡ old
WritesAll old (event ∷ more) new = (mid : LineSinkState) × Writes old event mid × WritesAll mid more new

-- this batch and then these, where it was handed over
abbrev pub handed_with : Flushed → List Arrival → List (List Arrival) → List (List Arrival)
handed_with (Handed spans) batch rest = batch ∷ rest
handed_with (BatchDropped spans reason) batch rest = rest
handed_with Empty batch rest = rest

-- the batches that were handed over, in turn
abbrev pub handed_in : List OutputEvent → List (List Arrival)
handed_in [] = []
handed_in (replied reply ∷ more) = handed_in more
handed_in (was_sent sent ∷ more) = handed_with sent.flushed sent.batch (handed_in more)

-- a sink whose first state was up has failed once where it is down, and else never
abbrev pub FailedOnce : (first last : LineSinkState) → Type 0
FailedOnce first last = last.failures ≡ first.failures + (if last.is_down then 1 else 0)
