-- Released spans go to the sink in batches.
use Rattle.std.specs.Prelude.{◌≡◌, ℕ, ◌<◌, ◌≤◌, List, [], ◌∷◌, length}
use Rattle.std.specs.List.{flat_map}
use Rattle.otlp_types.specs.declared.arrival.Arrival.{Arrival}
use Rattle.span_sink.specs.LineSinks.{LineSinkState}
use Rattle.span_exporter.specs.declared.answer.Flushed.{Flushed}
use Rattle.span_exporter.specs.Exports.{Sends}

-- a batch that was sent, and what became of it
pub record SentBatch : Type 0 where
  pub batch : List Arrival
  pub flushed : Flushed

-- the spans of all batches
abbrev pub spans_of : List SentBatch → List Arrival
spans_of batches = flat_map (λ (one : SentBatch). one.batch) batches

-- each batch holds `size` spans, but for the last, which holds at least one
abbrev pub AreBatches : (size : ℕ) → List SentBatch → Type 0
AreBatches size [] = Unit {0}
AreBatches size (last ∷ []) = (0 < length last.batch) × (length last.batch ≤ size)
AreBatches size (one ∷ next ∷ more) = (length one.batch ≡ size) × AreBatches size (next ∷ more)

-- each batch in its turn is handed over whole or given up whole
abbrev pub SendsAll : LineSinkState → List SentBatch → LineSinkState → Type 0
SendsAll old [] new = new ≡ old
SendsAll old (one ∷ more) new = (mid : LineSinkState) × Sends old one.batch one.flushed mid × SendsAll mid more new

-- spans are cut into these batches, which go to the sink in turn
pub record SendsInBatches (size : ℕ) (old : LineSinkState) (spans : List Arrival) (batches : List SentBatch) (new : LineSinkState) : Type 0 where
  pub are_batches : AreBatches size batches
  pub are_all : spans_of batches ≡ spans
  pub sends : SendsAll old batches new
