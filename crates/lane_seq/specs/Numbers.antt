-- Arrivals of a connection and their numbers.
use Rattle.std.specs.Prelude.{ℕ, ◌+◌, List, [], ◌∷◌, Bool, is_none}
use Rattle.span_ids.specs.declared.keys.ConnKey.{ConnKey}
use Rattle.otlp_types.specs.declared.arrival.Record.{Record}
use Rattle.otlp_types.specs.declared.arrival.Arrival.{Arrival}

-- an arrival of this connection, number and moment
abbrev pub arrival_of : ConnKey → (number moment : ℕ) → Record → Arrival
arrival_of conn number moment r = record { key = record { conn = conn; number = number }; moment = moment; rec = r }

-- the arrivals of these records, in their order, with the connection's next numbers
abbrev pub arrivals_from : ConnKey → (number moment : ℕ) → List Record → List Arrival
arrivals_from conn number moment [] = []
arrivals_from conn number moment (r ∷ rs) = arrival_of conn number moment r ∷ arrivals_from conn (number + 1) moment rs

-- some id of the span is missing or invalid
abbrev pub is_invalid : Arrival → Bool
is_invalid a = is_none a.rec.span.ids
