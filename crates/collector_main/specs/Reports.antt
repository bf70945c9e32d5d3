-- What the last line of a log tells of a run.
use Rattle.std.specs.Prelude.{ℕ, List, [], ◌∷◌, codes, slice_index, Option, Some, None}
use Rattle.event_log.specs.declared.line.FieldValue.{FieldValue}
use Rattle.event_log.specs.declared.line.FieldValue.TheVariants.{Number, Text}
use Rattle.event_log.specs.declared.line.LogField.{LogField}

-- the number that is told, if it is one
abbrev pub number_in : FieldValue → Option ℕ
number_in (Number number) = Some number
number_in (Text text) = None

-- a name, and the number under it
abbrev pub told_in : LogField → List ℕ × Option ℕ
told_in field = (field.name.now, number_in field.value)

-- a count of a report under a name
abbrev pub count_under : (name : List ℕ) → (numbers : List ℕ) → (place : ℕ) → List ℕ × Option ℕ
count_under name numbers place = (name, Some (slice_index numbers place))

-- who asked for the close, and the nine counts, each under its own name
abbrev pub closed_with : (numbers : List ℕ) → List (List ℕ × Option ℕ)
closed_with numbers = (codes "by", None)
    ∷ count_under (codes "received") numbers 0
    ∷ count_under (codes "handed") numbers 1
    ∷ count_under (codes "invalid_id") numbers 2
    ∷ count_under (codes "queue_full") numbers 3
    ∷ count_under (codes "no_memory") numbers 4
    ∷ count_under (codes "evicted") numbers 5
    ∷ count_under (codes "not_sampled") numbers 6
    ∷ count_under (codes "late_not_sampled") numbers 7
    ∷ count_under (codes "exporter_down") numbers 8
    ∷ []
