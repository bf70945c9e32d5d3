-- What looking back over a journal finds.
use Rattle.std.specs.Prelude.{ℕ, List, map, length}
use Rattle.otlp_types.specs.declared.arrival.Arrival.{Arrival}
use Rattle.journal_theory.specs.Journal.{Settings, Journal, Notes, due_now, notes, spans_since}
use Rattle.shard_journal.specs.Short.{short_notes}

-- how many episodes are due at the journal's last item, the spans of each, and what is noted of the journal
pub record Look : Type 0 where
  pub due : ℕ
  pub spans : List (List Arrival)
  pub noted : Notes

-- what looking back over this journal finds; the notes have each decision without its spans
abbrev pub look_of : Settings → Journal → Look
look_of s past = record { due = length (due_now s past); spans = map (spans_since past) (due_now s past); noted = short_notes (notes s past) }
