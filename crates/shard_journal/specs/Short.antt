-- What the program notes of a journal, by what the definitions note.
use Rattle.std.specs.Prelude.{[], map}
use Rattle.journal_theory.specs.Journal.{Decision, Notes}

-- a decision without its spans
abbrev pub without_spans : Decision → Decision
without_spans d = record { opening = d.opening; spans = []; verdict = d.verdict }

-- the notes, each decision without its spans
abbrev pub short_notes : Notes → Notes
short_notes noted = record noted { decisions = map without_spans noted.decisions }
