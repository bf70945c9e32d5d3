-- The lines of decisions.
use Rattle.std.specs.Prelude.{◌≡◌, ℕ, List, take}
use Rattle.decision_json.specs.declared.news.TraceNews.{TraceNews}
use Rattle.decision_json.specs.declared.news.TraceNews.TheVariants.{Decided, Evicted}
use Rattle.decision_line.specs.Line.{decided_line, evicted_line, late_line}
use Rattle.line_entries.specs.declared.line_news.LineNews.{LineNews}
use Rattle.line_entries.specs.declared.line_news.LineNews.TheVariants.{Trace, Late}

-- the line of what became of a trace, where policies have these names; the first so many of them were asked
abbrev pub trace_line : (names : List (List ℕ)) → TraceNews → List ℕ
trace_line names (Decided trace said asked) = decided_line names (take asked said) trace
trace_line names (Evicted trace) = evicted_line trace

-- the line of what was told
abbrev pub IsNewsLine : (names : List (List ℕ)) → LineNews → List ℕ → Type 0
IsNewsLine names (Trace news) line = line ≡ trace_line names news
IsNewsLine names (Late spans) line = line ≡ late_line spans
