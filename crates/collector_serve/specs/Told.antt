-- What those in charge of a collector are told.
use Rattle.std.specs.Prelude.{◌≡◌, ◌++◌, ℕ, List, [], Option, Some, None}
use Rattle.admin_http.specs.declared.asked.Route.{Route}
use Rattle.admin_http.specs.declared.asked.Route.TheVariants.{Metrics as ToMetrics, Status as ToStatus, Decisions as ToDecisions, Trace as ToTrace}
use Rattle.decision_line.specs.declared.held.TraceHeld.{TraceHeld}
use Rattle.decision_line.specs.Line.{line_of}
use Rattle.decision_json.specs.Value.{decisions_value, trace_value}
use Rattle.decision_json.specs.declared.news.TraceNews.{TraceNews}
use Rattle.metrics_text.specs.Text.{metrics_text}
use Rattle.metrics_text.specs.Ledgers.{ledger_lines}
use Rattle.metrics_text.specs.declared.ledger.LedgerCounts.{LedgerCounts}
use Rattle.metrics_text.specs.declared.metrics.Metrics.{Metrics}
use Rattle.metrics_text.specs.declared.metrics.ShardNumbers.{ShardNumbers}
use Rattle.metrics_text.specs.declared.metrics.PolicyNumbers.{PolicyNumbers}
use Rattle.status_json.specs.Text.{status_text}
use Rattle.status_json.specs.declared.numbers.Status.{Status}
use Rattle.status_json.specs.declared.numbers.HistoryRow.{HistoryRow}

-- the lines of a ledger's numbers, where there is one
abbrev pub ledger_part : Option LedgerCounts → List ℕ
ledger_part (Some counts) = ledger_lines counts
ledger_part None = []

-- the text of some numbers, of some counts with those of some moments before, and of what became of some traces and is
-- held of one; which these are, no clause says
abbrev pub IsToldAt : Route → (text : List ℕ) → Type 0
IsToldAt ToMetrics text = (metrics : Metrics) × (policies : List PolicyNumbers) × (shards : List ShardNumbers) × (ledger : Option LedgerCounts) × (text ≡ metrics_text metrics policies shards ++ ledger_part ledger)
IsToldAt ToStatus text = (status : Status) × (rows : List HistoryRow) × (text ≡ status_text status rows)
IsToldAt ToDecisions text = (now : ℕ) × (remembers : ℕ) × (names : List (List ℕ)) × (news : List TraceNews) × (text ≡ line_of (decisions_value now remembers names news))
IsToldAt (ToTrace id) text = (names : List (List ℕ)) × (news : List TraceNews) × (held : Option TraceHeld) × (text ≡ line_of (trace_value names id news held))
IsToldAt _ text = Unit {0}
