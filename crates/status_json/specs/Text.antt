-- The text of `GET /status.json`.
use Rattle.std.specs.Prelude.{ℕ, List, [], ◌∷◌, ◌++◌, map, codes, decimal, Option, Some, None}
use Rattle.span_ids.specs.declared.outcome.Reason.{Reason}
use Rattle.drop_ledger.specs.declared.count.Count.TheVariants.{Received, Handed, Dropped}
use Rattle.metrics_text.specs.Families.{number_of, reason_word, reasons}
use Rattle.status_json.specs.declared.due.TheConstants.{HISTORY_PACE}
use Rattle.status_json.specs.declared.numbers.Backlog.{Backlog}
use Rattle.status_json.specs.declared.numbers.HistoryRow.{HistoryRow}
use Rattle.status_json.specs.declared.numbers.Status.{Status}
use Rattle.status_json.specs.Json.{array, member, object, quoted}

-- a member whose value is a number
abbrev pub counted : (name : List ℕ) → (number : ℕ) → List ℕ
counted name number = member name (decimal number)

-- the spans that were given up for a reason, by its word
abbrev pub reason_of : (report : List ℕ) → Reason → List ℕ
reason_of report reason = counted (reason_word reason) (number_of report (Dropped reason))

-- for each reason
abbrev pub dropped_of : (report : List ℕ) → List ℕ
dropped_of report = object (map (reason_of report) reasons)

-- what became of the spans so far
abbrev pub spans_of : Status → List ℕ
spans_of status =
    object
    (counted (codes "received") (number_of status.report Received)
    ∷ counted (codes "handed") (number_of status.report Handed)
    ∷ member (codes "dropped") (dropped_of status.report)
    ∷ counted (codes "waiting") status.waiting
    ∷ [])

-- what waits for a backend
abbrev pub backlog_of : Backlog → List ℕ
backlog_of backlog =
    object
    (counted (codes "waiting_spans") backlog.waiting
    ∷ counted (codes "under_way_s") backlog.under_way
    ∷ counted (codes "failed_tries") backlog.failed_tries
    ∷ counted (codes "given_up_batches") backlog.given_up
    ∷ [])

-- null where there is none
abbrev pub export_of : Option Backlog → List ℕ
export_of None = codes "null"
export_of (Some backlog) = backlog_of backlog

-- what the numbers of a row are
abbrev pub columns : List (List ℕ)
columns = codes "at_ms" ∷ codes "received" ∷ codes "handed" ∷ map reason_word reasons

-- a row: its moment, and the nine numbers of its report
abbrev pub row_of : HistoryRow → List ℕ
row_of row = array (map decimal (row.at ∷ row.report))

-- the history
abbrev pub history_of : List HistoryRow → List ℕ
history_of rows =
    object
    (counted (codes "every_ms") HISTORY_PACE
    ∷ member (codes "columns") (array (map quoted columns))
    ∷ member (codes "rows") (array (map row_of rows))
    ∷ [])

-- the whole text
abbrev pub status_text : Status → List HistoryRow → List ℕ
status_text status rows =
    object
    (counted (codes "now_ms") status.now
    ∷ member (codes "spans") (spans_of status)
    ∷ member (codes "export") (export_of status.backlog)
    ∷ member (codes "history") (history_of rows)
    ∷ [])
    ++ codes "\n"
