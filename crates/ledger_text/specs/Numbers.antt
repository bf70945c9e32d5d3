-- The numbers of what is in a ledger's folder, as a text: a line each.
use Rattle.std.specs.Prelude.{ℕ, List, ◌++◌, Option, Some, None, codes, decimal}
use Rattle.ledger_text.specs.declared.look.LedgerNumbers.{LedgerNumbers}

-- a moment, or that there is none
abbrev pub moment_text : Option ℕ → List ℕ
moment_text (Some moment) = decimal moment
moment_text None = codes "none"

-- the files
abbrev pub files_text : LedgerNumbers → List ℕ
files_text numbers =
    codes "runs " ++ (decimal numbers.runs
    ++ (codes "\nsegments " ++ (decimal numbers.segments
    ++ (codes "\nfiles " ++ (decimal numbers.files
    ++ (codes "\ncut_files " ++ (decimal numbers.cut_files ++ codes "\n")))))))

-- what they hold
abbrev pub held_text : LedgerNumbers → List ℕ
held_text numbers = codes "bytes " ++ (decimal numbers.bytes ++ (codes "\nrequests " ++ (decimal numbers.requests ++ codes "\n")))

-- what is pending of it
abbrev pub pending_text : LedgerNumbers → List ℕ
pending_text numbers =
    codes "pending_requests " ++ (decimal numbers.pending_requests
    ++ (codes "\npending_spans " ++ (decimal numbers.pending_spans
    ++ (codes "\npending_traces " ++ (decimal numbers.pending_traces
    ++ (codes "\noldest_pending_ms " ++ (moment_text numbers.oldest
    ++ (codes "\nnewest_pending_ms " ++ (moment_text numbers.newest ++ codes "\n")))))))))

-- the whole text
abbrev pub numbers_text : LedgerNumbers → List ℕ
numbers_text numbers = (files_text numbers ++ held_text numbers) ++ pending_text numbers

-- the line that says what would be received again from the folder at a path
abbrev pub pending_line : (path : List ℕ) → LedgerNumbers → List ℕ
pending_line path numbers =
    codes "tsc: the next start receives again, from " ++ (path
    ++ (codes ": " ++ (decimal numbers.pending_requests
    ++ (codes " requests, " ++ (decimal numbers.pending_spans
    ++ (codes " spans, " ++ (decimal numbers.pending_traces ++ codes " traces\n")))))))
