-- Worked rows, computed. They serve the definitions that `numbers_text`, `pending_line`, `pending_connection` and
-- `refusal_text` promise.
use Rattle.std.proofs.Common.{◌≡◌, ◌++◌, refl}
use Rattle.std.specs.Prelude.{codes, Some, None}
use Rattle.std.specs.Fmt.{digits}
use Rattle.ledger_text.specs.Numbers.{numbers_text, pending_line}
use Rattle.ledger_text.specs.Connections.{pending_number}
use Rattle.ledger_text.specs.Refusals.{refusal_text}
use Rattle.ledger_text.specs.declared.look.LedgerNumbers.{LedgerNumbers}
use Rattle.ledger_text.specs.declared.fault.FolderFault.TheVariants.{Missing}

-- numbers of which no two are the same
some_numbers : LedgerNumbers
some_numbers = record { runs = 2; segments = 3; files = 15; cut_files = 1; bytes = 40960; requests = 100; pending_requests = 40; pending_spans = 80; pending_traces = 20; oldest = Some 1796018811746; newest = Some 1796018811999 }

all_distinct : numbers_text some_numbers
    ≡ codes "runs 2\nsegments 3\nfiles 15\ncut_files 1\nbytes 40960\nrequests 100\n"
    ++ codes "pending_requests 40\npending_spans 80\npending_traces 20\n"
    ++ codes "oldest_pending_ms 1796018811746\nnewest_pending_ms 1796018811999\n"
unfolding digits some_numbers
all_distinct = refl

-- nothing is there
nothing : numbers_text (record { runs = 0; segments = 0; files = 0; cut_files = 0; bytes = 0; requests = 0; pending_requests = 0; pending_spans = 0; pending_traces = 0; oldest = None; newest = None })
    ≡ codes "runs 0\nsegments 0\nfiles 0\ncut_files 0\nbytes 0\nrequests 0\n"
    ++ codes "pending_requests 0\npending_spans 0\npending_traces 0\noldest_pending_ms none\nnewest_pending_ms none\n"
unfolding digits
nothing = refl

-- what would be received again
received_again : pending_line (codes "/var/lib/tsc/ledger") some_numbers ≡ codes "tsc: the next start receives again, from /var/lib/tsc/ledger: 40 requests, 80 spans, 20 traces\n"
unfolding digits some_numbers
received_again = refl

-- the fifth connection of lane 2 of four, of the second of three runs
number : pending_number 3 4 1 (record { lane = 2; ordinal = 5 }) ≡ 66
number = refl

-- there is no such folder
missing : refusal_text (codes "/nowhere") Missing ≡ codes "tsc: ledger refused: /nowhere: does not exist\n"
missing = refl
