-- The last text of each outcome, and what is written of it.
use Rattle.std.specs.Prelude.{◌≡◌, ◌++◌, ◌<◌, ℕ, Bool, true, false, not, List, [], ◌∷◌, map, length, slice_index, Option, codes, decimal, string_bytes}
use Rattle.std.specs.List.{concat}
use Rattle.std.specs.Io.KnownBytes.{Appends}
use Rattle.span_ids.specs.declared.outcome.Reason.TheVariants.{InvalidId, QueueFull, NoMemory as Unallocated, Evicted, NotSampled, LateNotSampled, ExporterDown}
use Rattle.span_sink.specs.LineSinks.{LineSinkState}
use Rattle.drop_ledger.specs.Places.{place_of}
use Rattle.drop_ledger.specs.declared.count.Count.{Count}
use Rattle.drop_ledger.specs.declared.count.Count.TheVariants.{Received, Handed, Dropped}
use Rattle.collector_commands.specs.declared.outcome.Outcome.{Outcome}
use Rattle.collector_commands.specs.declared.outcome.Outcome.TheVariants.{Done, SinkDown, Usage, Unreadable, Configuration, Script, NoMemory, CounterOverflow, CannotListen, CannotWrite, Valid, Faulty}
use Rattle.collector_commands.specs.declared.outcome.Outcome.TheVariants as is
use Rattle.collector_commands.specs.Outcomes.{exit_status}
use Rattle.collector_commands.specs.Validating.{fault_number}

-- the counts in the order of a report
abbrev pub counts : List Count
counts =
    Received
    ∷ Handed
    ∷ Dropped InvalidId
    ∷ Dropped QueueFull
    ∷ Dropped Unallocated
    ∷ Dropped Evicted
    ∷ Dropped NotSampled
    ∷ Dropped LateNotSampled
    ∷ Dropped ExporterDown
    ∷ []

-- the name of a count and a space; what was dropped, by its reason's number
abbrev pub name_of : Count → List ℕ
name_of Received = codes "received "
name_of Handed = codes "handed "
name_of (Dropped InvalidId) = codes "dropped 1 "
name_of (Dropped QueueFull) = codes "dropped 2 "
name_of (Dropped Unallocated) = codes "dropped 3 "
name_of (Dropped Evicted) = codes "dropped 4 "
name_of (Dropped NotSampled) = codes "dropped 5 "
name_of (Dropped LateNotSampled) = codes "dropped 6 "
name_of (Dropped ExporterDown) = codes "dropped 7 "

-- the line of a count: its name, its number and a line feed
abbrev pub count_line : (report : List ℕ) → Count → List ℕ
count_line report count = name_of count ++ decimal (slice_index report (place_of count)) ++ codes "\n"

-- the text of a report
abbrev pub report_text : (report : List ℕ) → List ℕ
report_text report = concat (map (count_line report) counts)

-- what can be asked for
abbrev pub help_text : List ℕ
help_text = codes "tsc: a tail-sampling trace collector\n\n  tsc serve CONFIG     takes requests until it is closed, and prints the spans that it keeps and a report\n  tsc replay CONFIG    runs a script of requests from standard input, and prints the same and its replies\n  tsc compare OLD NEW  runs a script by two configurations, and prints what each keeps and where they differ;\n                       with --json as JSON, with --html as a page\n  tsc validate CONFIG  prints ok, or a line for each fault of the configuration\n  tsc close CONFIG     asks the collector that runs by the configuration to close, and waits for its answer\n  tsc show             prints a request in protobuf, from standard input, as its line of JSON\n  tsc ledger DIR       tells what is in the folder of a ledger; with --script prints the requests that are pending\n                       as a script for tsc replay\n  tsc help             prints this text\n  tsc version          prints the version\n\nCONFIG, OLD and NEW are paths of TOML files. The exit status is 0 where all was done, 1 where a write failed, 2 for wrong\narguments, 3 for a refused configuration, 4 for a refused script or request, 5 for no memory, 6 where the address\ncan't be listened at or the collector doesn't answer that it closes, and 7 for a full book.\n"

-- the last text of each outcome: nothing once a write of the run failed; why a body isn't shown is said elsewhere
abbrev pub text_of : Outcome → List ℕ
text_of (Done report) = report_text report
text_of SinkDown = []
text_of Usage = codes "tsc: usage: tsc replay CONFIG or tsc serve CONFIG\n"
text_of Unreadable = codes "tsc: configuration refused: unreadable\n"
text_of (Configuration fault) = codes "tsc: configuration refused: " ++ fault_number fault ++ codes "\n"
text_of (Script line) = codes "tsc: script refused: line " ++ decimal line ++ codes "\n"
text_of NoMemory = codes "tsc: no memory\n"
text_of CounterOverflow = codes "tsc: book full\n"
text_of CannotListen = codes "tsc: cannot listen\n"
text_of CannotWrite = codes "tsc: cannot write\n"
text_of Valid = codes "ok\n"
text_of (Faulty lines) = string_bytes lines
text_of is.Help = help_text
text_of is.Closed = []
text_of (is.Shown line) = line.items
text_of (is.NotShown said) = []
text_of is.CannotClose = codes "tsc: cannot close\n"
text_of is.Version = codes "tsc 0.1.0\n"

-- the first part of a text was taken; it was written exactly where nothing is missing
pub record WritesText (before : Option (List ℕ)) (text : List ℕ) (written : Bool) (after : Option (List ℕ)) : Type 0 where
  pub part : List ℕ
  pub missing : List ℕ
  pub split : text ≡ part ++ missing
  pub whole : written ≡ true → missing ≡ []
  pub cut_short : written ≡ false → 0 < length missing
  pub bytes : Appends before after part

-- a text was handed, in some lines, to a sink of lines: it is down exactly where the text was not written, and a sink
-- that was down took nothing
pub record HandsText (old : LineSinkState) (text : List ℕ) (written : Bool) (new : LineSinkState) : Type 0 where
  pub writes : WritesText old.taken text written new.taken
  pub down : new.is_down ≡ not written
  pub stays : old.is_down ≡ true → (new ≡ old) × (written ≡ false)

-- the last text was offered to the writer, of which it took a first part, and the exit status is that of the outcome
abbrev pub Finishes : (taken : Option (List ℕ)) → Outcome → (taken_last : Option (List ℕ)) → (status : ℕ) → Type 0
Finishes taken outcome taken_last status = (written : Bool) × WritesText taken (text_of outcome) written taken_last × (status ≡ exit_status outcome written)
