-- The text of the numbers, as Prometheus reads it (the text format, version 0.0.4): families of samples, a line each.
use Rattle.std.specs.Prelude.{ℕ, List, [], ◌∷◌, ◌++◌, map, slice_index, codes, decimal}
use Rattle.std.specs.List.{concat}
use Rattle.span_ids.specs.declared.outcome.Reason.{Reason}
use Rattle.span_ids.specs.declared.outcome.Reason.TheVariants.{InvalidId, QueueFull, NoMemory, Evicted, NotSampled, LateNotSampled, ExporterDown}
use Rattle.drop_ledger.specs.Places.{place_of}
use Rattle.drop_ledger.specs.declared.count.Count.{Count}
use Rattle.drop_ledger.specs.declared.count.Count.TheVariants.{Received, Handed, Dropped}
use Rattle.metrics_text.specs.declared.metrics.Metrics.{Metrics}
use Rattle.metrics_text.specs.declared.kind.FamilyKind.{FamilyKind}
use Rattle.metrics_text.specs.declared.kind.FamilyKind.TheVariants.{Counter, Gauge}
use Rattle.metrics_text.specs.declared.text.TheConstants.{VERSION}

-- a number beside its labels, which stand in braces where there are any
pub record Sample : Type 0 where
  pub labels : List ℕ
  pub value : ℕ

-- what is measured under one name, told in a line without a line feed or a backslash
pub record Family : Type 0 where
  pub name : List ℕ
  pub help : List ℕ
  pub kind : FamilyKind
  pub samples : List Sample

-- the word of a kind
abbrev pub word_of : FamilyKind → List ℕ
word_of Counter = codes "counter"
word_of Gauge = codes "gauge"

-- the line of a sample
abbrev pub sample_line : (name : List ℕ) → Sample → List ℕ
sample_line name sample = name ++ (sample.labels ++ (codes " " ++ (decimal sample.value ++ codes "\n")))

-- the two lines in front of a family's samples
abbrev pub head_lines : (name help word : List ℕ) → List ℕ
head_lines name help word =
    codes "# HELP " ++ (name ++ (codes " " ++ (help ++ (codes "\n"
    ++ (codes "# TYPE " ++ (name ++ (codes " " ++ (word ++ codes "\n"))))))))

-- the lines of a family
abbrev pub family_text : Family → List ℕ
family_text family = head_lines family.name family.help (word_of family.kind) ++ concat (map (sample_line family.name) family.samples)

abbrev pub sample : (labels : List ℕ) → (value : ℕ) → Sample
sample labels value = record { labels = labels; value = value }

abbrev pub family : (name help : List ℕ) → FamilyKind → List Sample → Family
family name help kind samples = record { name = name; help = help; kind = kind; samples = samples }

-- the number of a count in a report
abbrev pub number_of : (report : List ℕ) → Count → ℕ
number_of report count = slice_index report (place_of count)

-- one label, and its word
abbrev pub labelled : (label word : List ℕ) → List ℕ
labelled label word = codes "{" ++ (label ++ (codes "=\"" ++ (word ++ codes "\"}")))

-- the word of a reason
abbrev pub reason_word : Reason → List ℕ
reason_word InvalidId = codes "invalid_id"
reason_word QueueFull = codes "queue_full"
reason_word NoMemory = codes "no_memory"
reason_word Evicted = codes "evicted"
reason_word NotSampled = codes "not_sampled"
reason_word LateNotSampled = codes "late_not_sampled"
reason_word ExporterDown = codes "exporter_down"

-- the reasons in the order of their numbers
abbrev pub reasons : List Reason
reasons = InvalidId ∷ QueueFull ∷ NoMemory ∷ Evicted ∷ NotSampled ∷ LateNotSampled ∷ ExporterDown ∷ []

-- the sample of the spans that were given up for a reason
abbrev pub dropped_sample : (report : List ℕ) → Reason → Sample
dropped_sample report reason = sample (labelled (codes "reason") (reason_word reason)) (number_of report (Dropped reason))

-- the families
abbrev pub received : (report : List ℕ) → Family
received report =
    family (codes "tsc_spans_received_total") (codes "Spans of requests that were read.") Counter (sample [] (number_of report Received) ∷ [])

abbrev pub handed : (report : List ℕ) → Family
handed report =
    family (codes "tsc_spans_handed_total") (codes "Spans whose line the sink took whole.") Counter (sample [] (number_of report Handed) ∷ [])

abbrev pub dropped : (report : List ℕ) → Family
dropped report =
    family (codes "tsc_spans_dropped_total") (codes "Spans that were given up, by the reason.") Counter (map (dropped_sample report) reasons)

abbrev pub connections : Metrics → Family
connections metrics =
    family (codes "tsc_connections_open") (codes "Connections that are open.") Gauge (sample [] metrics.open_connections ∷ [])

abbrev pub uptime : Metrics → Family
uptime metrics =
    family (codes "tsc_uptime_seconds") (codes "Seconds since the collector began.") Gauge (sample [] metrics.uptime_seconds ∷ [])

abbrev pub build : Family
build =
    family (codes "tsc_build_info") (codes "The version of the collector, as a label.") Gauge
    (sample (labelled (codes "version") VERSION.now) 1 ∷ [])

-- their order
abbrev pub families : Metrics → List Family
families metrics =
    received metrics.report ∷ handed metrics.report ∷ dropped metrics.report ∷ connections metrics ∷ uptime metrics ∷ build ∷ []
