-- The comparison of two runs as JSON: an object with no blanks (RFC 8259, section 4), and a line feed.
use Rattle.std.specs.Prelude.{ℕ, List, [], ◌∷◌, Option, Some, None, codes, length, map}
use Rattle.json.specs.Json.{Json, null, boolean, string, array, object, Items, no_items, item}
use Rattle.span_ids.specs.Id.{id_text}
use Rattle.decision_line.specs.Line.{cause_word, count, members_of, name_or_null, verdict_word}
use Rattle.run_comparison.specs.declared.amount.Amount.{Amount}
use Rattle.run_comparison.specs.declared.differing.Differing.{Differing}
use Rattle.run_comparison.specs.declared.end.HowEnded.{HowEnded}
use Rattle.run_comparison.specs.declared.end.HowEnded.TheVariants.{Decided, Evicted}
use Rattle.run_comparison.specs.declared.end.TraceEnd.{TraceEnd}
use Rattle.run_comparison.specs.declared.overlap.Overlap.{Overlap}
use Rattle.run_comparison.specs.Ends.{policy_of}
use Rattle.run_comparison.specs.Overlaps.{first_differing, overlap_of}
use Rattle.run_comparison.specs.Policies.{kept_by_all}
use Rattle.run_comparison.specs.Rows.{PolicyKept, ServiceKept, policy_rows, same_steps, service_rows}
use Rattle.run_comparison.specs.Run.{Run}
use Rattle.run_comparison.specs.Timeline.{Timeline, begin_of, counts_of}
use Rattle.comparison_text.specs.declared.comparison.About.{About}

-- ---- words, as in the lines of decisions

-- what was decided, or that nothing was
abbrev pub ended_word : HowEnded → List ℕ
ended_word (Decided verdict cause decider) = verdict_word verdict
ended_word Evicted = codes "evicted"

-- why it was decided then, where it was
abbrev pub ended_cause : HowEnded → Option (List ℕ)
ended_cause (Decided verdict cause decider) = Some (cause_word cause)
ended_cause Evicted = None

-- ---- values

-- the items of an array, in this order
abbrev pub items_of : List Json → Items
items_of [] = no_items
items_of (value ∷ values) = item value (items_of values)

-- an array of the values of these
abbrev pub array_of : {A : Type 0} → (value : A → Json) → List A → Json
array_of value these = array (items_of (map value these))

-- how much was kept
abbrev pub amount_value : Amount → Json
amount_value amount = object (members_of ((codes "traces", count amount.traces) ∷ (codes "spans", count amount.spans) ∷ (codes "bytes", count amount.bytes) ∷ []))

-- how much was kept, or null
abbrev pub amount_or_null : Option Amount → Json
amount_or_null None = null
amount_or_null (Some amount) = amount_value amount

-- what one run kept, with its configuration's name
abbrev pub run_value : (name : List ℕ) → Run → Json
run_value name run =
    object
    (members_of
    ((codes "name", string name)
    ∷ (codes "kept", amount_value (kept_by_all run.policies))
    ∷ (codes "without_policy", amount_value run.policies.without)
    ∷ (codes "traces", count (length run.traces.ends))
    ∷ (codes "ends_beyond", count run.traces.beyond)
    ∷ (codes "spans_of_other_services", count run.services.beyond)
    ∷ []))

-- how many traces are kept by which run
abbrev pub overlap_value : Overlap → Json
overlap_value overlap =
    object
    (members_of
    ((codes "both", count overlap.both)
    ∷ (codes "only_old", count overlap.only_old)
    ∷ (codes "only_new", count overlap.only_new)
    ∷ (codes "none", count overlap.none)
    ∷ (codes "unknown", count overlap.unknown)
    ∷ []))

-- the spans kept over time, in the same steps of both runs
abbrev pub over_time_value : (old new : Timeline) → Json
over_time_value old new =
    object
    (members_of
    ((codes "from_ms", count (begin_of old))
    ∷ (codes "every_ms", count old.width)
    ∷ (codes "old", array_of count (counts_of old))
    ∷ (codes "new", array_of count (counts_of new))
    ∷ []))

-- a policy, and what it kept in each run
abbrev pub policy_value : PolicyKept → Json
policy_value kept = object (members_of ((codes "name", string kept.name) ∷ (codes "old", amount_or_null kept.old) ∷ (codes "new", amount_or_null kept.new) ∷ []))

-- a service, and how many of its spans each run kept
abbrev pub service_value : ServiceKept → Json
service_value kept = object (members_of ((codes "name", string kept.name) ∷ (codes "old", count kept.old) ∷ (codes "new", count kept.new) ∷ []))

-- how a trace ended in a run by policies of these names
abbrev pub end_value : (names : List (List ℕ)) → TraceEnd → Json
end_value names end =
    object
    (members_of
    ((codes "verdict", string (ended_word end.how))
    ∷ (codes "policy", name_or_null (policy_of end names))
    ∷ (codes "by", name_or_null (ended_cause end.how))
    ∷ (codes "spans", count end.spans)
    ∷ (codes "moment_ms", count end.moment)
    ∷ (codes "kept", boolean end.kept)
    ∷ []))

-- the same, or null where it never ended
abbrev pub end_or_null : (names : List (List ℕ)) → Option TraceEnd → Json
end_or_null names None = null
end_or_null names (Some end) = end_value names end

-- a trace that one run alone keeps, and how it ended in each
abbrev pub differing_value : (old_names new_names : List (List ℕ)) → Differing → Json
differing_value old_names new_names trace =
    object
    (members_of
    ((codes "trace_id", string (id_text trace.trace))
    ∷ (codes "old", end_or_null old_names trace.old)
    ∷ (codes "new", end_or_null new_names trace.new)
    ∷ []))

-- the comparison of two runs: the program's version, the configurations' names, and the runs
abbrev pub comparison_value : (version old_name new_name : List ℕ) → (old new : Run) → Json
comparison_value version old_name new_name old new =
    object
    (members_of
    ((codes "version", string version)
    ∷ (codes "old", run_value old_name old)
    ∷ (codes "new", run_value new_name new)
    ∷ (codes "traces", overlap_value (overlap_of old.traces new.traces))
    ∷ (codes "over_time", over_time_value (same_steps old.steps new.steps).0 (same_steps old.steps new.steps).1)
    ∷ (codes "policies", array_of policy_value (policy_rows old new))
    ∷ (codes "services", array_of service_value (service_rows old.services new.services))
    ∷ (codes "differ", array_of (differing_value old.names new.names) (first_differing old.traces new.traces))
    ∷ []))

-- the same of what a comparison is told that it is of
abbrev pub value_about : About → (old new : Run) → Json
value_about about old new = comparison_value about.version.now about.old.now about.new.now old new
