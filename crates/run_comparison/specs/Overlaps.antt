-- Which traces are kept by which of two runs.
use Rattle.std.specs.Prelude.{ℕ, ◌+◌, Bool, true, false, ◌||◌, ◌&&◌, if◌then◌else◌, List, [], ◌∷◌, ◌++◌, length, map, filter, fold, count_by, take, is_none, nat_lt, Option, None, Some}
use Rattle.std.specs.Option.{option_map_or}
use Rattle.std.specs.Map.{keys_of}
use Rattle.span_ids.specs.declared.ids.TraceId.{TraceId}
use Rattle.run_comparison.specs.declared.end.TraceEnd.{TraceEnd}
use Rattle.run_comparison.specs.declared.overlap.KeptBy.{KeptBy}
use Rattle.run_comparison.specs.declared.overlap.KeptBy.TheVariants.{Both, OnlyOld, OnlyNew, Neither, Unknown}
use Rattle.run_comparison.specs.declared.overlap.Overlap.{Overlap}
use Rattle.run_comparison.specs.declared.differing.Differing.{Differing}
use Rattle.run_comparison.specs.declared.differing.TheConstants.{MOST_DIFFERING}
use Rattle.run_comparison.specs.Amount.{capped}
use Rattle.run_comparison.specs.Ends.{Traces, end_of}

-- whether a run keeps a trace, as far as that is known: its table has the trace, or had room for all
abbrev pub is_kept : Traces → TraceId → Option Bool
is_kept t trace = option_map_or (λ (e : TraceEnd). Some e.kept) (end_of t.ends trace) (if nat_lt 0 t.beyond then None else Some false)

-- which runs keep a trace, by whether each does
abbrev pub kept_by : (old new : Option Bool) → KeptBy
kept_by (Some true) (Some true) = Both
kept_by (Some true) (Some false) = OnlyOld
kept_by (Some false) (Some true) = OnlyNew
kept_by (Some false) (Some false) = Neither
kept_by (Some true) None = Unknown
kept_by (Some false) None = Unknown
kept_by None new = Unknown

-- which runs keep a trace
abbrev pub trace_kept_by : (old new : Traces) → TraceId → KeptBy
trace_kept_by old new trace = kept_by (is_kept old trace) (is_kept new trace)

-- those of these traces that haven't ended in the old run
abbrev pub ended_in_new : (old : Traces) → List TraceId → List TraceId
ended_in_new old traces = filter (λ (trace : TraceId). is_none (end_of old.ends trace)) traces

-- the traces that ended in one run or both: those of the old one in the order of their first ends, and then those of
-- the new one alone
abbrev pub traces_of_both : (old new : Traces) → List TraceId
traces_of_both old new = keys_of old.ends ++ ended_in_new old (keys_of new.ends)

abbrev pub is_both : KeptBy → Bool
is_both Both = true
is_both _ = false

abbrev pub is_only_old : KeptBy → Bool
is_only_old OnlyOld = true
is_only_old _ = false

abbrev pub is_only_new : KeptBy → Bool
is_only_new OnlyNew = true
is_only_new _ = false

abbrev pub is_neither : KeptBy → Bool
is_neither Neither = true
is_neither _ = false

abbrev pub is_unknown : KeptBy → Bool
is_unknown Unknown = true
is_unknown _ = false

-- how many of these are kept by which
abbrev pub counted : List KeptBy → Overlap
counted kept = record {
  both = capped (count_by is_both kept);
  only_old = capped (count_by is_only_old kept);
  only_new = capped (count_by is_only_new kept);
  none = capped (count_by is_neither kept);
  unknown = capped (count_by is_unknown kept);
}

-- how many traces are kept by which run, of those that ended in one of them
abbrev pub overlap_of : (old new : Traces) → Overlap
overlap_of old new = counted (map (trace_kept_by old new) (traces_of_both old new))

-- whether one run alone keeps a trace
abbrev pub differs : KeptBy → Bool
differs kept = is_only_old kept || is_only_new kept

-- a trace with its last end in each run
abbrev pub with_ends : (old new : Traces) → TraceId → Differing
with_ends old new trace = record { trace = trace; old = end_of old.ends trace; new = end_of new.ends trace }

-- the first traces that one run alone keeps
abbrev pub first_differing : (old new : Traces) → List Differing
first_differing old new = map (with_ends old new) (take MOST_DIFFERING (filter (λ (trace : TraceId). differs (trace_kept_by old new trace)) (traces_of_both old new)))

-- none is kept by anybody
abbrev pub nobody : Overlap
nobody = record { both = 0; only_old = 0; only_new = 0; none = 0; unknown = 0 }

-- one trace more
abbrev pub counted_more : Overlap → KeptBy → Overlap
counted_more o Both = record { both = capped (o.both + 1); only_old = o.only_old; only_new = o.only_new; none = o.none; unknown = o.unknown }
counted_more o OnlyOld = record { both = o.both; only_old = capped (o.only_old + 1); only_new = o.only_new; none = o.none; unknown = o.unknown }
counted_more o OnlyNew = record { both = o.both; only_old = o.only_old; only_new = capped (o.only_new + 1); none = o.none; unknown = o.unknown }
counted_more o Neither = record { both = o.both; only_old = o.only_old; only_new = o.only_new; none = capped (o.none + 1); unknown = o.unknown }
counted_more o Unknown = record { both = o.both; only_old = o.only_old; only_new = o.only_new; none = o.none; unknown = capped (o.unknown + 1) }

-- these traces more, one after the other
abbrev pub fold_kept : (old new : Traces) → Overlap → List TraceId → Overlap
fold_kept old new overlap traces = fold (λ (o : Overlap) (trace : TraceId). counted_more o (trace_kept_by old new trace)) overlap traces

-- a trace more, where one run alone keeps it and there is room for one more
abbrev pub with_differing : (old new : Traces) → List Differing → TraceId → List Differing
with_differing old new found trace = if nat_lt (length found) MOST_DIFFERING && differs (trace_kept_by old new trace) then found ++ with_ends old new trace ∷ [] else found

-- these traces more, one after the other
abbrev pub fold_differing : (old new : Traces) → List Differing → List TraceId → List Differing
fold_differing old new found traces = fold (with_differing old new) found traces

-- a trace more, where it hasn't ended in the old run
abbrev pub counted_if_new : (old new : Traces) → Overlap → TraceId → Overlap
counted_if_new old new overlap trace = if is_none (end_of old.ends trace) then counted_more overlap (trace_kept_by old new trace) else overlap

-- those of these traces that haven't ended in the old run more, one after the other
abbrev pub fold_new_kept : (old new : Traces) → Overlap → List TraceId → Overlap
fold_new_kept old new overlap traces = fold (counted_if_new old new) overlap traces

-- a trace more, where it hasn't ended in the old run, the new one alone keeps it, and there is room for one more
abbrev pub differing_if_new : (old new : Traces) → List Differing → TraceId → List Differing
differing_if_new old new found trace = if is_none (end_of old.ends trace) then with_differing old new found trace else found

-- those of these traces that haven't ended in the old run more, one after the other
abbrev pub fold_new_differing : (old new : Traces) → List Differing → List TraceId → List Differing
fold_new_differing old new found traces = fold (differing_if_new old new) found traces
