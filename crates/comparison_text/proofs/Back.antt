-- The text of a comparison reads as its value again. For the contract of `json_of`.
use Rattle.std.proofs.Common.{◌≤◌, ◌+◌, ℕ, suc, List, [], ◌∷◌, arith, lit≤, map, max}
use Rattle.std.specs.Prelude.{Result, Ok, Err, OnOk, Option, Some, None}
use Rattle.json.specs.Json.{Json, max_depth}
use Rattle.json.specs.Tree.{HasNumbers, depth, items_depth}
use Rattle.json.proofs.Printed.Trees.{document-print}
use Rattle.decision_line.specs.Line.{ReadsBack, count, name_or_null}
use Rattle.run_comparison.specs.declared.amount.Amount.{Amount}
use Rattle.run_comparison.specs.declared.differing.Differing.{Differing}
use Rattle.run_comparison.specs.declared.end.TraceEnd.{TraceEnd}
use Rattle.run_comparison.specs.Ends.{policy_of}
use Rattle.run_comparison.specs.Overlaps.{first_differing}
use Rattle.run_comparison.specs.Rows.{PolicyKept, policy_rows, same_steps, service_rows}
use Rattle.run_comparison.specs.Run.{Run}
use Rattle.run_comparison.specs.Timeline.{Timeline, counts_of}
use Rattle.comparison_text.specs.Value.{amount_or_null, array_of, comparison_value, differing_value, end_or_null, end_value, ended_cause, items_of, over_time_value, policy_value, service_value}

-- bounds
wider : (deep less limit : ℕ) → deep ≤ less → less ≤ limit → deep ≤ limit
wider deep less limit h more = omega arith

both : (one other limit : ℕ) → one ≤ limit → other ≤ limit → max one other ≤ limit
both one other limit h rest = omega arith

deeper : (deep : ℕ) → deep ≤ 3 → suc deep ≤ 4
deeper deep h = omega arith

enough : (deep : ℕ) → deep ≤ 4 → deep ≤ max_depth
enough deep h = omega arith

name-depth : (name : Option (List ℕ)) → depth (name_or_null name) ≤ 0
name-depth None = omega arith
name-depth (Some name) = omega arith

amount-depth : (amount : Option Amount) → depth (amount_or_null amount) ≤ 1
amount-depth None = omega arith
amount-depth (Some amount) = omega arith

end-depth : (names : List (List ℕ)) (end : TraceEnd) → depth (end_value names end) ≤ 1
end-depth names end = omega (arith, name-depth (policy_of end names), name-depth (ended_cause end.how))

end-or-null-depth : (names : List (List ℕ)) (end : Option TraceEnd) → depth (end_or_null names end) ≤ 1
end-or-null-depth names None = omega arith
end-or-null-depth names (Some end) = end-depth names end

policy-depth : (kept : PolicyKept) → depth (policy_value kept) ≤ 2
policy-depth kept = omega (arith, amount-depth kept.old, amount-depth kept.new)

differing-depth : (old new : List (List ℕ)) (trace : Differing) → depth (differing_value old new trace) ≤ 2
differing-depth old new trace = omega (arith, end-or-null-depth old trace.old, end-or-null-depth new trace.new)

-- items are no deeper than each of them
items-depths : {A : Type 0} (value : A → Json) (limit : ℕ) → ((one : A) → depth (value one) ≤ limit) → (these : List A) → items_depth (items_of (map value these)) ≤ limit
items-depths value limit each [] = omega arith
items-depths value limit each (one ∷ these) = omega (arith, each one, items-depths value limit each these)

-- an array whose items are no deeper than this
array-depth : {A : Type 0} (value : A → Json) (limit : ℕ) → ((one : A) → depth (value one) ≤ limit) → (these : List A) → depth (array_of value these) ≤ limit + 1
array-depth value limit each these = omega (arith, items-depths value limit each these)

over-time-depth : (old new : Timeline) → depth (over_time_value old new) ≤ 2
over-time-depth old new = omega (arith, array-depth count 0 (λ n. omega arith) (counts_of old), array-depth count 0 (λ n. omega arith) (counts_of new))

comparison-depth : (version old_name new_name : List ℕ) (old new : Run) → depth (comparison_value version old_name new_name old new) ≤ 4
comparison-depth version old_name new_name old new =
    let steps = same_steps old.steps new.steps in
    let differ = array-depth (differing_value old.names new.names) 2 (differing-depth old.names new.names) (first_differing old.traces new.traces) in
    let services = array-depth service_value 1 (λ s. omega arith) (service_rows old.services new.services) in
    let policies = array-depth policy_value 2 policy-depth (policy_rows old new) in
    deeper _
    (both 0 _ 3 (lit≤ tt)
    (both 2 _ 3 (lit≤ tt)
    (both 2 _ 3 (lit≤ tt)
    (both 1 _ 3 (lit≤ tt)
    (both _ _ 3 (wider _ 2 3 (over-time-depth steps.0 steps.1) (lit≤ tt))
    (both _ _ 3 policies
    (both _ _ 3 (wider _ 2 3 services (lit≤ tt))
    (both _ 0 3 differ (lit≤ tt)))))))))

pub comparison-reads-back : (version old_name new_name : List ℕ) (old new : Run) → HasNumbers (comparison_value version old_name new_name old new)
    → ReadsBack (comparison_value version old_name new_name old new)
comparison-reads-back version old_name new_name old new h =
    document-print (comparison_value version old_name new_name old new) h (enough _ (comparison-depth version old_name new_name old new))

-- what holds anyway, holds at an `Ok`
pub on-ok : {V E : Type 0} (result : Result V E) {P : Type 0} → P → OnOk result P
on-ok (Ok value) h = h
on-ok (Err fault) h = tt
