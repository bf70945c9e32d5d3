-- The texts of the lines' values read as these values again. For the contracts of `append_decided`, `append_evicted` and
-- `append_late`.
use Rattle.std.proofs.Common.{◌≡◌, ◌≤◌, ◌<◌, ◌-◌, ◌^◌, ℕ, List, [], ◌∷◌, arith}
use Rattle.std.specs.Prelude.{Option, Some, None}
use Rattle.json.specs.Json.{Json}
use Rattle.json.specs.Tree.{HasNumbers, ItemsHaveNumbers, depth, items_depth}
use Rattle.json.proofs.Printed.Decimals.{IsNumber-decimal}
use Rattle.json.proofs.Printed.Trees.{document-print}
use Rattle.decision_line.specs.declared.decision.DecidedTrace.{DecidedTrace}
use Rattle.decision_line.specs.declared.decision.EvictedTrace.{EvictedTrace}
use Rattle.decision_line.specs.declared.decision.LateSpans.{LateSpans}
use Rattle.decision_line.specs.declared.decision.Said.{Said}
use Rattle.decision_line.specs.Line.{ReadsBack, decided_value, decider_value, evicted_value, late_value, name_or_null, policy_items}
use Rattle.std.specs.Prelude.{option_and_then, slice_get}

name-numbers : (name : Option (List ℕ)) → HasNumbers (name_or_null name)
name-numbers None = tt
name-numbers (Some name) = tt

name-depth : (name : Option (List ℕ)) → depth (name_or_null name) ≤ 0
name-depth None = omega arith
name-depth (Some name) = omega arith

items-numbers : (names : List (List ℕ)) (said : List Said) → ItemsHaveNumbers (policy_items names said)
items-numbers [] said = tt
items-numbers (name ∷ names) [] = ((tt, (tt, tt)), items-numbers names [])
items-numbers (name ∷ names) (first ∷ said) = ((tt, (tt, tt)), items-numbers names said)

items-depth : (names : List (List ℕ)) (said : List Said) → items_depth (policy_items names said) ≤ 1
items-depth [] said = omega arith
items-depth (name ∷ names) [] = omega (arith, items-depth names [])
items-depth (name ∷ names) (first ∷ said) = omega (arith, items-depth names said)

pub decided-reads-back : (names : List (List ℕ)) (said : List Said) (decision : DecidedTrace) → decision.moment < 2 ^ 64 → decision.spans < 2 ^ 64 → ReadsBack (decided_value names said decision)
decided-reads-back names said decision moment spans =
    let decider : Option (List ℕ) = option_and_then (λ place. slice_get names place) decision.decider in
    document-print (decided_value names said decision) (
      tt,
      (
        IsNumber-decimal decision.moment moment,
        (
          tt,
          (
            name-numbers decider,
            (
              tt,
              (
                IsNumber-decimal decision.spans spans,
                (IsNumber-decimal (decision.moment - decision.opened) (omega (arith, moment)), (items-numbers names said, tt)),
              ),
            ),
          ),
        ),
      ),
    )
    (omega (arith, name-depth decider, items-depth names said))

pub evicted-reads-back : (evicted : EvictedTrace) → evicted.moment < 2 ^ 64 → evicted.spans < 2 ^ 64 → ReadsBack (evicted_value evicted)
evicted-reads-back evicted moment spans =
    document-print (evicted_value evicted) (tt, (IsNumber-decimal evicted.moment moment, (tt, (IsNumber-decimal evicted.spans spans, tt)))) (omega arith)

pub late-reads-back : (late : LateSpans) → late.moment < 2 ^ 64 → late.spans < 2 ^ 64 → ReadsBack (late_value late)
late-reads-back late moment spans =
    document-print (late_value late) (tt, (IsNumber-decimal late.moment moment, (tt, (tt, (IsNumber-decimal late.spans spans, tt))))) (omega arith)
