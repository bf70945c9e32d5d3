-- The verdict by a list of answers.
use Rattle.std.specs.Prelude.{Bool, List, Option, Some, None, if◌then◌else◌}
use Rattle.policy_tree.specs.Tree.{Policies}
use Rattle.otlp_types.specs.declared.arrival.Arrival.{Arrival}
use Rattle.span_ids.specs.declared.outcome.Verdict.{Verdict}
use Rattle.policy_eval.specs.Given.{verdict_given, are_answered}

-- the verdict with these answers: none where their number isn't that of the askings
abbrev pub judged : Policies → (answers : List Bool) → List Arrival → Option Verdict
judged policies answers spans = if are_answered policies answers spans then Some (verdict_given policies answers spans) else None
