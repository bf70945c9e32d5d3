-- Touches, counted from the first on.
use Rattle.std.specs.Prelude.{Bool, not, ◌&&◌, List}
use Rattle.std.specs.List.{list_any}
use Rattle.span_ids.specs.Same.{same_trace}
use Rattle.span_ids.specs.declared.ids.TraceId.{TraceId}
use Rattle.span_ids.specs.declared.outcome.Verdict.{Verdict}
use Rattle.decision_cache.specs.Touches.{Touch, is_same_verdict}

-- one of the touches is of this trace, with this verdict
abbrev pub is_touched : Verdict → TraceId → List Touch → Bool
is_touched v t touches = list_any (λ u. is_same_verdict u.verdict v && same_trace u.trace t) touches

-- a touch is of this verdict, and of a trace that no earlier one with it was of
abbrev pub is_further : Verdict → Touch → (earlier : List Touch) → Bool
is_further v u earlier = is_same_verdict u.verdict v && not (is_touched v u.trace earlier)
