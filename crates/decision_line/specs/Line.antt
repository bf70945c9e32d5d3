-- The lines of decisions: each is an object of JSON with no blanks (RFC 8259, section 4), and a line feed.
use Rattle.std.specs.Prelude.{◌≡◌, ℕ, List, [], ◌∷◌, ◌++◌, ◌-◌, Option, Some, None, option_and_then, slice_get, codes, decimal}
use Rattle.json.specs.Json.{Json, document, null, number, string, array, object, Items, no_items, item, Members, no_members, member}
use Rattle.json.specs.Print.{print}
use Rattle.json.specs.Tree.{json_tokens}
use Rattle.span_ids.specs.Id.{id_text}
use Rattle.span_ids.specs.declared.outcome.Verdict.{Verdict}
use Rattle.span_ids.specs.declared.outcome.Verdict.TheVariants as verdict
use Rattle.decision_line.specs.declared.decision.DecidedTrace.{DecidedTrace}
use Rattle.decision_line.specs.declared.decision.DueCause.{DueCause}
use Rattle.decision_line.specs.declared.decision.DueCause.TheVariants.{Wait, RootWait, Size, Close}
use Rattle.decision_line.specs.declared.decision.EvictedTrace.{EvictedTrace}
use Rattle.decision_line.specs.declared.decision.LateSpans.{LateSpans}
use Rattle.decision_line.specs.declared.decision.Said.{Said}
use Rattle.decision_line.specs.declared.decision.Said.TheVariants.{Sampled, NotSampled, InvertedSampled, InvertedNotSampled, Dropped, NotAsked}

-- ---- words

abbrev pub verdict_word : Verdict → List ℕ
verdict_word verdict.Sampled = codes "sampled"
verdict_word verdict.NotSampled = codes "notSampled"

abbrev pub cause_word : DueCause → List ℕ
cause_word Wait = codes "wait"
cause_word RootWait = codes "rootWait"
cause_word Size = codes "size"
cause_word Close = codes "close"

abbrev pub said_word : Said → List ℕ
said_word Sampled = codes "sampled"
said_word NotSampled = codes "notSampled"
said_word InvertedSampled = codes "invertedSampled"
said_word InvertedNotSampled = codes "invertedNotSampled"
said_word Dropped = codes "dropped"
said_word NotAsked = codes "notAsked"

-- ---- values

-- the members of an object, in this order
abbrev pub members_of : List (List ℕ × Json) → Members
members_of [] = no_members
members_of (m ∷ ms) = member m.0 m.1 (members_of ms)

-- a number
abbrev pub count : ℕ → Json
count n = number (decimal n)

-- a policy's name, or null where there is none
abbrev pub name_or_null : Option (List ℕ) → Json
name_or_null None = null
name_or_null (Some name) = string name

-- the policy that decided: none where none did, and where there is none at its place
abbrev pub decider_value : (names : List (List ℕ)) → (decider : Option ℕ) → Json
decider_value names decider = name_or_null (option_and_then (λ place. slice_get names place) decider)

-- a policy, and what it said
abbrev pub policy_value : (name : List ℕ) → Said → Json
policy_value name said = object (members_of ((codes "name", string name) ∷ (codes "said", string (said_word said)) ∷ []))

-- the policies in their order; one of which nothing stands that it said was not asked
abbrev pub policy_items : (names : List (List ℕ)) → List Said → Items
policy_items [] said = no_items
policy_items (name ∷ names) [] = item (policy_value name NotAsked) (policy_items names [])
policy_items (name ∷ names) (first ∷ said) = item (policy_value name first) (policy_items names said)

-- a decided trace; it has waited for no time where its first span came later, as the clock went back
abbrev pub decided_value : (names : List (List ℕ)) → List Said → DecidedTrace → Json
decided_value names said decision =
    object
    (members_of
    ((codes "traceId", string (id_text decision.trace))
    ∷ (codes "moment", count decision.moment)
    ∷ (codes "verdict", string (verdict_word decision.verdict))
    ∷ (codes "policy", decider_value names decision.decider)
    ∷ (codes "by", string (cause_word decision.cause))
    ∷ (codes "spans", count decision.spans)
    ∷ (codes "waitedMs", count (decision.moment - decision.opened))
    ∷ (codes "policies", array (policy_items names said))
    ∷ []))

-- an evicted trace
abbrev pub evicted_value : EvictedTrace → Json
evicted_value evicted =
    object
    (members_of
    ((codes "traceId", string (id_text evicted.trace))
    ∷ (codes "moment", count evicted.moment)
    ∷ (codes "verdict", string (codes "evicted"))
    ∷ (codes "spans", count evicted.spans)
    ∷ []))

-- late spans: by no wait of theirs, but since their trace was decided
abbrev pub late_value : LateSpans → Json
late_value late =
    object
    (members_of
    ((codes "traceId", string (id_text late.trace))
    ∷ (codes "moment", count late.moment)
    ∷ (codes "verdict", string (verdict_word late.verdict))
    ∷ (codes "by", string (codes "late"))
    ∷ (codes "spans", count late.spans)
    ∷ []))

-- ---- lines

-- a value with no blanks, and a line feed
abbrev pub line_of : Json → List ℕ
line_of value = print (json_tokens value) ++ codes "\n"

-- the line of a decided trace
abbrev pub decided_line : (names : List (List ℕ)) → List Said → DecidedTrace → List ℕ
decided_line names said decision = line_of (decided_value names said decision)

-- the line of an evicted trace
abbrev pub evicted_line : EvictedTrace → List ℕ
evicted_line evicted = line_of (evicted_value evicted)

-- the line of late spans
abbrev pub late_line : LateSpans → List ℕ
late_line late = line_of (late_value late)

-- the value's text is JSON, and reads as this value again
abbrev pub ReadsBack : Json → Type 0
ReadsBack value = document (print (json_tokens value)) ≡ Some value
