-- The texts of `GET /decisions.json` and of `GET /trace/ID.json`: each is an object of JSON with no blanks (RFC 8259,
-- section 4), and a line feed.
use Rattle.std.specs.Prelude.{ℕ, List, [], ◌∷◌, ◌++◌, ◌-◌, Option, Some, None, codes, take}
use Rattle.json.specs.Json.{Json, null, string, array, object, Items, no_items, item}
use Rattle.span_ids.specs.Id.{id_text}
use Rattle.span_ids.specs.declared.outcome.Verdict.{Verdict}
use Rattle.span_ids.specs.declared.outcome.Verdict.TheVariants as verdict
use Rattle.decision_line.specs.declared.decision.DecidedTrace.{DecidedTrace}
use Rattle.decision_line.specs.declared.decision.DueCause.{DueCause}
use Rattle.decision_line.specs.declared.decision.DueCause.TheVariants.{Wait, RootWait, Size, Close}
use Rattle.decision_line.specs.declared.decision.EvictedTrace.{EvictedTrace}
use Rattle.decision_line.specs.declared.decision.Said.{Said}
use Rattle.decision_line.specs.declared.decision.Said.TheVariants.{Sampled, NotSampled, InvertedSampled, InvertedNotSampled, Dropped, NotAsked}
use Rattle.decision_line.specs.declared.held.TraceHeld.{TraceHeld}
use Rattle.decision_line.specs.declared.held.TraceHeld.TheVariants as held
use Rattle.decision_line.specs.Line.{count, decider_value, members_of}
use Rattle.decision_json.specs.declared.news.TraceNews.{TraceNews}
use Rattle.decision_json.specs.declared.news.TraceNews.TheVariants.{Decided, Evicted}
use Rattle.decision_json.specs.News.{newest_of}

-- ---- words

abbrev pub kept_word : Verdict → List ℕ
kept_word verdict.Sampled = codes "kept"
kept_word verdict.NotSampled = codes "not_kept"

-- what the verdict rests on: a policy's answer, the trace's size, or that no policy sampled
abbrev pub because_word : (decider : Option ℕ) → DueCause → List ℕ
because_word (Some place) cause = codes "policy"
because_word None Size = codes "too_big"
because_word None _ = codes "none_agreed"

abbrev pub ended_word : DueCause → List ℕ
ended_word Wait = codes "wait"
ended_word RootWait = codes "root"
ended_word Size = codes "size"
ended_word Close = codes "close"

abbrev pub answer_word : Said → List ℕ
answer_word Sampled = codes "sample"
answer_word NotSampled = codes "not_sample"
answer_word InvertedSampled = codes "inverted_sample"
answer_word InvertedNotSampled = codes "inverted_not_sample"
answer_word Dropped = codes "drop"
answer_word NotAsked = codes "not_asked"

-- ---- values

-- a policy, and what it answered
abbrev pub answer_value : (name : List ℕ) → Said → Json
answer_value name said = object (members_of ((codes "policy", string name) ∷ (codes "answer", string (answer_word said)) ∷ []))

-- the policies in their order; one of which nothing stands that it said was not asked
abbrev pub answer_items : (names : List (List ℕ)) → List Said → Items
answer_items [] said = no_items
answer_items (name ∷ names) [] = item (answer_value name NotAsked) (answer_items names [])
answer_items (name ∷ names) (first ∷ said) = item (answer_value name first) (answer_items names said)

-- the members of a decided trace; it has waited for no time where its first span came later, as the clock went back
abbrev pub decided_members : (names : List (List ℕ)) → List Said → DecidedTrace → List (List ℕ × Json)
decided_members names said decision =
    ((codes "trace_id", string (id_text decision.trace))
    ∷ (codes "state", string (codes "decided"))
    ∷ (codes "decided_ms", count decision.moment)
    ∷ (codes "verdict", string (kept_word decision.verdict))
    ∷ (codes "because", string (because_word decision.decider decision.cause))
    ∷ (codes "policy", decider_value names decision.decider)
    ∷ (codes "spans", count decision.spans)
    ∷ (codes "wait_ms", count (decision.moment - decision.opened))
    ∷ (codes "ended_wait", string (ended_word decision.cause))
    ∷ (codes "answers", array (answer_items names said))
    ∷ [])

-- the members of an evicted trace
abbrev pub evicted_members : EvictedTrace → List (List ℕ × Json)
evicted_members evicted =
    ((codes "trace_id", string (id_text evicted.trace))
    ∷ (codes "state", string (codes "evicted"))
    ∷ (codes "decided_ms", count evicted.moment)
    ∷ (codes "spans", count evicted.spans)
    ∷ [])

-- what became of a trace
abbrev pub news_members : (names : List (List ℕ)) → TraceNews → List (List ℕ × Json)
news_members names (Decided trace said asked) = decided_members names (take asked said) trace
news_members names (Evicted trace) = evicted_members trace

abbrev pub news_value : (names : List (List ℕ)) → TraceNews → Json
news_value names one = object (members_of (news_members names one))

-- what became of each, in their order
abbrev pub news_items : (names : List (List ℕ)) → List TraceNews → Items
news_items names [] = no_items
news_items names (one ∷ news) = item (news_value names one) (news_items names news)

-- what became of the last traces, at a moment, of so many that are remembered
abbrev pub decisions_value : (now remembers : ℕ) (names : List (List ℕ)) → List TraceNews → Json
decisions_value now remembers names news =
    object
    (members_of
    ((codes "now_ms", count now)
    ∷ (codes "remembers", count remembers)
    ∷ (codes "decisions", array (news_items names news))
    ∷ []))

-- a trace of which nothing was told
abbrev pub unknown_members : (id : List ℕ) → List (List ℕ × Json)
unknown_members id = (codes "trace_id", string (id_text id)) ∷ (codes "state", string (codes "unknown")) ∷ []

-- what became of the trace with this id
abbrev pub found_members : (names : List (List ℕ)) (id : List ℕ) → Option TraceNews → List (List ℕ × Json)
found_members names id (Some one) = news_members names one
found_members names id None = unknown_members id

-- an object of a state and further members
abbrev pub state_value : (state : List ℕ) → List (List ℕ × Json) → Json
state_value state members = object (members_of ((codes "state", string state) ∷ members))

-- what the shards hold of a trace
abbrev pub known_value : TraceHeld → Json
known_value (held.Waiting since spans) = state_value (codes "waiting") ((codes "since_ms", count since) ∷ (codes "spans", count spans) ∷ [])
known_value (held.Decided verdict) = state_value (codes "decided") ((codes "verdict", string (kept_word verdict)) ∷ [])
known_value (held.Remembered verdict) = state_value (codes "remembered") ((codes "verdict", string (kept_word verdict)) ∷ [])
known_value held.Unknown = state_value (codes "unknown") []

-- null where they haven't all answered yet
abbrev pub held_value : Option TraceHeld → Json
held_value None = null
held_value (Some held) = known_value held

-- what became of a trace, as far as that was told, and what the shards hold of it
abbrev pub told_value : (names : List (List ℕ)) (id : List ℕ) → Option TraceNews → Option TraceHeld → Json
told_value names id found held = object (members_of (found_members names id found ++ (codes "held", held_value held) ∷ []))

-- what became of it at last, of what is remembered, the newest first, and what the shards hold of it
abbrev pub trace_value : (names : List (List ℕ)) (id : List ℕ) → List TraceNews → Option TraceHeld → Json
trace_value names id news held = told_value names id (newest_of id news) held
