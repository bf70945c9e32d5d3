-- A turn ends its connection because a count would have passed 2^64-1 exactly where the spans of some request of it
-- found no place in the counts. For the clauses `fits` of `came`, `waited` and `leave`.
use Rattle.std.proofs.Common.{◌≡◌, ℕ, ◌+◌, ◌||◌, Bool, true, false, not, List, [], ◌∷◌, ◌++◌, Option, Some, None, MatchOption, MatchBool, inl, inr, refl, sym, ap, ◌∙◌}
use Rattle.std.specs.Prelude.{if◌then◌else◌, nat_le}
use Rattle.std.proofs.lemmas.List.Folds.{list_any-append}
use Rattle.http_lane.specs.declared.answer.EventFate.{EventFate}
use Rattle.http_lane.specs.declared.answer.EventFate.TheVariants.{Written, Uncounted, Unmade, Unwritten}
use Rattle.http_lane.specs.declared.answer.ServeEnd.{ServeEnd}
use Rattle.http_lane.specs.declared.answer.ServeEnd.TheVariants.{Closed, Cut, Quiet}
use Rattle.http_lane.specs.declared.turns.TheConstants.{IDLE_LIMIT}
use Rattle.http_lane.specs.Connection.{RequestReading, Cause, accepts, refusal, close_asked, starved, stopping, timed_out, submitted, ConnectionEvent, Settles, end_of, end_with, closes, can_be, is_between, Submission, submissions, submission_by}
use Rattle.otlp_encoding.specs.declared.encoding.Encoding.{Encoding}
use Rattle.http_lane.specs.Turns.{Waiting, Coming, came, unkept, nothing, over, read_failed, write_failed, dismissed, IsTurnBy, IsLate, idle_end}
use Rattle.lane_turns.specs.Acts.{Act, any_uncounted, act_uncounted, acts_uncounted, is_full_end}

or_false : (b : Bool) → (b || false) ≡ b
or_false true = refl
or_false false = refl

-- one act more
pub one_full : (a : Act) (b : Bool) → act_uncounted a ≡ b → acts_uncounted (a ∷ []) ≡ b
one_full a b e = or_false (act_uncounted a) ∙ e

pub acts_more : (acts more : List Act) → acts_uncounted acts ≡ false → acts_uncounted (acts ++ more) ≡ acts_uncounted more
acts_more acts more e = list_any-append act_uncounted acts more ∙ ap (λ (b : Bool). b || acts_uncounted more) e

-- ---- an event

written_ends : (closing : Bool) → false ≡ is_full_end (end_with Written closing)
written_ends true = refl
written_ends false = refl

event_full : (fate : EventFate) (encoding : Encoding) (cause : Cause) → can_be fate cause ≡ true → any_uncounted (submission_by fate encoding cause) ≡ is_full_end (end_with fate (closes cause))
event_full Written encoding (accepts awaited) can = refl
event_full Written encoding (refusal r is_head) can = refl
event_full Written encoding close_asked can = refl
event_full Written encoding starved can = refl
event_full Written encoding stopping can = refl
event_full Written encoding timed_out can = refl
event_full Written encoding (submitted body moment reply closing) can = written_ends closing
event_full Uncounted encoding (accepts awaited) can = absurd (cc can)
event_full Uncounted encoding (refusal r is_head) can = absurd (cc can)
event_full Uncounted encoding close_asked can = absurd (cc can)
event_full Uncounted encoding starved can = absurd (cc can)
event_full Uncounted encoding stopping can = absurd (cc can)
event_full Uncounted encoding timed_out can = absurd (cc can)
event_full Uncounted encoding (submitted body moment reply closing) can = refl
event_full Unmade encoding (accepts awaited) can = refl
event_full Unmade encoding (refusal r is_head) can = refl
event_full Unmade encoding close_asked can = refl
event_full Unmade encoding starved can = refl
event_full Unmade encoding stopping can = refl
event_full Unmade encoding timed_out can = refl
event_full Unmade encoding (submitted body moment reply closing) can = refl
event_full Unwritten encoding (accepts awaited) can = refl
event_full Unwritten encoding (refusal r is_head) can = refl
event_full Unwritten encoding close_asked can = refl
event_full Unwritten encoding starved can = refl
event_full Unwritten encoding stopping can = refl
event_full Unwritten encoding timed_out can = refl
event_full Unwritten encoding (submitted body moment reply closing) can = refl

none_full : (events : List ConnectionEvent) (end : Option ServeEnd) → events ≡ [] → is_full_end end ≡ false → any_uncounted (submissions events) ≡ is_full_end end
none_full events end none e = ap (λ (es : List ConnectionEvent). any_uncounted (submissions es)) none ∙ sym e

settles_full : (r : RequestReading) (events : List ConnectionEvent) (end : Option ServeEnd) (last : RequestReading) → Settles r events end last → any_uncounted (submissions events) ≡ is_full_end end
settles_full r [] end last h = sym (ap is_full_end h.1)
settles_full r (e ∷ events) end last h = go (end_of e) refl h.3 (λ k. settles_full h.0 events end last k)
  where
    head : any_uncounted (submission_by e.fate e.encoding e.cause) ≡ is_full_end (end_of e)
    head = event_full e.fate e.encoding e.cause h.2.0

    both : any_uncounted (submissions (e ∷ events)) ≡ (any_uncounted (submission_by e.fate e.encoding e.cause) || any_uncounted (submissions events))
    both = list_any-append (λ (s : Submission). not s.is_counted) (submission_by e.fate e.encoding e.cause) (submissions events)

    go : (o : Option ServeEnd) → end_of e ≡ o → MatchOption o (Settles h.0 events end last) (λ why. (events ≡ []) × (end ≡ Some why)) → (Settles h.0 events end last → any_uncounted (submissions events) ≡ is_full_end end)
        → any_uncounted (submissions (e ∷ events)) ≡ is_full_end end
    go None is more rest = both ∙ (λ i. (head ∙ ap is_full_end is) i || rest more i)
    go (Some why) is more rest =
        both ∙ ((λ i. (head ∙ ap is_full_end is) i || ap (λ (es : List ConnectionEvent). any_uncounted (submissions es)) more.0 i) ∙ (or_false (is_full_end (Some why)) ∙ sym (ap is_full_end more.1)))

-- ---- a turn

idle_ends : (since moment : ℕ) (is_stopped : Bool) → is_full_end (idle_end since moment is_stopped) ≡ false
idle_ends since moment true = refl
idle_ends since moment false = late (nat_le (since + IDLE_LIMIT) moment)
  where
    late : (b : Bool) → is_full_end (if b then Some Quiet else None) ≡ false
    late true = refl
    late false = refl

over_ends : (b : Bool) → is_full_end (Some (if b then Closed else Cut)) ≡ false
over_ends true = refl
over_ends false = refl

-- how a connection is over at the end of its input
pub over_full : (end : ServeEnd) (b : Bool) → end ≡ (if b then Closed else Cut) → false ≡ is_full_end (Some end)
over_full end b e = sym (ap (λ (why : ServeEnd). is_full_end (Some why)) e ∙ over_ends b)

late_full : (r : RequestReading) (since moment : ℕ) (events : List ConnectionEvent) (end : Option ServeEnd) → IsLate r since moment events end → any_uncounted (submissions events) ≡ is_full_end end
late_full r since moment events end (inl h) =
    ap (λ (es : List ConnectionEvent). any_uncounted (submissions es)) h.2
    ∙ (list_any-append (λ (s : Submission). not s.is_counted) (submission_by h.1.fate h.1.encoding h.1.cause) []
    ∙ (or_false (any_uncounted (submission_by h.1.fate h.1.encoding h.1.cause)) ∙ (event_full h.1.fate h.1.encoding h.1.cause h.4.0 ∙ sym (ap is_full_end h.5))))
late_full r since moment events end (inr h) = none_full events end h.1 (ap is_full_end h.2)

pub turn_full : (coming : Coming) (w : Waiting) (moment : ℕ) (is_stopped : Bool) (events : List ConnectionEvent) (next : Waiting) → IsTurnBy coming w moment is_stopped events next
    → any_uncounted (submissions events) ≡ is_full_end next.end
turn_full (came bytes) w moment is_stopped events next h = settles_full _ events next.end next.reading h.1
turn_full (unkept bytes) w moment is_stopped events next h = none_full events next.end h.1 (ap is_full_end h.2)
turn_full nothing w moment is_stopped events next h = go (is_between w.reading) h.2
  where
    go : (b : Bool) → MatchBool b ((events ≡ []) × (next.end ≡ idle_end w.since moment is_stopped)) (IsLate w.reading w.since moment events next.end) → any_uncounted (submissions events) ≡ is_full_end next.end
    go true k = none_full events next.end k.0 (ap is_full_end k.1 ∙ idle_ends w.since moment is_stopped)
    go false k = late_full w.reading w.since moment events next.end k
turn_full over w moment is_stopped events next h = none_full events next.end h.0 (ap is_full_end h.1 ∙ over_ends (is_between w.reading))
turn_full read_failed w moment is_stopped events next h = none_full events next.end h.0 (ap is_full_end h.1)
turn_full write_failed w moment is_stopped events next h = none_full events next.end h.0 (ap is_full_end h.1)
turn_full dismissed w moment is_stopped events next h = none_full events next.end h.1 (ap is_full_end h.2)
