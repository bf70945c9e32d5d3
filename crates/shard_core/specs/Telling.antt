-- What is told of the trace that is decided next, of its decision, of traces that leave undecided, and of late spans.
use Rattle.std.specs.Prelude.{ℕ, ◌+◌, Bool, if◌then◌else◌, nat_le, cond, is_none, List, [], ◌∷◌, length, Option, Some, None, option_map}
use Rattle.std.specs.List.{find}
use Rattle.trace_buffer.specs.Buffer.{Episode, is_due_at, is_too_big}
use Rattle.journal_theory.specs.Journal.{Settings, Journal, Opening, clock, have_ended, is_oversized, spans_since}
use Rattle.journal_theory.specs.Standing.{mark}
use Rattle.shard_core.specs.Held.{Held, is_finished, due_by}
use Rattle.decision_line.specs.declared.decision.DueCause.{DueCause}
use Rattle.decision_line.specs.declared.decision.DueCause.TheVariants.{Wait, RootWait, Size, Close}
use Rattle.decision_line.specs.declared.decision.DecidedTrace.{DecidedTrace}
use Rattle.decision_line.specs.declared.decision.EvictedTrace.{EvictedTrace}
use Rattle.decision_line.specs.declared.decision.Said.{Said}
use Rattle.decision_line.specs.declared.decision.Said.TheVariants.{Sampled as SaidSampled, NotSampled as SaidNotSampled, InvertedSampled, InvertedNotSampled, Dropped as SaidDropped}
use Rattle.policy_eval.specs.declared.answer.Answer.{Answer}
use Rattle.policy_eval.specs.declared.answer.Answer.TheVariants.{Sample, NotSample, InvertedSample, InvertedNotSample, Dropped as AnswerDropped}
use Rattle.span_ids.specs.declared.outcome.Reason.TheVariants.{LateNotSampled}
use Rattle.span_ids.specs.declared.outcome.Verdict.{Verdict}
use Rattle.span_ids.specs.declared.outcome.Verdict.TheVariants.{Sampled, NotSampled}
use Rattle.shard_core.specs.declared.answer.Decided.{Decided}
use Rattle.shard_core.specs.declared.answer.Decided.TheVariants.{Release, Nothing, Dropped as NotReleased}
use Rattle.shard_core.specs.declared.answer.DueTrace.{DueTrace}
use Rattle.shard_core.specs.declared.answer.Taken.{Taken}
use Rattle.shard_core.specs.declared.answer.Taken.TheVariants.{Kept, Late, Dropped}

-- why an episode that is due is decided now: it is too big, nothing more comes, it has waited, or its root has
abbrev pub cause_of : (finished : Bool) → (mark decision_wait : ℕ) → Episode → DueCause
cause_of finished mark decision_wait e =
    if is_too_big e.maximum e.spans then Size
    else if finished then Close
    else if nat_le (e.moment + decision_wait) mark then Wait
    else RootWait

-- what is told of an episode that is due
abbrev pub told_of : Held → Episode → DueTrace
told_of h e = record {
  trace = e.trace;
  opened = e.moment;
  moment = h.standing.clock;
  spans = length e.spans;
  cause = cause_of (is_finished h) (due_by h).0 (due_by h).1 e;
}

-- what is told of the episode that is decided next, if one is due
abbrev pub due_trace : Held → Option DueTrace
due_trace h = option_map (told_of h) (find (is_due_at (due_by h).0 (due_by h).1 (due_by h).2) h.standing.episodes)

-- why an episode that is due at the journal's last item is decided then: it is too big, nothing more comes, it had waited
-- at the last tick, or its root had
abbrev pub cause_at : Settings → Journal → Opening → DueCause
cause_at s past o =
    if is_oversized s past o then Size
    else if have_ended past s.senders then Close
    else if nat_le (o.moment + s.decision_wait) (mark past) then Wait
    else RootWait

-- what is told of an episode that is due at the journal's last item, on the spans that it has then
abbrev pub due_told : Settings → Journal → Opening → DueTrace
due_told s past o = record { trace = o.trace; opened = o.moment; moment = clock past; spans = length (spans_since past o); cause = cause_at s past o }

-- what is told of the trace that is decided next, by the episodes that are still to be decided: of the first, if there
-- is one
abbrev pub next_told : Settings → Journal → List Opening → Option DueTrace
next_told s past [] = None
next_told s past (o ∷ later) = Some (due_told s past o)

-- what is told of a trace that was decided so
abbrev told_with : Verdict → (decider : Option ℕ) → DueTrace → DecidedTrace
told_with verdict decider due = record { trace = due.trace; moment = due.moment; opened = due.opened; spans = due.spans; verdict = verdict; cause = due.cause; decider = decider }

-- what is told of a trace that was due, once it is decided: nothing where nothing was due
abbrev pub told_decision : Decided → (decider : Option ℕ) → DueTrace → Option DecidedTrace
told_decision (Release spans) decider due = Some (told_with Sampled decider due)
told_decision (NotReleased spans) decider due = Some (told_with NotSampled decider due)
told_decision Nothing decider due = None

-- what a policy said: one that answered was asked
abbrev pub said_by : Answer → Said
said_by Sample = SaidSampled
said_by NotSample = SaidNotSampled
said_by InvertedSample = InvertedSampled
said_by InvertedNotSample = InvertedNotSampled
said_by AnswerDropped = SaidDropped

-- what is told of a trace that left the full buffer undecided
abbrev pub told_evicted : (moment : ℕ) → Taken → Option EvictedTrace
told_evicted moment (Kept (Some e) cache) = cond (is_none e.verdict) (Some (record { trace = e.trace; moment = moment; spans = e.spans })) None
told_evicted moment _ = None

-- the verdict that a late span met; none where the item was no late span
abbrev pub verdict_of_late : Taken → Option Verdict
verdict_of_late (Late span) = Some Sampled
verdict_of_late (Dropped LateNotSampled) = Some NotSampled
verdict_of_late _ = None
