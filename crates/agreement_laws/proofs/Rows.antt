-- Threads and a script whose one shard took the same: a span, a tick at which it is decided, and the Ends.
-- No contract rests on it: it shows that the premises of `serve_is_replay` can be met.
use Rattle.std.proofs.Common.{inl, inr, ◌≡◌, ℕ, zero, suc, ◌<◌, true, false, List, [], ◌∷◌, ◌++◌, map, flat_map, filter, Some, refl, arith}
use Rattle.otlp_types.specs.declared.arrival.Arrival.{Arrival}
use Rattle.otlp_types.specs.declared.arrival.Item.{Item}
use Rattle.otlp_types.specs.declared.arrival.Item.TheVariants.{Span, Tick, End}
use Rattle.otlp_types.specs.declared.request.Request.{Request}
use Rattle.lane_queue.specs.Queues.{QueueState, TakesLast, IsFull}
use Rattle.lane_seq.specs.Pushes.{Receives as IsPushed}
use Rattle.lane_seq.specs.declared.reply.Reply.TheVariants.{Done}
use Rattle.journal_theory.specs.Journal.{Settings, Entry, IsAnswered, notes}
use Rattle.journal_theory.specs.Marked.{MarksApply}
use Rattle.journal_theory.specs.Fate.{output}
use Rattle.lane_queue.specs.Merges.{of}
use Rattle.span_sink.specs.LineSinks.{LineSinkState}
use Rattle.span_exporter.specs.Batches.{records_in, IsLineOf}
use Rattle.span_exporter.specs.Exports.{WritesLine}
use Rattle.span_exporter.specs.declared.answer.Flushed.TheVariants.{Handed}
use Rattle.world_theory.specs.World.{CoreConfig, settings_for, goes_to}
use Rattle.world_theory.proofs.Samples.{always, configured, plain, key}
use Rattle.tsc_script.specs.Instructions.{receive, tick, close}
use Rattle.span_weave.specs.Threads.{Threads, pushed, span_of, pushed_in, pulled, handed_over, pulls, items_of, journal_of, ExporterMade, AreNumbered, Meets}
use Rattle.span_weave.proofs.Numbering.{numbered_from}
use Rattle.script_run.specs.Connections.{connection_of, with_received}
use Rattle.script_run.specs.Requests.{reads, IsTakenFor, arrivals_of, reply_line}
use Rattle.script_run.specs.World.{ScriptWorld, replied, was_sent, Sizes, new_world, entry_of, empty_queues, Plays, PlaysAll}
use Rattle.script_run.specs.Writing.{handed_in}
use Rattle.agreement_laws.specs.Same.{TookTheSame, DidTheSame}
use Rattle.agreement_laws.proofs.Same.{serve_is_replay}

-- every trace is sampled after 10 milliseconds, and batches have one span
abbrev config : CoreConfig
config = configured always (Some 1) 1 1

abbrev own : Settings
own = settings_for config 2

abbrev span : Arrival
span = record { key = key 0; moment = 0; rec = plain 1 }

-- the tick, at which one decision asks no limiter
abbrev ticked : Entry
ticked = record { item = Tick 11; refused = false; lost = false; answers = [] ∷ [] }

-- ---- one lane, one shard and a ticker

abbrev did : Threads
did = record {
  received = λ lane. span ∷ [];
  tries = λ lane shard. pushed span ∷ [];
  ticks = λ shard. 11 ∷ [];
  popped = λ shard. (0, entry_of (Span span) false false) ∷ (1, ticked) ∷ (0, entry_of (End 0) false false) ∷ (1, entry_of (End 1) false false) ∷ [];
  acts = pulled 0 span ∷ handed_over ∷ [];
}

abbrev end : ExporterMade
end = record { batch = []; handed = (span ∷ []) ∷ []; counted = []; down = false }

first_one : (P : ℕ → Type 0) → P 0 → (k : ℕ) → k < 1 → P k
first_one P h zero l = h
first_one P h (suc k) l = absurd (omega (arith, l))

both_first : (P : (lane shard : ℕ) → Type 0) → P 0 0 → (lane shard : ℕ) → lane < 1 → shard < 1 → P lane shard
both_first P h lane shard i j = first_one (λ l. P l shard) (first_one (P 0) h shard j) lane i

pub meets : Meets config 1 1 did end
unfolding notes
meets = record {
  numbered = first_one (λ lane. AreNumbered lane (did.received lane)) (numbered_from 0 (did.received 0) (refl, refl, tt));
  tried = both_first (λ lane shard. map span_of (did.tries lane shard) ≡ filter (goes_to 1 shard) (did.received lane)) refl;
  of_lane = both_first (λ lane shard. items_of lane (did.popped shard) ≡ map (λ a. Span a) (pushed_in (did.tries lane shard)) ++ End lane ∷ []) refl;
  of_ticker = first_one (λ shard. items_of 1 (did.popped shard) ≡ map (λ m. Tick m) (did.ticks shard) ++ End 1 ∷ []) refl;
  of_senders = first_one _ (omega arith, (omega arith, (omega arith, (omega arith, tt))));
  marked = first_one (λ shard. MarksApply (settings_for config 2) (journal_of did shard)) (refl, (refl, (refl, (refl, tt))));
  answered = first_one (λ shard. IsAnswered (settings_for config 2) (journal_of did shard)) (refl, (refl, (refl, (refl, tt))));
  shipped = first_one (λ shard. of shard (pulls did.acts) ≡ output (settings_for config 2) (journal_of did shard)) refl;
  of_shards = (omega arith, tt);
  exports = refl;
  flushed = refl;
}

-- ---- a script

abbrev sizes : Sizes
sizes = record { batch = 1; queue = 1; keeps_doubles = false }

abbrev up_with : List ℕ → LineSinkState
up_with taken = record { taken = Some taken; failures = 0; is_down = false }

abbrev start : ScriptWorld
start = new_world 1 1 (up_with [])

abbrev of_one_span : Request
of_one_span = record {
  resource_spans = record {
    resource = span.rec.resource;
    scope_spans = record { scope = span.rec.scope; spans = span.rec.span ∷ []; schema_url = [] } ∷ [];
    schema_url = [];
  } ∷ [];
}

abbrev waiting : ScriptWorld
waiting = record start {
  contacts = with_received 0 1 start.contacts;
  received = span ∷ [];
  journals = (entry_of (Span span) false false ∷ []) ∷ [];
  events = replied (Done 1) ∷ [];
  sink = up_with (reply_line (Done 1));
}

-- the span was handed over, as this line
abbrev handed : (line : List ℕ) → ScriptWorld
handed line = record waiting {
  journals = (ticked ∷ entry_of (Span span) false false ∷ []) ∷ [];
  events = replied (Done 1) ∷ was_sent (record { batch = span ∷ []; flushed = Handed 1 }) ∷ [];
  sink = up_with (reply_line (Done 1) ++ line);
}

abbrev closed : (line : List ℕ) → ScriptWorld
closed line = record (handed line) {
  journals = (entry_of (End 1) false false ∷ entry_of (End 0) false false ∷ ticked ∷ entry_of (Span span) false false ∷ []) ∷ [];
  closed = true;
}

writes : (taken line : List ℕ) → WritesLine (up_with taken) line (up_with (taken ++ line))
writes taken line = inl (record { was_up = refl; stays_up = refl; no_failure = refl; bytes = refl })

abbrev queued : QueueState Item
queued = record { items = Span span ∷ []; capacity = 1 }

abbrev span_pushed : IsPushed TakesLast IsFull (arrivals_of (connection_of 0 start.contacts) 0 of_one_span) (empty_queues 1 1) (Done 1) (queued ∷ [])
span_pushed = record {
  refused = 0;
  pushed = (0, 0, queued ∷ [], refl, inl (refl, (record { items = []; capacity = 1 }, queued, refl, (omega arith, refl), refl)), (refl, refl));
  replied = (refl, refl);
}

received_played : (body : List ℕ) → IsTakenFor false body (reads of_one_span) → Plays own sizes start (receive 0 0 body) waiting
unfolding notes
received_played body taken = (
  refl,
  refl,
  inr (
    reads of_one_span,
    taken,
    (
      Done 1,
      queued ∷ [],
      span_pushed,
      (
        waiting.sink,
        writes [] (reply_line (Done 1)),
        record {
          released = [];
          takes = (waiting.journals, [], [], [], ([], [], [], ((false, false, refl, refl), refl), (refl, refl), refl), (refl, refl, refl), refl);
          batches = [];
          sends = record { are_batches = tt; are_all = refl; sends = refl };
          becomes = refl;
        },
      ),
    ),
  ),
)

tick_played : (line : List ℕ) → IsLineOf (records_in (span ∷ [])) line → Plays own sizes waiting (tick 11) (handed line)
unfolding notes
tick_played line is = (
  refl,
  refl,
  record {
    released = span ∷ [];
    takes = ((handed line).journals, [], span ∷ [], [], (span ∷ [], [], [], ((false, false, refl, refl), refl), (refl, refl), refl), (refl, refl, refl), refl);
    batches = record { batch = span ∷ []; flushed = Handed 1 } ∷ [];
    sends = record {
      are_batches = (omega arith, omega arith);
      are_all = refl;
      sends = ((handed line).sink, (omega arith, refl, (line, is, record { was_up = refl; stays_up = refl; no_failure = refl; bytes = refl })), refl);
    };
    becomes = refl;
  },
)

close_played : (line : List ℕ) → Plays own sizes (handed line) close (closed line)
unfolding notes
close_played line = (
  refl,
  record {
    released = [];
    takes = (
      (entry_of (End 0) false false ∷ ticked ∷ entry_of (Span span) false false ∷ []) ∷ [],
      [],
      [],
      [],
      ([], [], [], ((false, false, refl, refl), refl), (refl, refl), refl),
      ((closed line).journals, [], [], [], ([], [], [], ((false, false, refl, refl), refl), (refl, refl), refl), (refl, refl, refl), refl),
      refl,
    );
    batches = [];
    sends = record { are_batches = tt; are_all = refl; sends = refl };
    becomes = refl;
  },
)

pub played : (body line : List ℕ) → IsTakenFor false body (reads of_one_span) → IsLineOf (records_in (span ∷ [])) line
    → PlaysAll own sizes start (receive 0 0 body ∷ tick 11 ∷ close ∷ []) (closed line)
played body line taken is = (waiting, received_played body taken, (handed line, tick_played line is, (closed line, close_played line, refl)))

-- ---- both took the same, and did the same

pub took_the_same : (line : List ℕ) → TookTheSame config 1 did own (closed line)
took_the_same line = record { settings = refl; journals = refl }

pub did_the_same : (body line : List ℕ) → IsTakenFor false body (reads of_one_span) → IsLineOf (records_in (span ∷ [])) line → DidTheSame config 1 did end own (closed line)
did_the_same body line taken is = serve_is_replay config 1 did end meets own sizes 1 (up_with []) (receive 0 0 body ∷ tick 11 ∷ close ∷ []) (closed line) (played body line taken is) (took_the_same line)

-- by computation: both handed over the span
pub both_hand_it_over : (line : List ℕ) → (flat_map (λ batch. batch) end.handed ≡ span ∷ []) × (flat_map (λ batch. batch) (handed_in (closed line).events) ≡ span ∷ [])
both_hand_it_over line = (refl, refl)
