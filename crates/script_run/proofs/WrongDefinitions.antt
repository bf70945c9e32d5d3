-- Wrong definitions of what a script means, each with a run that breaks a law. No clause needs them: they show what the
-- laws of `Laws` say. Where a request is read, its body is any that is taken for it.
use Rattle.std.proofs.Common.{inl, inr, ◌≡◌, ℕ, suc, ◌+◌, Bool, true, false, List, [], ◌∷◌, ◌++◌, length, map, flat_map, Some, refl, sym, ap, subst, ◌∙◌, arith, append-nil}
use Rattle.std.specs.Prelude.{if◌then◌else◌, IsTrue}
use Rattle.std.specs.List.{list_all, AllByRecursion}
use Rattle.otlp_types.specs.declared.arrival.Arrival.{Arrival}
use Rattle.otlp_types.specs.declared.arrival.Item.{Item}
use Rattle.otlp_types.specs.declared.arrival.Item.TheVariants.{Span, Tick, End}
use Rattle.otlp_types.specs.declared.request.Request.{Request}
use Rattle.span_ids.specs.declared.outcome.Reason.TheVariants.{NoMemory}
use Rattle.drop_ledger.specs.declared.count.Count.TheVariants.{Handed}
use Rattle.lane_queue.specs.Queues.{QueueState, TakesLast, IsFull}
use Rattle.lane_seq.specs.Pushes.{Receives as IsPushed}
use Rattle.lane_seq.specs.declared.reply.Reply.TheVariants.{Done, Busy}
use Rattle.journal_theory.specs.Journal.{Settings, Journal, Entry, notes, have_ended}
use Rattle.journal_theory.proofs.Samples.{plain_settings}
use Rattle.span_sink.specs.LineSinks.{LineSinkState}
use Rattle.span_exporter.specs.Exports.{WritesLine}
use Rattle.span_exporter.specs.declared.answer.Flushed.{Flushed}
use Rattle.span_exporter.specs.declared.answer.Flushed.TheVariants.{Handed as WasHanded, BatchDropped, Empty}
use Rattle.world_theory.specs.World.{CoreLane, CoreShard, World as Core, new_world as new_core, settings}
use Rattle.world_theory.specs.Step.{Step, run}
use Rattle.world_theory.specs.Headline.{handed_spans}
use Rattle.world_theory.proofs.Samples.{always, plain, key}
use Rattle.world_theory.proofs.Balance.{same_settings}
use Rattle.world_theory.proofs.OnePlace.{run_keeps}
use Rattle.world_theory.proofs.AllAnswered.{answered_new}
use Rattle.tsc_script.specs.Instructions.{Instruction, receive, tick}
use Rattle.script_run.specs.Connections.{Contacts, connection_of, with_connection, with_received}
use Rattle.script_run.specs.Requests.{reads, refuses, IsTakenFor, arrivals_of, reply_line}
use Rattle.script_run.specs.World.{ScriptWorld, OutputEvent, replied, was_sent, Sizes, new_world, Plays, PlaysAll, TakesRounds, RunsToQuiet, empty_queues, entry_of, ends_from}
use Rattle.script_run.specs.Counts.{number_reported}
use Rattle.script_run.specs.Calm.{is_for_memory, IsUnmarked, Calm}
use Rattle.script_run.specs.Writing.{handed_in}
use Rattle.script_run.specs.CoreRun.{core_config, IsRunBy}
use Rattle.script_run.specs.Laws.{Agrees, CalmRunsAgree}

-- ---- one lane and one shard

abbrev pub own : Settings
own = record (plain_settings always) { num_traces = Some 1; sampled_cache_size = 1; non_sampled_cache_size = 1 }

-- batches of one span, queues of this capacity, and doubles that are discarded
abbrev pub with_queue : ℕ → Sizes
with_queue capacity = record { batch = 1; queue = capacity; keeps_doubles = false }

abbrev first_sink : LineSinkState
first_sink = record { taken = Some []; failures = 0; is_down = false }

abbrev pub start : ScriptWorld
start = new_world 1 1 first_sink

abbrev busy_line : List ℕ
busy_line = reply_line Busy

-- the reply `busy` is written, and nothing else
abbrev busy_written : LineSinkState
busy_written = record { taken = Some busy_line; failures = 0; is_down = false }

-- a sink that is up takes a line
abbrev pub up_with : List ℕ → LineSinkState
up_with taken = record { taken = Some taken; failures = 0; is_down = false }

pub writes : (taken line : List ℕ) → WritesLine (up_with taken) line (up_with (taken ++ line))
writes taken line = inl (record { was_up = refl; stays_up = refl; no_failure = refl; bytes = refl })

-- what the shard takes releases nothing
pub silent : (sizes : Sizes) (old : ScriptWorld) (journals : List Journal) (rounds : List (List (List Item))) → TakesRounds own old.journals old.askings rounds journals old.askings []
    → RunsToQuiet own sizes old rounds (record old { journals = journals })
silent sizes old journals rounds takes = record {
  released = [];
  takes = takes;
  batches = [];
  sends = record { are_batches = tt; are_all = refl; sends = refl };
  becomes = ap (λ (events : List OutputEvent). record old { journals = journals; events = events }) (sym (append-nil old.events));
}

-- it takes nothing
stays : (w : ScriptWorld) → RunsToQuiet own (with_queue 1) w [] w
stays w = silent (with_queue 1) w w.journals [] (refl, refl, refl)

-- ---- a script in which a request was refused as busy is calm, too

abbrev is_refusal_but_busy : OutputEvent → Bool
is_refusal_but_busy (replied reply) = false
is_refusal_but_busy (was_sent sent) = is_for_memory sent.flushed

record CalmThoughBusy (w : ScriptWorld) : Type 0 where
  events : AllByRecursion (λ event. is_refusal_but_busy event ≡ false) w.events
  journals : AllByRecursion IsUnmarked w.journals
  up : w.sink.is_down ≡ false

-- two runs of one script do the same where both are calm by this
abbrev RunsAgreeWhere : (ScriptWorld → Type 0) → Type 0
RunsAgreeWhere IsCalm = (s : Settings) (sizes : Sizes) (lanes shards : ℕ) (first : LineSinkState) (played : List Instruction) (a b : ScriptWorld)
    → PlaysAll s sizes (new_world lanes shards first) played a → PlaysAll s sizes (new_world lanes shards first) played b → IsCalm a → IsCalm b → Agrees s first a b

right_calm : CalmRunsAgree → RunsAgreeWhere Calm
right_calm h = h

abbrev busy_unconnected : ScriptWorld
busy_unconnected = record start { events = replied Busy ∷ []; sink = busy_written }

abbrev busy_connected : ScriptWorld
busy_connected = record busy_unconnected { contacts = with_connection 0 start.contacts }

-- the first is busy before there was a connection, and the second behind one
unconnected_played : PlaysAll own (with_queue 1) start (receive 0 0 [] ∷ []) busy_unconnected
unconnected_played = (busy_unconnected, (refl, refl, inl (refl, (busy_written, writes [] busy_line, stays busy_unconnected))), refl)

connected_played : PlaysAll own (with_queue 1) start (receive 0 0 [] ∷ []) busy_connected
connected_played = (busy_connected, (refl, refl, inr (refuses Busy, tt, (busy_written, writes [] busy_line, stays busy_connected))), refl)

busy_is_calm : RunsAgreeWhere CalmThoughBusy → ⊥
busy_is_calm law =
    let same = (law own (with_queue 1) 1 1 first_sink (receive 0 0 [] ∷ []) busy_unconnected busy_connected unconnected_played connected_played
    (record { events = (refl, tt); journals = (tt, tt); up = refl }) (record { events = (refl, tt); journals = (tt, tt); up = refl })).contacts in
    let q : length busy_unconnected.contacts.connections ≡ length busy_connected.contacts.connections = ap (λ (c : Contacts). length c.connections) same in
    let z : 0 ≡ 1 = q in absurd (omega (arith, z))

-- ---- a sink that is down has failed twice

abbrev FailedTwice : (first last : LineSinkState) → Type 0
FailedTwice first last = last.failures ≡ first.failures + (if last.is_down then 2 else 0)

-- the sink fails at the first byte of the first reply
abbrev failed : ScriptWorld
failed = record start { events = replied Busy ∷ []; sink = record { taken = Some []; failures = 1; is_down = true } }

failed_written : WritesLine first_sink busy_line failed.sink
failed_written = inr (inl (record { was_up = refl; goes_down = refl; one_failure = refl; part = []; missing = busy_line; split = refl; cut_short = omega arith; bytes = refl }))

failed_played : PlaysAll own (with_queue 1) start (receive 0 0 [] ∷ []) failed
failed_played = (failed, (refl, refl, inl (refl, (failed.sink, failed_written, stays failed))), refl)

fails_twice : FailedTwice first_sink failed.sink → ⊥
fails_twice law = let z : 1 ≡ 2 = law in absurd (omega (arith, z))

-- ---- a batch that was given up is among those that were handed over

abbrev given_up_too : Flushed → List Arrival → List (List Arrival) → List (List Arrival)
given_up_too (WasHanded spans) batch rest = batch ∷ rest
given_up_too (BatchDropped spans reason) batch rest = batch ∷ rest
given_up_too Empty batch rest = rest

abbrev handed_or_given_up : List OutputEvent → List (List Arrival)
handed_or_given_up [] = []
handed_or_given_up (replied reply ∷ more) = handed_or_given_up more
handed_or_given_up (was_sent sent ∷ more) = given_up_too sent.flushed sent.batch (handed_or_given_up more)

-- the one span of a request, and the request
abbrev pub span : Arrival
span = record { key = key 0; moment = 0; rec = plain 1 }

abbrev pub of_one_span : Request
of_one_span = record {
  resource_spans = record {
    resource = span.rec.resource;
    scope_spans = record { scope = span.rec.scope; spans = span.rec.span ∷ []; schema_url = [] } ∷ [];
    schema_url = [];
  } ∷ [];
}

abbrev pub done_line : List ℕ
done_line = reply_line (Done 1)

-- the span waits; then a tick releases it, and its batch is given up for want of memory
abbrev waiting_world : ScriptWorld
waiting_world = record start {
  contacts = with_received 0 1 start.contacts;
  received = span ∷ [];
  journals = (entry_of (Span span) false false ∷ []) ∷ [];
  events = replied (Done 1) ∷ [];
  sink = record { taken = Some done_line; failures = 0; is_down = false };
}

abbrev ticked : Entry
ticked = record { item = Tick 11; refused = false; lost = false; answers = [] ∷ [] }

abbrev batch_dropped : ScriptWorld
batch_dropped = record waiting_world {
  journals = (ticked ∷ entry_of (Span span) false false ∷ []) ∷ [];
  events = replied (Done 1) ∷ was_sent (record { batch = span ∷ []; flushed = BatchDropped 1 NoMemory }) ∷ [];
}

-- the span is pushed to the shard's queue
abbrev pub queued_span : QueueState Item
queued_span = record { items = Span span ∷ []; capacity = 1 }

abbrev pub span_pushed : IsPushed TakesLast IsFull (arrivals_of (connection_of 0 start.contacts) 0 of_one_span) (empty_queues 1 1) (Done 1) (queued_span ∷ [])
span_pushed = record {
  refused = 0;
  pushed = (0, 0, queued_span ∷ [], refl, inl (refl, (record { items = []; capacity = 1 }, queued_span, refl, (omega arith, refl), refl)), (refl, refl));
  replied = (refl, refl);
}

waiting_played : (body : List ℕ) → IsTakenFor false body (reads of_one_span) → Plays own (with_queue 1) start (receive 0 0 body) waiting_world
unfolding notes
waiting_played body taken = (refl, refl, inr (reads of_one_span, taken, (Done 1, queued_span ∷ [], span_pushed, (waiting_world.sink, writes [] done_line, silent (with_queue 1) (record waiting_world { journals = start.journals }) waiting_world.journals _ takes))))
  where
    takes : TakesRounds own start.journals [] (((Span span ∷ []) ∷ []) ∷ []) waiting_world.journals [] []
    takes = (waiting_world.journals, [], [], [], ([], [], [], ((false, false, refl, refl), refl), (refl, refl), refl), (refl, refl, refl), refl)

dropped_played : (body : List ℕ) → IsTakenFor false body (reads of_one_span) → PlaysAll own (with_queue 1) start (receive 0 0 body ∷ tick 11 ∷ []) batch_dropped
unfolding notes
dropped_played body taken = (
  waiting_world,
  waiting_played body taken,
  (
    batch_dropped,
    (
      refl,
      refl,
      record {
        released = span ∷ [];
        takes = (batch_dropped.journals, [], span ∷ [], [], (span ∷ [], [], [], ((false, false, refl, refl), refl), (refl, refl), refl), (refl, refl, refl), refl);
        batches = record { batch = span ∷ []; flushed = BatchDropped 1 NoMemory } ∷ [];
        sends = record { are_batches = (omega arith, omega arith); are_all = refl; sends = (waiting_world.sink, (omega arith, refl, (refl, refl)), refl) };
        becomes = refl;
      },
    ),
    refl,
  ),
)

given_up_batch_as_handed : IsRunBy number_reported handed_or_given_up own (with_queue 1) 1 1 batch_dropped → ⊥
unfolding notes
given_up_batch_as_handed law =
    let one : length (handed_spans law.core) ≡ 1 = ap (λ (batches : List (List Arrival)). length (flat_map (λ batch. batch) batches)) law.handed in
    let none : length (handed_spans law.core) ≡ 0 = law.counts Handed in
    absurd (omega (arith, one, none))

-- ---- the first lane and the shard of a run

-- lanes that received something
pub record FirstLane (lanes : List CoreLane) : Type 0 where
  pub first : CoreLane
  pub others : List CoreLane
  pub are : lanes ≡ first ∷ others

pub some_lane : (lanes : List CoreLane) (n : ℕ) → length (flat_map (λ (l : CoreLane). l.received) lanes) ≡ suc n → FirstLane lanes
some_lane [] n e = let z : 0 ≡ suc n = e in absurd (omega (arith, z))
some_lane (l ∷ ls) n e = record { first = l; others = ls; are = refl }

-- the one shard, whose journal is this
pub record OneShard (shards : List CoreShard) (past : Journal) : Type 0 where
  pub one : CoreShard
  pub are : shards ≡ one ∷ []
  pub journal : one.journal ≡ past

pub one_shard : (shards : List CoreShard) (past : Journal) → map (λ (sh : CoreShard). sh.journal) shards ≡ past ∷ [] → OneShard shards past
one_shard [] past e = absurd (cc e)
one_shard (sh ∷ []) past e = record { one = sh; are = refl; journal = cc e }
one_shard (sh ∷ next ∷ more) past e = absurd (cc e)

-- the settings of its shards
pub own_settings : (steps : List Step) (sizes : Sizes) (core : Core) → run (core_config own sizes) 1 1 steps ≡ Some core → settings (core_config own sizes) core ≡ own
own_settings steps sizes core e =
    let c = core_config own sizes in
    (run_keeps c (λ (x : Core). settings c x ≡ own) (λ e. cc e) (λ x next stepped e. same_settings c x next stepped ∙ e) steps (new_core 1 1) core refl (answered_new own 1 1) e).0

-- ---- the ticker's End is left out at a close

abbrev never_ended : ScriptWorld
never_ended = record start { journals = (entry_of (End 0) false false ∷ []) ∷ []; closed = true }

never_ended_played : RunsToQuiet own (with_queue 1) (record start { closed = true }) (ends_from 0 (length start.contacts.connected) start.journals) never_ended
unfolding notes
never_ended_played = silent (with_queue 1) (record start { closed = true }) never_ended.journals (ends_from 0 (length start.contacts.connected) start.journals)
    (never_ended.journals, [], [], [], ([], [], [], ((false, false, refl, refl), refl), (refl, refl), refl), (refl, refl, refl), refl)

ticker_never_ends : IsRunBy number_reported handed_in own (with_queue 1) 1 1 never_ended → ⊥
ticker_never_ends law =
    let is = one_shard law.core.shards (entry_of (End 0) false false ∷ []) law.journals in
    let ended : IsTrue (list_all (λ (sh : CoreShard). have_ended sh.journal (settings (core_config own (with_queue 1)) law.core).senders) law.core.shards) = (law.closed refl).ends_taken in
    let of_one = subst (λ (shards : List CoreShard). IsTrue (list_all (λ (sh : CoreShard). have_ended sh.journal (settings (core_config own (with_queue 1)) law.core).senders) shards)) is.are ended in
    let of_two = subst (λ (s : Settings). IsTrue (list_all (λ (sh : CoreShard). have_ended sh.journal s.senders) (is.one ∷ []))) (own_settings law.steps (with_queue 1) law.core law.runs) of_one in
    let q : false ≡ true = subst (λ (past : Journal). IsTrue (list_all (λ (past : Journal). have_ended past 2) (past ∷ []))) is.journal of_two in
    cc q
