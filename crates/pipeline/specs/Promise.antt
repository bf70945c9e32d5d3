-- What a run of the pipeline promises: what its threads did is a run of the core.
use Rattle.std.specs.Prelude.{◌≡◌, ℕ, ◌+◌, ◌<◌, Bool, true, false, if◌then◌else◌, List, [], map, slice_index, Option, Result, Ok, Err}
use Rattle.span_ids.specs.declared.outcome.Reason.TheVariants.{QueueFull}
use Rattle.drop_ledger.specs.declared.count.Count.TheVariants.{Dropped}
use Rattle.drop_ledger.specs.Places.{place_of}
use Rattle.drop_ledger.specs.Sums.{Fits}
use Rattle.drop_ledger.specs.declared.report.Report.{Report}
use Rattle.otlp_types.specs.declared.arrival.Arrival.{Arrival}
use Rattle.lane_queue.specs.Grid.{ColumnsWaitAs}
use Rattle.lane_worker.specs.Serving.{LaneAt}
use Rattle.policy_tree.specs.declared.limiter_node.LimiterNode.{LimiterNode}
use Rattle.policy_tree.specs.Meaning.{meaning}
use Rattle.policy_tree.specs.Tree.{limiters}
use Rattle.shard_core.specs.Held.{Held, settings}
use Rattle.span_exporter.specs.Exports.{ExporterState}
use Rattle.span_sink.specs.Manners.{Manner, takes_all}
use Rattle.span_sink.specs.LineSinks.{LineSinkState, up_state, down_state}
use Rattle.config_shards.specs.Shards.{settings_by}
use Rattle.world_theory.specs.World.{CoreConfig, settings_for}
use Rattle.span_weave.specs.Threads.{Threads, ExporterMade}
use Rattle.span_weave.specs.Woven.{HoldsOfThreads}
use Rattle.tsc_config.specs.declared.config.Config.{Config}
use Rattle.run_weave.specs.Workers.{Given, Left, Worked, any_full, parts_of}
use Rattle.run_weave.specs.Ran.{ThreadsRan, Ran, Reports, CountPasses, NeverFull}
use Rattle.pipeline.specs.declared.fault.ServeFault.{ServeFault}
use Rattle.pipeline.specs.declared.fault.ServeFault.TheVariants.{NoMemory, CounterOverflow, SinkDown}
use Rattle.pipeline.specs.Outcome.{TellsCounts, TellsSink}

-- the names by which policies are recorded in lines: those of the policies, in order, where the configuration says so
abbrev pub recorded_names : Config → List (List ℕ)
recorded_names config = if config.record_policy then map (λ p. p.name) config.policies else []

-- the core's configuration, with a destination of this manner: each shard has its share of the traces and of the caches
abbrev pub core_to : Manner → Config → CoreConfig
core_to manner config = record { shard = settings_by config; batch_size = config.send_batch_size; manner = manner; names = recorded_names config }

-- the same where lines are the destination
abbrev pub core_of : Config → CoreConfig
core_of config = core_to takes_all config

-- a shard of the core by this configuration, whose senders are the lanes and the ticker
abbrev pub HasSettings : Config → Held → Type 0
HasSettings config shard = settings shard ≡ settings_for (core_of config) (config.lanes + 1)

-- the limiter nodes of the policies
abbrev pub nodes_of : Config → List LimiterNode
nodes_of config = limiters (meaning config.policies)

-- the report counts no span as one that found a queue full
abbrev pub HasNoneFull : (report : List ℕ) → Type 0
HasNoneFull report = slice_index report (place_of (Dropped QueueFull)) ≡ 0

-- what each answer tells of the run, by the destination's bytes and failures before and after: such a run left this report, or
-- one of which no report can tell
abbrev pub AnswerTells : (IsSuch : LineSinkState → LineSinkState → List ℕ → Type 0) → (IsBeyond : LineSinkState → LineSinkState → Type 0) → (taken : Option (List ℕ)) → (failures : ℕ) → (taken_after : Option (List ℕ)) → (failures_after : ℕ) → Result Report ServeFault → Type 0
AnswerTells IsSuch IsBeyond taken failures taken_after failures_after (Ok report) = IsSuch (up_state taken failures) (up_state taken_after failures_after) report
AnswerTells IsSuch IsBeyond taken failures taken_after failures_after (Err (SinkDown report)) = IsSuch (up_state taken failures) (down_state taken_after failures_after) report
AnswerTells IsSuch IsBeyond taken failures taken_after failures_after (Err NoMemory) = Unit {0}
AnswerTells IsSuch IsBeyond taken failures taken_after failures_after (Err CounterOverflow) = (is_down : Bool) × IsBeyond (up_state taken failures) (record { taken = taken_after; failures = failures_after; is_down = is_down })

module _ {F T : Type 0} (serves : ℕ → F → LaneAt → F → LaneAt → Bool → Type 0) (ticks_give : T → Option ℕ → T → Type 0) (config : Config) (servers : List F) (ticks : T) where
  -- all threads did what each promises, and their queues and seats were joined again; each counted these numbers, and
  -- where one stopped counting `is_full` says so
  pub record HasWorked (old new : ExporterState) (counts : List (List ℕ)) (is_full : Bool) : Type 0 where
    pub given : Given F T
    pub left : Left
    pub worked : Worked serves ticks_give (settings_for (core_of config) (config.lanes + 1)) (nodes_of config) config.keeps_doubles config.queue_capacity config.export_capacity config.lanes config.shards given left
    pub acceptors_are : given.acceptors ≡ servers
    pub ticks_are : given.ticks ≡ ticks
    pub exporter_is : given.exporter ≡ old
    pub exporter_left : left.exporter.exporter ≡ new
    pub counted : counts ≡ parts_of left
    pub full : is_full ≡ any_full left
    -- a lane's push waits for room where the configuration says so
    pub waits : ColumnsWaitAs config.waits_for_room given.columns

  -- what an answer tells of threads that did so: the sums of what they counted, and whether the sink is down; where
  -- there was no memory at the start none did anything
  abbrev pub WorkedTells : (old new : ExporterState) → Result Report ServeFault → Type 0
  WorkedTells old new (Ok report) = (counts : List (List ℕ)) × (is_full : Bool) × HasWorked old new counts is_full × TellsSink {A = Report} new.sink.is_down (Ok report) × TellsCounts is_full counts (Ok report)
  WorkedTells old new (Err NoMemory) = Unit {0}
  WorkedTells old new (Err CounterOverflow) = (counts : List (List ℕ)) × (is_full : Bool) × HasWorked old new counts is_full × TellsSink {A = Report} new.sink.is_down (Err CounterOverflow) × TellsCounts is_full counts (Err CounterOverflow)
  WorkedTells old new (Err (SinkDown report)) = (counts : List (List ℕ)) × (is_full : Bool) × HasWorked old new counts is_full × TellsSink {A = Report} new.sink.is_down (Err (SinkDown report)) × TellsCounts is_full counts (Err (SinkDown report))

  -- the same by the bytes and failures of a destination of this manner, before and after
  pub record ServersTell (manner : Manner) (taken : Option (List ℕ)) (failures : ℕ) (taken_after : Option (List ℕ)) (failures_after : ℕ) (answer : Result Report ServeFault) : Type 0 where
    pub old : ExporterState
    pub new : ExporterState
    pub size : old.size ≡ config.send_batch_size
    pub manner_is : old.manner ≡ manner
    pub names_are : old.names ≡ recorded_names config
    pub first : old.sink ≡ up_state taken failures
    pub taken_is : new.sink.taken ≡ taken_after
    pub failures_are : new.sink.failures ≡ failures_after
    pub tells : WorkedTells old new answer

module _ (manner : Manner) {F T : Type 0} (receives : ℕ → F → LaneAt → List Arrival → F → LaneAt → List Arrival → Bool → Type 0) (ticks_give : T → Option ℕ → T → Type 0) (config : Config) (servers : List F) (ticks : T) where
  -- what the threads did is a run of the core, for which the headline holds; the report and the destination tell of it
  pub record IsRunTo (old new : LineSinkState) (report : List ℕ) : Type 0 where
    pub ran : Ran receives ticks_give (core_to manner config) (nodes_of config) config.keeps_doubles config.queue_capacity config.lanes config.shards servers ticks old new
    -- each lane's connections were served to their end
    pub none_stopped : (lane : ℕ) → lane < config.lanes → ran.stopped lane ≡ false
    -- no count passes 2^64-1
    pub reports : Reports (core_to manner config) config.lanes config.shards ran.threads ran.end report
    pub fits : Fits report
    -- where lanes wait for room, none is counted that found a queue full
    pub never_full : config.waits_for_room ≡ true → HasNoneFull report
    pub holds : HoldsOfThreads (core_to manner config) config.lanes config.shards ran.threads ran.end

  -- the same of a run some of whose counts passes 2^64-1, so that there is no report of it
  pub record IsRunBeyondTo (old new : LineSinkState) : Type 0 where
    pub ran : Ran receives ticks_give (core_to manner config) (nodes_of config) config.keeps_doubles config.queue_capacity config.lanes config.shards servers ticks old new
    pub passes : CountPasses (core_to manner config) config.lanes config.shards ran.threads ran.end
    pub never_full : config.waits_for_room ≡ true → NeverFull (core_to manner config) config.lanes config.shards ran.threads ran.end
    pub holds : HoldsOfThreads (core_to manner config) config.lanes config.shards ran.threads ran.end

  -- what each answer tells of the run
  abbrev pub RunTellsTo : (taken : Option (List ℕ)) → (failures : ℕ) → (taken_after : Option (List ℕ)) → (failures_after : ℕ) → Result Report ServeFault → Type 0
  RunTellsTo = AnswerTells IsRunTo IsRunBeyondTo

-- what each answer tells of a run with lines as the destination
abbrev pub RunTells : {F T : Type 0} → (receives : ℕ → F → LaneAt → List Arrival → F → LaneAt → List Arrival → Bool → Type 0) → (ticks_give : T → Option ℕ → T → Type 0) → Config → (servers : List F) → (ticks : T)
    → (taken : Option (List ℕ)) → (failures : ℕ) → (taken_after : Option (List ℕ)) → (failures_after : ℕ) → Result Report ServeFault → Type 0
RunTells receives ticks_give config servers ticks = RunTellsTo takes_all receives ticks_give config servers ticks

-- ---- a run of connections and ticks of which nothing is said

module _ (manner : Manner) (config : Config) where
  -- there is a run of the core, for which the headline holds, of which the report and the destination tell; each shard was
  -- sent the same moments
  pub record IsCoreRunTo (old new : LineSinkState) (report : List ℕ) : Type 0 where
    pub threads : Threads
    pub end : ExporterMade
    pub ran : ThreadsRan (core_to manner config) (nodes_of config) config.queue_capacity config.lanes config.shards old new threads end
    pub reports : Reports (core_to manner config) config.lanes config.shards threads end report
    pub fits : Fits report
    -- where lanes wait for room, none is counted that found a queue full
    pub never_full : config.waits_for_room ≡ true → HasNoneFull report
    pub moments : List ℕ
    pub same_ticks : (shard : ℕ) → threads.ticks shard ≡ moments
    pub holds : HoldsOfThreads (core_to manner config) config.lanes config.shards threads end

  -- the same of a run some of whose counts passes 2^64-1
  pub record IsCoreRunBeyondTo (old new : LineSinkState) : Type 0 where
    pub threads : Threads
    pub end : ExporterMade
    pub ran : ThreadsRan (core_to manner config) (nodes_of config) config.queue_capacity config.lanes config.shards old new threads end
    pub passes : CountPasses (core_to manner config) config.lanes config.shards threads end
    pub never_full : config.waits_for_room ≡ true → NeverFull (core_to manner config) config.lanes config.shards threads end
    pub moments : List ℕ
    pub same_ticks : (shard : ℕ) → threads.ticks shard ≡ moments
    pub holds : HoldsOfThreads (core_to manner config) config.lanes config.shards threads end

  -- what each answer tells of it
  abbrev pub CoreRunTellsTo : (taken : Option (List ℕ)) → (failures : ℕ) → (taken_after : Option (List ℕ)) → (failures_after : ℕ) → Result Report ServeFault → Type 0
  CoreRunTellsTo = AnswerTells IsCoreRunTo IsCoreRunBeyondTo

-- the same with lines as the destination
abbrev pub CoreRunTells : Config → (taken : Option (List ℕ)) → (failures : ℕ) → (taken_after : Option (List ℕ)) → (failures_after : ℕ) → Result Report ServeFault → Type 0
CoreRunTells config = CoreRunTellsTo takes_all config
