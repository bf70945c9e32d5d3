-- What an answer tells of a run, by what its threads did and by what was counted.
-- For the contracts of running::run_in, run and run_by_turns.
use Rattle.std.proofs.Common.{◌≡◌, ◌⊎◌, ℕ, ◌+◌, ◌*◌, ◌/◌, ◌<◌, ◌≤◌, Bool, true, false, List, Option, Result, Ok, Err, inl, inr, sym, ap, subst, ◌∙◌, arith}
use Rattle.std.proofs.Math.Nat.{lt-div-mul-add}
use Rattle.drop_ledger.specs.declared.report.Report.{Report}
use Rattle.span_ids.specs.declared.outcome.Reason.TheVariants.{QueueFull}
use Rattle.drop_ledger.specs.declared.count.Count.TheVariants.{Dropped}
use Rattle.drop_ledger.specs.Sums.{AreSums, Fits, SumPasses}
use Rattle.otlp_types.specs.declared.arrival.Arrival.{Arrival}
use Rattle.lane_queue.specs.Grid.{ColumnsWaitAs}
use Rattle.lane_worker.specs.Serving.{LaneAt}
use Rattle.span_exporter.specs.Exports.{ExporterState}
use Rattle.span_sink.specs.Manners.{Manner, takes_all}
use Rattle.span_sink.specs.LineSinks.{LineSinkState, up_state, down_state}
use Rattle.world_theory.specs.World.{KeepsATrace}
use Rattle.span_weave.specs.Woven.{HoldsOfThreads}
use Rattle.span_weave.proofs.Headlines.{woven_headline}
use Rattle.tsc_config.specs.declared.config.Config.{Config}
use Rattle.run_weave.specs.Received.{IsReceived}
use Rattle.run_weave.specs.Workers.{any_full, parts_of}
use Rattle.run_weave.specs.Ran.{Ran, Reports, CountPasses, NeverFull}
use Rattle.run_weave.proofs.Rans.{workers_ran}
use Rattle.pipeline.specs.declared.fault.ServeFault.{ServeFault}
use Rattle.pipeline.specs.declared.fault.ServeFault.TheVariants.{NoMemory, CounterOverflow, SinkDown}
use Rattle.pipeline.specs.Outcome.{TellsCounts, TellsSink}
use Rattle.pipeline.specs.Promise.{core_to, recorded_names, nodes_of, HasWorked, WorkedTells, ServersTell, IsRunTo, IsRunBeyondTo, RunTellsTo, CoreRunTellsTo}

-- each shard keeps a trace, where there are as many traces as shards
keeps_a_trace : (manner : Manner) (config : Config) → 0 < config.shards → config.shards ≤ config.num_traces → KeepsATrace (core_to manner config)
keeps_a_trace manner config some each e =
    let none : config.num_traces / config.shards ≡ 0 = cc e in
    let below : config.num_traces < config.num_traces / config.shards * config.shards + config.shards = lt-div-mul-add some in
    let less : config.num_traces < 0 * config.shards + config.shards = subst (λ n. config.num_traces < n * config.shards + config.shards) none below in
    absurd (omega (arith, less, each))

pub up_as : (sink : LineSinkState) → sink.is_down ≡ false → sink ≡ up_state sink.taken sink.failures
up_as sink e = ap (λ (b : Bool). record { taken = sink.taken; failures = sink.failures; is_down = b }) e

down_as : (sink : LineSinkState) → sink.is_down ≡ true → sink ≡ down_state sink.taken sink.failures
down_as sink e = ap (λ (b : Bool). record { taken = sink.taken; failures = sink.failures; is_down = b }) e

-- an answer tells of threads that did so
pub worked_tells : {F T : Type 0} (serves : ℕ → F → LaneAt → F → LaneAt → Bool → Type 0) (ticks_give : T → Option ℕ → T → Type 0) (config : Config) (servers : List F) (ticks : T) (old new : ExporterState) (counts : List (List ℕ)) (is_full : Bool)
    → HasWorked serves ticks_give config servers ticks old new counts is_full → (answer : Result Report ServeFault) → TellsSink new.sink.is_down answer → TellsCounts is_full counts answer → WorkedTells serves ticks_give config servers ticks old new answer
worked_tells serves ticks_give config servers ticks old new counts is_full h (Ok report) down tells = (counts, is_full, h, down, tells)
worked_tells serves ticks_give config servers ticks old new counts is_full h (Err NoMemory) down tells = tt
worked_tells serves ticks_give config servers ticks old new counts is_full h (Err CounterOverflow) down tells = (counts, is_full, h, down, tells)
worked_tells serves ticks_give config servers ticks old new counts is_full h (Err (SinkDown report)) down tells = (counts, is_full, h, down, tells)

module _ (manner : Manner) {F T : Type 0} (serves : ℕ → F → LaneAt → F → LaneAt → Bool → Type 0) (receives : ℕ → F → LaneAt → List Arrival → F → LaneAt → List Arrival → Bool → Type 0) (law : IsReceived serves receives) (ticks_give : T → Option ℕ → T → Type 0) (config : Config) (acceptors : List F) (ticks : T)
    (some : 0 < config.shards) (each : config.shards ≤ config.num_traces) (old new : ExporterState) (size : old.size ≡ config.send_batch_size) (same : old.manner ≡ manner) (named : old.names ≡ recorded_names config) (up : old.sink.is_down ≡ false) (counts : List (List ℕ)) (is_full : Bool)
    (h : HasWorked serves ticks_give config acceptors ticks old new counts is_full) where
  -- a run, of which this is so
  abbrev RanSo : (List F → T → LineSinkState → LineSinkState → Type 0)
  RanSo fs ts first last = (ran : Ran receives ticks_give (core_to manner config) (nodes_of config) config.keeps_doubles config.queue_capacity config.lanes config.shards fs ts first last)
      × (any_full h.left ≡ false → (lane : ℕ) → lane < config.lanes → ran.stopped lane ≡ false)
      × (any_full h.left ≡ false → (report : List ℕ) → AreSums (parts_of h.left) report → Reports (core_to manner config) config.lanes config.shards ran.threads ran.end report)
      × ((any_full h.left ≡ true) ⊎ SumPasses (parts_of h.left) → CountPasses (core_to manner config) config.lanes config.shards ran.threads ran.end)
      × (ColumnsWaitAs true h.given.columns → NeverFull (core_to manner config) config.lanes config.shards ran.threads ran.end)

  ran_so : RanSo acceptors ticks old.sink new.sink
  ran_so = subst (λ (e : ExporterState). RanSo acceptors ticks old.sink e.sink) h.exporter_left
      (subst (λ (e : ExporterState). RanSo acceptors ticks e.sink h.left.exporter.exporter.sink) h.exporter_is
      (subst (λ (t : T). RanSo acceptors t h.given.exporter.sink h.left.exporter.exporter.sink) h.ticks_are
      (subst (λ (f : List F). RanSo f h.given.ticks h.given.exporter.sink h.left.exporter.exporter.sink) h.acceptors_are
      (workers_ran serves receives law ticks_give (core_to manner config) (nodes_of config) config.keeps_doubles config.queue_capacity config.export_capacity config.lanes config.shards h.given h.left (ap (λ (e : ExporterState). e.size) h.exporter_is ∙ size) (ap (λ (e : ExporterState). e.manner) h.exporter_is ∙ same) (ap (λ (e : ExporterState). e.names) h.exporter_is ∙ named) h.worked))))

  ran_holds : HoldsOfThreads (core_to manner config) config.lanes config.shards ran_so.0.threads ran_so.0.end
  ran_holds = woven_headline (core_to manner config) config.lanes config.shards ran_so.0.threads ran_so.0.end (keeps_a_trace manner config some each) some ran_so.0.ran.meets

  never_full : config.waits_for_room ≡ true → NeverFull (core_to manner config) config.lanes config.shards ran_so.0.threads ran_so.0.end
  never_full retry = ran_so.4 (subst (λ (b : Bool). ColumnsWaitAs b h.given.columns) retry h.waits)

  is_run : (report : List ℕ) → (is_full ≡ false) × AreSums counts report × Fits report → IsRunTo manner receives ticks_give config acceptors ticks old.sink new.sink report
  is_run report told =
      let none : any_full h.left ≡ false = sym h.full ∙ told.0 in
      let counts_all = ran_so.2 none report (subst (λ (z : List (List ℕ)). AreSums z report) h.counted told.1) in record {
        ran = ran_so.0;
        none_stopped = ran_so.1 none;
        reports = counts_all;
        never_full = λ retry. counts_all (Dropped QueueFull) ∙ never_full retry;
        fits = told.2;
        holds = ran_holds;
      }

  is_beyond : (is_full ≡ true) ⊎ SumPasses counts → IsRunBeyondTo manner receives ticks_give config acceptors ticks old.sink new.sink
  is_beyond told = record { ran = ran_so.0; passes = ran_so.3 (passes told); never_full = never_full; holds = ran_holds }
    where
      passes : (is_full ≡ true) ⊎ SumPasses counts → (any_full h.left ≡ true) ⊎ SumPasses (parts_of h.left)
      passes (inl e) = inl (sym h.full ∙ e)
      passes (inr p) = inr (subst SumPasses h.counted p)

  pub told : (answer : Result Report ServeFault) → TellsSink new.sink.is_down answer → TellsCounts is_full counts answer
      → RunTellsTo manner receives ticks_give config acceptors ticks old.sink.taken old.sink.failures new.sink.taken new.sink.failures answer
  told (Ok report) down tells = subst (λ (s : LineSinkState). IsRunTo manner receives ticks_give config acceptors ticks (up_state old.sink.taken old.sink.failures) s report) (up_as new.sink down)
      (subst (λ (s : LineSinkState). IsRunTo manner receives ticks_give config acceptors ticks s new.sink report) (up_as old.sink up) (is_run report tells))
  told (Err (SinkDown report)) down tells = subst (λ (s : LineSinkState). IsRunTo manner receives ticks_give config acceptors ticks (up_state old.sink.taken old.sink.failures) s report) (down_as new.sink down)
      (subst (λ (s : LineSinkState). IsRunTo manner receives ticks_give config acceptors ticks s new.sink report) (up_as old.sink up) (is_run report tells))
  told (Err NoMemory) down tells = tt
  told (Err CounterOverflow) down tells = (new.sink.is_down, subst (λ (s : LineSinkState). IsRunBeyondTo manner receives ticks_give config acceptors ticks s new.sink) (up_as old.sink up) (is_beyond tells))

module _ (manner : Manner) {F T : Type 0} (receives : ℕ → F → LaneAt → List Arrival → F → LaneAt → List Arrival → Bool → Type 0) (ticks_give : T → Option ℕ → T → Type 0) (config : Config) (acceptors : List F) (ticks : T) where
  -- the same of the same bytes and failures
  pub moved : (t u a b : Option (List ℕ)) (n m k l : ℕ) (answer : Result Report ServeFault) → t ≡ u → n ≡ m → a ≡ b → k ≡ l → RunTellsTo manner receives ticks_give config acceptors ticks t n a k answer → RunTellsTo manner receives ticks_give config acceptors ticks u m b l answer
  moved t u a b n m k l answer taken failures taken_after failures_after h =
      subst (λ (z : Option (List ℕ)). RunTellsTo manner receives ticks_give config acceptors ticks z m b l answer) taken
      (subst (λ (z : ℕ). RunTellsTo manner receives ticks_give config acceptors ticks t z b l answer) failures
      (subst (λ (z : Option (List ℕ)). RunTellsTo manner receives ticks_give config acceptors ticks t n z l answer) taken_after
      (subst (λ (z : ℕ). RunTellsTo manner receives ticks_give config acceptors ticks t n a z answer) failures_after h)))

  -- where nothing is said of the connections and the ticks
  pub core_told : (taken : Option (List ℕ)) (failures : ℕ) (taken_after : Option (List ℕ)) (failures_after : ℕ) (answer : Result Report ServeFault) → RunTellsTo manner receives ticks_give config acceptors ticks taken failures taken_after failures_after answer
      → CoreRunTellsTo manner config taken failures taken_after failures_after answer
  core_told taken failures taken_after failures_after (Ok report) h = record { threads = h.ran.threads; end = h.ran.end; ran = h.ran.ran; reports = h.reports; fits = h.fits; never_full = h.never_full; moments = h.ran.moments; same_ticks = h.ran.same_ticks; holds = h.holds }
  core_told taken failures taken_after failures_after (Err (SinkDown report)) h = record { threads = h.ran.threads; end = h.ran.end; ran = h.ran.ran; reports = h.reports; fits = h.fits; never_full = h.never_full; moments = h.ran.moments; same_ticks = h.ran.same_ticks; holds = h.holds }
  core_told taken failures taken_after failures_after (Err NoMemory) h = tt
  core_told taken failures taken_after failures_after (Err CounterOverflow) h = (h.0, record { threads = h.1.ran.threads; end = h.1.ran.end; ran = h.1.ran.ran; passes = h.1.passes; never_full = h.1.never_full; moments = h.1.ran.moments; same_ticks = h.1.ran.same_ticks; holds = h.1.holds })

module _ (manner : Manner) {F T : Type 0} (serves : ℕ → F → LaneAt → F → LaneAt → Bool → Type 0) (receives : ℕ → F → LaneAt → List Arrival → F → LaneAt → List Arrival → Bool → Type 0) (law : IsReceived serves receives) (ticks_give : T → Option ℕ → T → Type 0) (config : Config) (acceptors : List F) (ticks : T) (some : 0 < config.shards) (each : config.shards ≤ config.num_traces) where
  -- what was received of the connections, by the law of how they were served
  pub servers_told : (taken : Option (List ℕ)) (failures : ℕ) (taken_after : Option (List ℕ)) (failures_after : ℕ) (answer : Result Report ServeFault) → ServersTell serves ticks_give config acceptors ticks manner taken failures taken_after failures_after answer
      → RunTellsTo manner receives ticks_give config acceptors ticks taken failures taken_after failures_after answer
  servers_told taken failures taken_after failures_after answer t =
      moved manner receives ticks_give config acceptors ticks t.old.sink.taken taken t.new.sink.taken taken_after t.old.sink.failures failures t.new.sink.failures failures_after answer
      (ap (λ (s : LineSinkState). s.taken) t.first) (ap (λ (s : LineSinkState). s.failures) t.first) t.taken_is t.failures_are (by answer t.tells)
    where
      up : t.old.sink.is_down ≡ false
      up = ap (λ (s : LineSinkState). s.is_down) t.first

      by : (a : Result Report ServeFault) → WorkedTells serves ticks_give config acceptors ticks t.old t.new a → RunTellsTo manner receives ticks_give config acceptors ticks t.old.sink.taken t.old.sink.failures t.new.sink.taken t.new.sink.failures a
      by (Ok report) w = told manner serves receives law ticks_give config acceptors ticks some each t.old t.new t.size t.manner_is t.names_are up w.0 w.1 w.2 (Ok report) w.3 w.4
      by (Err NoMemory) w = tt
      by (Err CounterOverflow) w = told manner serves receives law ticks_give config acceptors ticks some each t.old t.new t.size t.manner_is t.names_are up w.0 w.1 w.2 (Err CounterOverflow) w.3 w.4
      by (Err (SinkDown report)) w = told manner serves receives law ticks_give config acceptors ticks some each t.old t.new t.size t.manner_is t.names_are up w.0 w.1 w.2 (Err (SinkDown report)) w.3 w.4
