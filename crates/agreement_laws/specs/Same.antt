-- What running threads and a script do alike, where their one shard took the same.
use Rattle.std.specs.Prelude.{◌≡◌, ℕ, ◌+◌, Bool, true, false, List, [], ◌∷◌, ◌++◌, map, flat_map}
use Rattle.std.specs.List.{list_all}
use Rattle.otlp_types.specs.declared.arrival.Arrival.{Arrival}
use Rattle.span_ids.specs.declared.outcome.Reason.{Reason}
use Rattle.span_exporter.specs.declared.answer.Flushed.{Flushed}
use Rattle.span_exporter.specs.declared.answer.Flushed.TheVariants.{Handed, BatchDropped, Empty}
use Rattle.drop_ledger.specs.declared.count.Count.TheVariants.{Dropped}
use Rattle.span_sink.specs.LineSinks.{LineSinkState}
use Rattle.policy_tree.specs.Tree.{Policies}
use Rattle.policy_eval.specs.Given.{asked_given}
use Rattle.journal_theory.specs.Journal.{Settings, Entry, Journal, notes}
use Rattle.world_theory.specs.World.{CoreConfig, settings_for}
use Rattle.tsc_script.specs.Instructions.{Instruction}
use Rattle.span_weave.specs.Threads.{Threads, ExporterMade, Meets, pulls, journal_of}
use Rattle.span_weave.specs.Woven.{counted_by_shard}
use Rattle.script_run.specs.World.{ScriptWorld, Sizes, OutputEvent, replied, was_sent, new_world, PlaysAll}
use Rattle.script_run.specs.Writing.{handed_in}
use Rattle.script_run.specs.Counts.{counted_at_shards}

-- ---- what went out

-- the spans that the threads' exporter pulled of the shards, in order
abbrev pub pulled_spans : Threads → List Arrival
pulled_spans t = map (λ (x : ℕ × Arrival). x.1) (pulls t.acts)

-- the spans of the batches of a script, in order, whatever became of them
abbrev pub sent_spans : List OutputEvent → List Arrival
sent_spans [] = []
sent_spans (replied reply ∷ more) = sent_spans more
sent_spans (was_sent sent ∷ more) = sent.batch ++ sent_spans more

-- the batch was handed over
abbrev pub is_handed : Flushed → Bool
is_handed (Handed spans) = true
is_handed (BatchDropped spans reason) = false
is_handed Empty = false

-- the event gave up no batch
abbrev pub gives_up_none : OutputEvent → Bool
gives_up_none (replied reply) = true
gives_up_none (was_sent sent) = is_handed sent.flushed

-- ---- the law

-- a shard of each took the same
pub record TookTheSame (c : CoreConfig) (lanes : ℕ) (t : Threads) (s : Settings) (w : ScriptWorld) : Type 0 where
  pub settings : settings_for c (lanes + 1) ≡ s
  pub journals : w.journals ≡ journal_of t 0 ∷ []

-- what becomes of the spans is the same
pub record DidTheSame (c : CoreConfig) (lanes : ℕ) (t : Threads) (end : ExporterMade) (s : Settings) (w : ScriptWorld) : Type 0 where
  -- each trace was decided at the same item, with the same spans, by the same verdict
  pub decided : (past : Journal) → w.journals ≡ past ∷ [] → (notes (settings_for c (lanes + 1)) (journal_of t 0)).decisions ≡ (notes s past).decisions
  -- the same spans were released, in the same order
  pub released : pulled_spans t ≡ sent_spans w.events
  -- under each reason the shard counted as many
  pub counted : (reason : Reason) → counted_by_shard c lanes t 0 reason ≡ counted_at_shards s w.journals (Dropped reason)
  -- where neither gave up a batch, the same spans were handed over, in the same order
  pub handed : end.counted ≡ [] → list_all gives_up_none w.events ≡ true → flat_map (λ batch. batch) end.handed ≡ flat_map (λ batch. batch) (handed_in w.events)

-- any run of threads with one shard, and any script with one that took the same
abbrev pub ServeIsReplay : Type 0
ServeIsReplay = (c : CoreConfig) (lanes : ℕ) (t : Threads) (end : ExporterMade) → Meets c lanes 1 t end
    → (s : Settings) (sizes : Sizes) (script_lanes : ℕ) (first : LineSinkState) (played : List Instruction) (w : ScriptWorld) → PlaysAll s sizes (new_world script_lanes 1 first) played w
    → TookTheSame c lanes t s w → DidTheSame c lanes t end s w

-- ---- where no policy asks a limiter

-- an item as it was taken, without the limiter's answers
abbrev pub as_taken : Entry → Entry
as_taken e = record e { answers = [] }

-- a shard of each took the same items, and memory was refused to the same
pub record TookTheSameItems (c : CoreConfig) (lanes : ℕ) (t : Threads) (s : Settings) (w : ScriptWorld) : Type 0 where
  pub settings : settings_for c (lanes + 1) ≡ s
  pub past : Journal
  pub journals : w.journals ≡ past ∷ []
  pub items : map as_taken past ≡ map as_taken (journal_of t 0)

-- the policies ask no limiter, whatever it would answer
abbrev pub AsksNone : Policies → Type 0
AsksNone policies = (answers : List Bool) (spans : List Arrival) → asked_given policies answers spans ≡ []

-- any run of threads with one shard, and any script with one that took the same items, where no limiter is asked
abbrev pub ItemsDecide : Type 0
ItemsDecide = (c : CoreConfig) (lanes : ℕ) (t : Threads) (end : ExporterMade) → Meets c lanes 1 t end
    → (s : Settings) (sizes : Sizes) (script_lanes : ℕ) (first : LineSinkState) (played : List Instruction) (w : ScriptWorld) → PlaysAll s sizes (new_world script_lanes 1 first) played w
    → AsksNone s.policies → TookTheSameItems c lanes t s w → DidTheSame c lanes t end s w
