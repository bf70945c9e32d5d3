-- Each script that is played is a run of the core, by induction over its instructions.
-- For the contract of `scripts_are_runs_of_the_core`.
use Rattle.std.proofs.Common.{◌≡◌, ℕ, ◌+◌, true, false, List, [], ◌∷◌, length, map, refl, ap, sym, subst, inl, inr}
use Rattle.otlp_types.specs.declared.arrival.Arrival.{Arrival}
use Rattle.otlp_types.specs.declared.arrival.Item.{Item}
use Rattle.otlp_types.specs.declared.arrival.Item.TheVariants.{Span, Tick}
use Rattle.lane_seq.specs.declared.reply.Reply.{Reply}
use Rattle.lane_seq.specs.declared.reply.Reply.TheVariants.{Busy}
use Rattle.journal_theory.specs.Journal.{Settings}
use Rattle.span_sink.specs.LineSinks.{LineSinkState}
use Rattle.span_exporter.specs.Exports.{WritesLine}
use Rattle.world_theory.specs.World.{World as Core}
use Rattle.tsc_script.specs.Instructions.{Instruction, receive, tick, close}
use Rattle.script_run.specs.Connections.{Contacts, connection_of, with_connection}
use Rattle.script_run.specs.Requests.{BodyReading, reads, refuses, arrivals_of, reply_line}
use Rattle.script_run.specs.World.{ScriptWorld, Sizes, RunsToQuiet, RepliesAndRuns, Answers, Plays, PlaysAll, after_reply, after_receiving, to_each, ends_from}
use Rattle.otlp_flatten.specs.Flat.{records_of}
use Rattle.script_run.proofs.Stands.{no_queues, Stands, Reaches}
use Rattle.script_run.proofs.Numbering.{Knows, KnowsConnections, is_there, knows_received}
use Rattle.script_run.proofs.Lanes.{reaches_then}
use Rattle.script_run.proofs.Routing.{as_items}
use Rattle.script_run.proofs.Receiving.{with_contacts, receives_spans}

-- what the shards and the exporter do once queues are filled
pub record ShardsAndExporter (s : Settings) (sizes : Sizes) : Type 0 where
  pub writes_reply : (old : ScriptWorld) (queues : List (List Arrival)) (k : Core) (reply : Reply) (line : List ℕ) (sink : LineSinkState)
      → Stands s sizes old queues k → WritesLine old.sink line sink → Reaches s sizes k (after_reply reply sink old) queues
  pub takes_queued : (old new : ScriptWorld) (queues : List (List Arrival)) (k : Core) → Stands s sizes old queues k → old.closed ≡ false
      → RunsToQuiet s sizes old (map (map Span) queues ∷ []) new → Reaches s sizes k new (no_queues new.journals)
  pub takes_nothing : (old new : ScriptWorld) (k : Core) → Stands s sizes old (no_queues old.journals) k → old.closed ≡ false
      → RunsToQuiet s sizes old [] new → Reaches s sizes k new (no_queues new.journals)
  pub takes_tick : (moment : ℕ) (old new : ScriptWorld) (k : Core) → Stands s sizes old (no_queues old.journals) k → old.closed ≡ false
      → RunsToQuiet s sizes old (to_each (Tick moment) old.journals ∷ []) new → Reaches s sizes k new (no_queues new.journals)
  pub closes : (old new : ScriptWorld) (k : Core) → Stands s sizes old (no_queues old.journals) k → old.closed ≡ false
      → RunsToQuiet s sizes (record old { closed = true }) (ends_from 0 (length old.contacts.connected + 1) old.journals) new → Reaches s sizes k new (no_queues new.journals)

-- the core gets to where the script's world is, of which the connections are known
abbrev pub Follows : (s : Settings) (sizes : Sizes) (k : Core) (new : ScriptWorld) → Type 0
Follows s sizes k new = Reaches s sizes k new (no_queues new.journals) × KnowsConnections new

module _ (s : Settings) (sizes : Sizes) (facts : ShardsAndExporter s sizes) where
  -- connections stay known while the shards take
  knows_still : (old new : ScriptWorld) (rounds : List (List (List Item))) → KnowsConnections old → RunsToQuiet s sizes old rounds new → KnowsConnections new
  knows_still old new rounds h r =
      let contacts : new.contacts ≡ old.contacts = ap (λ (z : ScriptWorld). z.contacts) r.becomes in
      let received : new.received ≡ old.received = ap (λ (z : ScriptWorld). z.received) r.becomes in
      subst (λ (z : List Arrival). Knows new.contacts z) (sym received) (subst (λ (z : Contacts). Knows z old.received) (sym contacts) h)

  -- a reply, and then nothing is taken
  replies : (old new : ScriptWorld) (k : Core) (reply : Reply) → Stands s sizes old (no_queues old.journals) k → old.closed ≡ false → KnowsConnections old → RepliesAndRuns s sizes old reply [] new → Follows s sizes k new
  replies old new k reply st is_open h r =
      let w = facts.writes_reply old (no_queues old.journals) k reply (reply_line reply) r.0 st r.1 in
      let after : ScriptWorld = after_reply reply r.0 old in
      let q = facts.takes_nothing after new w.1 w.3 is_open r.2 in
      (reaches_then s sizes k w.1 w.0 new (no_queues new.journals) w.2 q, knows_still after new [] h r.2)

  -- a request that was refused, or read
  answers : (old new : ScriptWorld) (k : Core) (number moment : ℕ) (reading : BodyReading) → Stands s sizes old (no_queues old.journals) k → old.closed ≡ false → KnowsConnections old
      → Answers s sizes old number moment reading new → Follows s sizes k new
  answers old new k number moment (refuses reply) st is_open h r =
      let there = is_there number old.contacts old.received h in
      let with_it : ScriptWorld = record old { contacts = with_connection number old.contacts } in
      replies with_it new k reply (with_contacts s sizes old (with_connection number old.contacts) (no_queues old.journals) k there.many st) is_open there.knows r
  answers old new k number moment (reads request) st is_open h r =
      let conn = connection_of number old.contacts in
      let after : ScriptWorld = after_receiving number (arrivals_of conn moment request) r.2.refused old in
      let p = receives_spans s sizes old k number moment request r.0 r.1 st is_open h r.2 in
      let sink = r.3.0 in
      let w = facts.writes_reply after p.queues p.reaches.1 r.0 (reply_line r.0) sink p.reaches.3 r.3.1 in
      let replied : ScriptWorld = after_reply r.0 sink after in
      let takes : RunsToQuiet s sizes replied (as_items p.queues ∷ []) new = subst (λ (z : List (List Item)). RunsToQuiet s sizes replied (z ∷ []) new) p.holds r.3.2 in
      let q = facts.takes_queued replied new p.queues w.1 w.3 is_open takes in
      let known : KnowsConnections replied = knows_received number moment (records_of request) old.contacts old.received h in (
        reaches_then s sizes k p.reaches.1 p.reaches.0 new (no_queues new.journals) p.reaches.2 (reaches_then s sizes p.reaches.1 w.1 w.0 new (no_queues new.journals) w.2 q),
        knows_still replied new _ known r.3.2,
      )

  -- an instruction
  plays : (old new : ScriptWorld) (k : Core) (instruction : Instruction) → Stands s sizes old (no_queues old.journals) k → KnowsConnections old → Plays s sizes old instruction new → Follows s sizes k new
  plays old new k (receive number moment body) st h (is_open, up, inl r) = replies old new k Busy st is_open h r.1
  plays old new k (receive number moment body) st h (is_open, up, inr r) = answers old new k number moment r.0 st is_open h r.2
  plays old new k (tick moment) st h r = (facts.takes_tick moment old new k st r.0 r.2, knows_still old new _ h r.2)
  plays old new k close st h r = let closing : ScriptWorld = record old { closed = true } in (facts.closes old new k st r.0 r.1, knows_still closing new _ h r.1)

  -- several instructions in turn
  pub plays_all : (played : List Instruction) (old new : ScriptWorld) (k : Core) → Stands s sizes old (no_queues old.journals) k → KnowsConnections old → PlaysAll s sizes old played new → Follows s sizes k new
  plays_all [] old new k st h r = subst (λ (z : ScriptWorld). Follows s sizes k z) (sym r) (([], k, refl, st), h)
  plays_all (instruction ∷ more) old new k st h r =
      let f = plays old r.0 k instruction st h r.1 in
      let g = plays_all more r.0 new f.0.1 f.0.3 f.1 r.2 in
      (reaches_then s sizes k f.0.1 f.0.0 new (no_queues new.journals) f.0.2 g.0, g.1)
