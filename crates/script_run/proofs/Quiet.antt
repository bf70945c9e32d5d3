-- What a script's instructions do once the queues are filled: the core takes, decides, ships and sends until all is
-- quiet. For the contract of `scripts_are_runs_of_the_core`.
use Rattle.std.proofs.Common.{◌≡◌, ℕ, ◌+◌, ◌<◌, Bool, true, false, cond, List, [], ◌∷◌, ◌++◌, map, length, Some, None, option_and_then, inl, inr, refl, ap, sym, subst, ◌∙◌, arith, append-nil}
use Rattle.std.specs.List.{AllByRecursion}
use Rattle.std.proofs.lemmas.List.Sums.{sum_by_push}
use Rattle.otlp_types.specs.declared.arrival.Arrival.{Arrival}
use Rattle.otlp_types.specs.declared.arrival.Item.{Item}
use Rattle.otlp_types.specs.declared.arrival.Item.TheVariants.{Span, Tick}
use Rattle.lane_seq.specs.declared.reply.Reply.{Reply}
use Rattle.journal_theory.specs.Journal.{Settings, Journal}
use Rattle.span_sink.specs.LineSinks.{LineSinkState}
use Rattle.span_exporter.specs.Exports.{WritesLine}
use Rattle.drop_ledger.specs.declared.count.Count.{Count}
use Rattle.drop_ledger.specs.declared.count.Count.TheVariants.{Handed, Dropped}
use Rattle.world_theory.specs.World.{CoreConfig, World as Core}
use Rattle.world_theory.specs.Step.{fail, run_from}
use Rattle.script_run.specs.World.{ScriptWorld, Sizes, TakesEach, RunsToQuiet, was_sent, replied, after_reply, to_each, ends_from}
use Rattle.script_run.specs.Counts.{number_reported, counted_at}
use Rattle.script_run.specs.Writing.{handed_in}
use Rattle.script_run.specs.CoreRun.{core_config}
use Rattle.script_run.proofs.Stands.{Stands, Reaches, no_queues, HasNoEnd, lanes_from}
use Rattle.script_run.proofs.QuietRuns.{Leads, leads_same, leads_then}
use Rattle.script_run.proofs.TakingRounds.{AllTakable}
use Rattle.script_run.proofs.TakingItems.{may_take_queues, may_take_ticks, IsNoEnd, takes_no_ends, queues_no_end, ticks_no_end}
use Rattle.script_run.proofs.SendingBatches.{handed_append}
use Rattle.script_run.proofs.QuietStands.{lanes_count, lanes_same, Shipped, shipped_nothing, ships_round, sends_released, reaches_after}
use Rattle.script_run.proofs.ClosingLanes.{with_lanes, closes_lanes}
use Rattle.script_run.proofs.ClosingEnds.{Ended, none_ended, all_finished, takes_all_ends}

-- ---- a reply

-- where the sink is as the reply left it, the core stands so
replied_stands : (s : Settings) (sizes : Sizes) (old : ScriptWorld) (queues : List (List Arrival)) (k : Core) (reply : Reply) (sink : LineSinkState) (down : Bool)
    → Stands s sizes old queues k → down ≡ sink.is_down → Stands s sizes (after_reply reply sink old) queues (record k { down = down })
replied_stands s sizes old queues k reply sink down h e = record {
  lanes = h.lanes ∙ lanes_same old new refl refl 0 (length old.contacts.connected);
  senders = h.senders;
  same = h.same;
  shards = h.shards;
  exported = h.exported;
  batch = h.batch;
  handed = h.handed ∙ sym (handed_append old.events (replied reply ∷ []) ∙ append-nil (handed_in old.events));
  down = e;
  dropped = λ reason. h.dropped reason ∙ sym (same_number (Dropped reason));
  handed_over = h.handed_over ∙ sym (same_number Handed);
  «open» = h.«open»;
  closed = λ f. let g = h.closed f in record { lanes_ended = g.lanes_ended; ends_taken = g.ends_taken; nothing_waits = g.nothing_waits };
}
  where
    new : ScriptWorld
    new = after_reply reply sink old

    same_number : (count : Count) → number_reported s (after_reply reply sink old) count ≡ number_reported s old count
    same_number count = omega (arith, lanes_count (after_reply reply sink old) old refl refl count, sum_by_push (counted_at count) old.events (replied reply))

-- a reply that is written changes nothing but the sink
pub writes_reply : (s : Settings) (sizes : Sizes) (old : ScriptWorld) (queues : List (List Arrival)) (k : Core) (reply : Reply) (line : List ℕ) (sink : LineSinkState)
    → Stands s sizes old queues k → WritesLine old.sink line sink → Reaches s sizes k (after_reply reply sink old) queues
writes_reply s sizes old queues k reply line sink h (inl whole) = ([], k, refl, replied_stands s sizes old queues k reply sink k.down h (h.down ∙ (whole.was_up ∙ sym whole.stays_up)))
writes_reply s sizes old queues k reply line sink h (inr (inl part)) = (fail ∷ [], record k { down = true }, failed, replied_stands s sizes old queues k reply sink true h (sym part.goes_down))
  where
    failed : run_from (core_config s sizes) k (fail ∷ []) ≡ Some (record k { down = true })
    failed = ap (λ (b : Bool). option_and_then (λ (w : Core). Some w) (cond b None (Some (record k { down = true })))) (h.down ∙ part.was_up)
writes_reply s sizes old queues k reply line sink h (inr (inr nothing)) = ([], k, refl, replied_stands s sizes old queues k reply sink k.down h (h.down ∙ ap (λ (z : LineSinkState). z.is_down) (sym nothing.1)))

-- ---- a round of items

-- no test is both false and true
both_values : {A : Type 0} (b : Bool) → b ≡ false → b ≡ true → A
both_values true e f = absurd (cc e)
both_values false e f = absurd (cc f)

-- a world between two lines becomes another by what it took, was sent and left of the sink
reaches_new : (s : Settings) (sizes : Sizes) (old new : ScriptWorld) (k after : Core) (b : List (List (List Item))) (runs : RunsToQuiet s sizes old b new) → 0 < sizes.batch → old.closed ≡ false
    → Leads (core_config s sizes) k after → Shipped s old (no_queues new.journals) new.journals runs.released after → AllByRecursion HasNoEnd new.journals → Reaches s sizes k new (no_queues new.journals)
reaches_new s sizes old new k after b runs holds is_open h ships no_end = subst (λ (z : ScriptWorld). Reaches s sizes k z (no_queues z.journals)) (sym runs.becomes)
    (reaches_after s sizes k after (record old { journals = new.journals; askings = new.askings; events = old.events ++ map was_sent runs.batches; sink = new.sink }) (no_queues new.journals) h
    (sends_released s sizes old new.journals new.askings runs.released after runs.batches new.sink holds ships (λ e. no_end) (λ e. both_values old.closed is_open e) runs.sends))

-- each shard takes these items, none of which is an End
takes_round : (s : Settings) (sizes : Sizes) (old new : ScriptWorld) (queues : List (List Arrival)) (items : List (List Item)) (k : Core) → 0 < sizes.batch → Stands s sizes old queues k → old.closed ≡ false
    → AllTakable (core_config s sizes) k queues old.journals items → AllByRecursion (AllByRecursion IsNoEnd) items → RunsToQuiet s sizes old (items ∷ []) new → Reaches s sizes k new (no_queues new.journals)
takes_round s sizes old new queues items k holds h is_open t n runs = reaches_new s sizes old new k done.0 (items ∷ []) runs holds is_open done.1 (subst (λ (z : List Arrival). Shipped s old (no_queues new.journals) new.journals z done.0) all done.2)
    (takes_no_ends s old.journals old.askings items new.journals runs.takes.1 runs.takes.2 n taken (h.«open» is_open))
  where
    taken : TakesEach s old.journals old.askings items new.journals runs.takes.1 runs.takes.2
    taken = subst (λ (z : List Journal). TakesEach s old.journals old.askings items z runs.takes.1 runs.takes.2) (sym runs.takes.5.0) runs.takes.4

    all : runs.takes.2 ≡ runs.released
    all = sym (runs.takes.6 ∙ (ap (λ (z : List Arrival). runs.takes.2 ++ z) runs.takes.5.2 ∙ append-nil runs.takes.2))

    done : (after : Core) × Leads (core_config s sizes) k after × Shipped s old (no_queues new.journals) new.journals runs.takes.2 after
    done = ships_round s sizes old k queues old.journals old.askings new.journals runs.takes.1 items [] runs.takes.2 (shipped_nothing s sizes old queues k h) t taken

-- the shards take what is queued
pub takes_queued : (s : Settings) (sizes : Sizes) (old new : ScriptWorld) (queues : List (List Arrival)) (k : Core) → 0 < sizes.batch
    → Stands s sizes old queues k → old.closed ≡ false → RunsToQuiet s sizes old (map (map Span) queues ∷ []) new → Reaches s sizes k new (no_queues new.journals)
takes_queued s sizes old new queues k holds h is_open runs = takes_round s sizes old new queues (map (map Span) queues) k holds h is_open
    (may_take_queues (core_config s sizes) k queues old.journals h.same) (queues_no_end queues) runs

-- the shards take nothing
pub takes_nothing : (s : Settings) (sizes : Sizes) (old new : ScriptWorld) (k : Core) → 0 < sizes.batch
    → Stands s sizes old (no_queues old.journals) k → old.closed ≡ false → RunsToQuiet s sizes old [] new → Reaches s sizes k new (no_queues new.journals)
takes_nothing s sizes old new k holds h is_open runs = reaches_new s sizes old new k k [] runs holds is_open (leads_same (core_config s sizes) k k refl)
    (subst (λ (z : List Journal). Shipped s old (no_queues z) z runs.released k) (sym runs.takes.0)
    (subst (λ (z : List Arrival). Shipped s old (no_queues old.journals) old.journals z k) (sym runs.takes.2) (shipped_nothing s sizes old (no_queues old.journals) k h)))
    (subst (λ (z : List Journal). AllByRecursion HasNoEnd z) (sym runs.takes.0) (h.«open» is_open))

-- each shard takes a tick
pub takes_tick : (s : Settings) (sizes : Sizes) (moment : ℕ) (old new : ScriptWorld) (k : Core) → 0 < sizes.batch
    → Stands s sizes old (no_queues old.journals) k → old.closed ≡ false → RunsToQuiet s sizes old (to_each (Tick moment) old.journals ∷ []) new → Reaches s sizes k new (no_queues new.journals)
takes_tick s sizes moment old new k holds h is_open runs = takes_round s sizes old new (no_queues old.journals) (to_each (Tick moment) old.journals) k holds h is_open
    (may_take_ticks (core_config s sizes) k moment old.journals (h.«open» is_open)) (ticks_no_end moment old.journals) runs

-- ---- the close

-- the lanes end, and each shard takes the End of each sender in turn
pub closes : (s : Settings) (sizes : Sizes) (old new : ScriptWorld) (k : Core) → 0 < sizes.batch
    → Stands s sizes old (no_queues old.journals) k → old.closed ≡ false
    → RunsToQuiet s sizes (record old { closed = true }) (ends_from 0 (length old.contacts.connected + 1) old.journals) new → Reaches s sizes k new (no_queues new.journals)
closes s sizes old new k holds h is_open runs = subst (λ (z : ScriptWorld). Reaches s sizes k z (no_queues z.journals)) (sym runs.becomes)
    (reaches_after s sizes k all.0 (record w { journals = new.journals; askings = new.askings; events = old.events ++ map was_sent runs.batches; sink = new.sink }) (no_queues new.journals)
    (leads_then c k k_closed all.0 ends all.1)
    (sends_released s sizes w new.journals new.askings runs.released all.0 runs.batches new.sink holds all.2 (λ e. absurd (cc e)) (λ e. all_finished s new.journals all.3) runs.sends))
  where
    c : CoreConfig
    c = core_config s sizes

    w : ScriptWorld
    w = record old { closed = true }

    lanes : ℕ
    lanes = length old.contacts.connected

    k_closed : Core
    k_closed = with_lanes k (lanes_from w 0 lanes)

    ends : Leads c k k_closed
    ends = leads_then c k (with_lanes k (lanes_from old 0 lanes)) k_closed (leads_same c _ _ (ap (with_lanes k) h.lanes)) (closes_lanes c k old is_open lanes 0 [] refl)

    ships : Shipped s w (no_queues old.journals) old.journals [] k_closed
    ships = record {
      lanes = refl;
      senders = h.senders;
      shards = h.shards;
      exported = h.exported;
      batch = h.batch;
      handed = h.handed;
      down = h.down;
      dropped = λ reason. omega (arith, h.dropped reason, lanes_count old (record w { journals = old.journals }) refl refl (Dropped reason));
      handed_over = h.handed_over;
    }

    all : (after : Core) × Leads c k_closed after × Shipped s w (no_queues new.journals) new.journals runs.released after × AllByRecursion (Ended s s.senders) new.journals
    all = takes_all_ends s sizes w (lanes + 1) 0 old.journals old.askings old.journals new.journals new.askings [] runs.released k_closed refl (omega (arith, h.senders)) ships
        (none_ended s old.journals (omega (arith, h.senders)) (h.«open» is_open)) runs.takes
