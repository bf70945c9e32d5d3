-- Which items the shards may take, and that only Ends end a sender.
-- For the contract of `scripts_are_runs_of_the_core`.
use Rattle.std.proofs.Common.{◌≡◌, ℕ, Bool, true, false, ◌||◌, List, [], ◌∷◌, map, length, refl, subst, sym}
use Rattle.std.specs.List.{AllByRecursion}
use Rattle.otlp_types.specs.declared.arrival.Arrival.{Arrival}
use Rattle.otlp_types.specs.declared.arrival.Item.{Item}
use Rattle.otlp_types.specs.declared.arrival.Item.TheVariants.{Span, Tick}
use Rattle.journal_theory.specs.Journal.{Settings, Journal, is_end_of, has_ended}
use Rattle.world_theory.specs.World.{CoreConfig, World as Core, ticker}
use Rattle.script_run.specs.World.{ShardTurn, entry_of, with_entry, Takes, TakesEach, to_each}
use Rattle.rate_budget.specs.Grant.{Asking}
use Rattle.script_run.proofs.Stands.{no_queues, HasNoEnd}
use Rattle.script_run.proofs.TakingRounds.{queued, ticked, AllTakable}

-- ---- what may be taken

-- each shard may take its queue
pub may_take_queues : (c : CoreConfig) (k : Core) (queues : List (List Arrival)) (pasts : List Journal) → length queues ≡ length pasts → AllTakable c k queues pasts (map (map Span) queues)
may_take_queues c k [] [] e = tt
may_take_queues c k [] (past ∷ pasts) e = absurd (cc e)
may_take_queues c k (queue ∷ queues) [] e = absurd (cc e)
may_take_queues c k (queue ∷ queues) (past ∷ pasts) e = (queued refl, may_take_queues c k queues pasts (cc e))

-- each shard may take a tick, where no sender has ended
pub may_take_ticks : (c : CoreConfig) (k : Core) (moment : ℕ) (pasts : List Journal) → AllByRecursion HasNoEnd pasts → AllTakable c k (no_queues pasts) pasts (to_each (Tick moment) pasts)
may_take_ticks c k moment [] h = tt
may_take_ticks c k moment (past ∷ pasts) h = (ticked moment refl refl (h.0 (ticker k)), may_take_ticks c k moment pasts h.1)

-- ---- what ends nobody

-- the item is no End
abbrev pub IsNoEnd : Item → Type 0
IsNoEnd item = (sender : ℕ) → is_end_of sender item ≡ false

-- a shard that takes no End has none in its journal
takes_no_end : (s : Settings) (items : List Item) (past next : ShardTurn) → AllByRecursion IsNoEnd items → Takes s past items next → HasNoEnd past.journal → HasNoEnd next.journal
takes_no_end s [] past next n h o = subst (λ (z : ShardTurn). HasNoEnd z.journal) (sym h) o
takes_no_end s (item ∷ items) past next n h o = takes_no_end s items (with_entry s past (entry_of item h.0 h.1)) next n.1 h.3 (λ sender. neither (is_end_of sender item) (has_ended past.journal sender) (n.0 sender) (o sender))
  where
    neither : (a b : Bool) → a ≡ false → b ≡ false → (a || b) ≡ false
    neither true b e f = e
    neither false b e f = f

-- where no item is an End, still no sender has ended
pub takes_no_ends : (s : Settings) (pasts : List Journal) (asked : List Asking) (items : List (List Item)) (nexts : List Journal) (asked_now : List Asking) (released : List Arrival) → AllByRecursion (AllByRecursion IsNoEnd) items
    → TakesEach s pasts asked items nexts asked_now released → AllByRecursion HasNoEnd pasts → AllByRecursion HasNoEnd nexts
takes_no_ends s [] asked [] [] asked_now released n h o = tt
takes_no_ends s (past ∷ pasts) asked (own ∷ items) (next ∷ nexts) asked_now released n h o =
    (takes_no_end s own (record { journal = past; askings = asked }) (record { journal = next; askings = h.2 }) n.0 h.3.0 o.0, takes_no_ends s pasts h.2 items nexts asked_now h.1 n.1 h.4 o.1)
takes_no_ends s [] asked [] (next ∷ nexts) asked_now released n h o = absurd h
takes_no_ends s [] asked (own ∷ items) nexts asked_now released n h o = absurd h
takes_no_ends s (past ∷ pasts) asked [] nexts asked_now released n h o = absurd h
takes_no_ends s (past ∷ pasts) asked (own ∷ items) [] asked_now released n h o = absurd h

-- the spans of a queue are no Ends
spans_no_end : (queue : List Arrival) → AllByRecursion IsNoEnd (map Span queue)
spans_no_end [] = tt
spans_no_end (a ∷ queue) = ((λ sender. refl), spans_no_end queue)

-- no span is an End
pub queues_no_end : (queues : List (List Arrival)) → AllByRecursion (AllByRecursion IsNoEnd) (map (map Span) queues)
queues_no_end [] = tt
queues_no_end (queue ∷ queues) = (spans_no_end queue, queues_no_end queues)

-- no tick is an End
pub ticks_no_end : (moment : ℕ) (pasts : List Journal) → AllByRecursion (AllByRecursion IsNoEnd) (to_each (Tick moment) pasts)
ticks_no_end moment [] = tt
ticks_no_end moment (past ∷ pasts) = (((λ sender. refl), tt), ticks_no_end moment pasts)
