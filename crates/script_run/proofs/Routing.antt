-- The pushes of a request's spans are steps of the core, by induction over the spans.
-- For the contract of `scripts_are_runs_of_the_core`.
use Rattle.std.proofs.Common.{◌≡◌, ℕ, ◌+◌, Bool, true, cond, is_some, List, [], ◌∷◌, ◌++◌, length, map, filter, slice_get, slice_set, Option, Some, None, option_map, refl, ap, sym, subst, ◌∙◌, arith, inl, inr, eq-eqb, append_assoc}
use Rattle.std.proofs.lemmas.List.{append-nil, map-append, length-map, map-set, set-set}
use Rattle.journal_theory.proofs.Counted.{under_append, under_counts}
use Rattle.otlp_types.specs.declared.arrival.Arrival.{Arrival}
use Rattle.otlp_types.specs.declared.arrival.Item.{Item}
use Rattle.otlp_types.specs.declared.arrival.Item.TheVariants.{Span}
use Rattle.otlp_types.specs.declared.span.Ids.{Ids}
use Rattle.span_ids.specs.Route.{shard_of}
use Rattle.span_ids.specs.declared.outcome.Reason.{Reason}
use Rattle.span_ids.specs.declared.outcome.Reason.TheVariants.{QueueFull}
use Rattle.lane_queue.specs.Queues.{QueueState, with_last, TakesLast, IsFull}
use Rattle.lane_seq.specs.Pushes.{PushesOne, PushesAll}
use Rattle.journal_theory.specs.Journal.{Settings, Journal}
use Rattle.journal_theory.specs.Fate.{DroppedSpan, counts, under, is_same_reason}
use Rattle.journal_theory.proofs.ListFacts.{length-slice_set}
use Rattle.world_theory.specs.World.{CoreConfig, CoreLane, CoreShard, World as Core, goes_to, ids_go_to}
use Rattle.world_theory.specs.Step.{Step, route, refuse, step, run_from, has_ids, take_first}
use Rattle.world_theory.proofs.Released.{get_set}
use Rattle.world_theory.proofs.Routing.{put_back}
use Rattle.script_run.proofs.Stands.{quiet_shard, shards_with}
use Rattle.script_run.proofs.Lanes.{runs_on, ShardAt, shard_at, many_shards, mapped_from, mapped_at, if_none, if_both}

-- what queues hold
abbrev pub held_in : List (QueueState Item) → List (List Item)
held_in queues = map (λ (q : QueueState Item). q.items) queues

-- spans as items
abbrev pub as_items : List (List Arrival) → List (List Item)
as_items queues = map (map Span) queues

module _ (c : CoreConfig) (s : Settings) (lane : ℕ) (pasts : List Journal) where
  -- Steps route the lane's unrouted spans to these queues, or refuse them: so many were refused.
  pub record Pushed (k : Core) (l : CoreLane) (refused : ℕ) (new : List (QueueState Item)) : Type 0 where
    pub steps : List Step
    pub after : Core
    pub counted : List DroppedSpan
    pub queues : List (List Arrival)
    pub runs : run_from c k steps ≡ Some after
    pub becomes : after ≡ record k { lanes = slice_set k.lanes lane (record l { unrouted = [] }); shards = shards_with s queues pasts; counted = k.counted ++ counted }
    pub number : (reason : Reason) → length (under reason counted) ≡ cond {A = ℕ} (is_same_reason QueueFull reason) refused 0
    pub same : length queues ≡ length pasts
    pub holds : held_in new ≡ as_items queues

  -- nothing is left to push
  nothing_left : (k : Core) (l : CoreLane) (refused : ℕ) (old new : List (QueueState Item)) (queues : List (List Arrival)) → refused ≡ 0 → new ≡ old → held_in old ≡ as_items queues → length queues ≡ length pasts
      → k.shards ≡ shards_with s queues pasts → slice_get k.lanes lane ≡ Some l → l.unrouted ≡ [] → Pushed k l refused new
  nothing_left k l refused old new queues none is holds same shards g u =
      let routed : CoreLane = record l { unrouted = [] } in
      let as_routed : l ≡ routed = λ i. record l { unrouted = u i } in
      let lanes : k.lanes ≡ slice_set k.lanes lane routed = sym (put_back k.lanes lane routed (g ∙ ap (λ (z : CoreLane). Some z) as_routed)) in
      let all : k.counted ≡ k.counted ++ [] = sym (append-nil k.counted) in
      record {
        steps = [];
        after = k;
        counted = [];
        queues = queues;
        runs = refl;
        becomes = λ i. record k { lanes = lanes i; shards = shards i; counted = all i };
        number = λ reason. sym (ap (λ (n : ℕ). cond {A = ℕ} (is_same_reason QueueFull reason) n 0) none ∙ if_none (is_same_reason QueueFull reason));
        same = same;
        holds = ap held_in is ∙ holds;
      }

  -- a step that took the first unrouted span, and then the others
  then_pushed : (k : Core) (l : CoreLane) (unrouted : List Arrival) (first : Step) (shards : List CoreShard) (counted more : List DroppedSpan) (m n refused : ℕ) (new : List (QueueState Item))
      → step c k first ≡ Some (record k { lanes = slice_set k.lanes lane (record l { unrouted = unrouted }); shards = shards; counted = counted }) → counted ≡ k.counted ++ more
      → ((reason : Reason) → length (under reason more) ≡ cond {A = ℕ} (is_same_reason QueueFull reason) m 0) → refused ≡ m + n
      → Pushed (record k { lanes = slice_set k.lanes lane (record l { unrouted = unrouted }); shards = shards; counted = counted }) (record l { unrouted = unrouted }) n new → Pushed k l refused new
  then_pushed k l unrouted first shards counted more m n refused new e f number sum p =
      let next : Core = record k { lanes = slice_set k.lanes lane (record l { unrouted = unrouted }); shards = shards; counted = counted } in
      let lanes : slice_set (slice_set k.lanes lane (record l { unrouted = unrouted })) lane (record l { unrouted = [] }) ≡ slice_set k.lanes lane (record l { unrouted = [] })
      = set-set k.lanes lane (record l { unrouted = unrouted }) (record l { unrouted = [] }) in
      let all : counted ++ p.counted ≡ k.counted ++ (more ++ p.counted) = ap (λ (z : List DroppedSpan). z ++ p.counted) f ∙ append_assoc k.counted more p.counted in
      record {
        steps = first ∷ p.steps;
        after = p.after;
        counted = more ++ p.counted;
        queues = p.queues;
        runs = runs_on c k next p.after first p.steps e p.runs;
        becomes = p.becomes ∙ (λ i. record k { lanes = lanes i; shards = shards_with s p.queues pasts; counted = all i });
        number = λ reason. omega (arith, under_append reason more p.counted, number reason, p.number reason, if_both (is_same_reason QueueFull reason) m n refused sum);
        same = p.same;
        holds = p.holds;
      }

  -- the first unrouted span is the shard's
  first_is : (shards : ℕ) (a : Arrival) (ids : Ids) (rest unrouted : List Arrival) (shard : ℕ) → a.rec.span.ids ≡ Some ids → shard_of ids.trace shards ≡ shard → unrouted ≡ a ∷ rest
      → take_first (goes_to shards shard) unrouted ≡ Some (a, rest)
  first_is shards a ids rest unrouted shard q at u =
      let passes : goes_to shards shard a ≡ true = ap (λ (o : Option Ids). ids_go_to shards shard o) q ∙ eq-eqb (shard_of ids.trace shards) shard at in
      ap (take_first (goes_to shards shard)) u
      ∙ ap (λ (b : Bool). cond {A = Option (Arrival × List Arrival)} b (Some (a, rest)) (option_map (λ (r : Arrival × List Arrival). (r.0, a ∷ r.1)) (take_first (goes_to shards shard) rest))) passes

  module _ (k : Core) (l : CoreLane) (a : Arrival) (rest : List Arrival) (ids : Ids) (q : a.rec.span.ids ≡ Some ids) (queues : List (List Arrival)) (shard : ℕ)
      (same : length queues ≡ length pasts) (shards : k.shards ≡ shards_with s queues pasts) (at : shard_of ids.trace (length queues) ≡ shard)
      (g : slice_get k.lanes lane ≡ Some l) (u : l.unrouted ≡ a ∷ rest) (queue : List Arrival) (h : slice_get queues shard ≡ Some queue) where
    -- the lane without its first unrouted span
    abbrev less : CoreLane
    less = record l { unrouted = rest }

    of_shard : ShardAt s queues pasts shard queue
    of_shard = shard_at s queues pasts shard queue same h

    reads : slice_get k.shards shard ≡ Some (quiet_shard s queue of_shard.past)
    reads = ap (λ (z : List CoreShard). slice_get z shard) shards ∙ of_shard.reads

    many : length k.shards ≡ length queues
    many = ap length shards ∙ (many_shards s queues pasts same ∙ sym same)

    taken : take_first (goes_to (length k.shards) shard) l.unrouted ≡ Some (a, rest)
    taken = first_is (length k.shards) a ids rest l.unrouted shard q (ap (shard_of ids.trace) many ∙ at) u

    -- the span goes to its queue
    routes : step c k (route lane shard) ≡ Some (record k { lanes = slice_set k.lanes lane less; shards = shards_with s (slice_set queues shard (queue ++ a ∷ [])) pasts })
    routes =
        let puts : slice_set k.shards shard (quiet_shard s (queue ++ a ∷ []) of_shard.past) ≡ shards_with s (slice_set queues shard (queue ++ a ∷ [])) pasts
        = ap (λ (z : List CoreShard). slice_set z shard (quiet_shard s (queue ++ a ∷ []) of_shard.past)) shards ∙ of_shard.puts (queue ++ a ∷ []) in
        rw (← puts, g, reads, taken) refl

    -- the span finds its queue full
    refuses : step c k (refuse lane shard) ≡ Some (record k { lanes = slice_set k.lanes lane less; counted = k.counted ++ counts QueueFull (a ∷ []) })
    refuses = rw (g, reads, taken) refl

  -- the unrouted spans are pushed one after the other
  pub pushes : (spans : List Arrival) (old new : List (QueueState Item)) (refused : ℕ) (queues : List (List Arrival)) (k : Core) (l : CoreLane) → PushesAll TakesLast IsFull spans old refused new
      → held_in old ≡ as_items queues → length queues ≡ length pasts → k.shards ≡ shards_with s queues pasts → slice_get k.lanes lane ≡ Some l → l.unrouted ≡ filter has_ids spans → Pushed k l refused new
  pushes [] old new refused queues k l p holds same shards g u = nothing_left k l refused old new queues p.0 p.1 holds same shards g u
  pushes (a ∷ rest) old new refused queues k l p holds same shards g u = go a.rec.span.ids refl p.4 (λ queues k l. pushes rest p.2 new p.1 queues k l p.5)
    where
      left : (o : Option Ids) → a.rec.span.ids ≡ o → l.unrouted ≡ cond {A = List Arrival} (is_some o) (a ∷ filter has_ids rest) (filter has_ids rest)
      left o e = u ∙ ap (λ (o : Option Ids). cond {A = List Arrival} (is_some o) (a ∷ filter has_ids rest) (filter has_ids rest)) e

      long : length queues ≡ length old
      long = sym (length-map queues (map Span)) ∙ (sym (ap length holds) ∙ length-map old (λ (z : QueueState Item). z.items))

      -- the others can be pushed from any state of the core that stands so
      Others : Type 0
      Others = (queues : List (List Arrival)) (k : Core) (l : CoreLane) → held_in p.2 ≡ as_items queues → length queues ≡ length pasts → k.shards ≡ shards_with s queues pasts → slice_get k.lanes lane ≡ Some l → l.unrouted ≡ filter has_ids rest → Pushed k l p.1 new

      go : (o : Option Ids) → a.rec.span.ids ≡ o → PushesOne TakesLast IsFull o (Span a) old p.0 p.2 → Others → Pushed k l refused new
      go None e one others =
          let all : p.1 ≡ refused = omega (arith, p.3, one.0) in
          subst (λ (n : ℕ). Pushed k l n new) all (others queues k l (ap held_in one.1 ∙ holds) same shards g (left None e))
      go (Some ids) e (inl (none, (before, after, at, (room, is), put))) others =
          let shard = shard_of ids.trace (length old) in
          let m = mapped_from (map Span) queues shard before.items (ap (λ (z : List (List Item)). slice_get z shard) (sym holds) ∙ mapped_at (λ (z : QueueState Item). z.items) old shard before at) in
          let longer : List (List Arrival) = slice_set queues shard (m.0 ++ a ∷ []) in
          let with_span : before.items ++ Span a ∷ [] ≡ map Span (m.0 ++ a ∷ []) = ap (λ (z : List Item). z ++ Span a ∷ []) (sym m.2) ∙ sym (map-append Span m.0 (a ∷ [])) in
          let held : held_in p.2 ≡ as_items longer
          = ap held_in (put ∙ ap (slice_set old shard) is)
          ∙ (map-set (λ (z : QueueState Item). z.items) old shard (with_last before (Span a))
          ∙ (ap (λ (z : List (List Item)). slice_set z shard (before.items ++ Span a ∷ [])) holds
          ∙ (ap (λ (z : List Item). slice_set (as_items queues) shard z) with_span ∙ sym (map-set (map Span) queues shard (m.0 ++ a ∷ []))))) in
          let many : length longer ≡ length pasts = length-slice_set queues shard (m.0 ++ a ∷ []) ∙ same in
          let less : CoreLane = record l { unrouted = filter has_ids rest } in
          let next : Core = record k { lanes = slice_set k.lanes lane less; shards = shards_with s longer pasts } in
          let first = routes k l a (filter has_ids rest) ids e queues shard same shards (ap (shard_of ids.trace) long) g (left (Some ids) e) m.0 m.1 in
          let pushed = others longer next less held many refl (get_set k.lanes lane l less g) refl in
          then_pushed k l (filter has_ids rest) (route lane shard) (shards_with s longer pasts) k.counted [] 0 p.1 refused new first (sym (append-nil k.counted))
          (λ reason. sym (if_none (is_same_reason QueueFull reason))) (omega (arith, p.3, none)) pushed
      go (Some ids) e (inr (one, (before, after, at, (full, is), put))) others =
          let shard = shard_of ids.trace (length old) in
          let m = mapped_from (map Span) queues shard before.items (ap (λ (z : List (List Item)). slice_get z shard) (sym holds) ∙ mapped_at (λ (z : QueueState Item). z.items) old shard before at) in
          let unchanged : p.2 ≡ old = put ∙ (ap (slice_set old shard) is ∙ put_back old shard before at) in
          let less : CoreLane = record l { unrouted = filter has_ids rest } in
          let counted : List DroppedSpan = k.counted ++ counts QueueFull (a ∷ []) in
          let next : Core = record k { lanes = slice_set k.lanes lane less; counted = counted } in
          let first = refuses k l a (filter has_ids rest) ids e queues shard same shards (ap (shard_of ids.trace) long) g (left (Some ids) e) m.0 m.1 in
          let pushed = others queues next less (ap held_in unchanged ∙ holds) same shards (get_set k.lanes lane l less g) refl in
          then_pushed k l (filter has_ids rest) (refuse lane shard) k.shards counted (counts QueueFull (a ∷ [])) 1 p.1 refused new first refl
          (λ reason. under_counts reason QueueFull (a ∷ [])) (omega (arith, p.3, one)) pushed
