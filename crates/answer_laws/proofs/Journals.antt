-- A span that a lane received was taken by a shard exactly where the lane pushed it to that shard's queue.
-- For the law `answers_bind`.
use Rattle.std.proofs.Common.{◌≡◌, ℕ, ◌+◌, ◌<◌, ◌≤◌, ◌==◌, cond, Bool, true, false, List, [], ◌∷◌, ◌++◌, map, filter, reverse, length, slice_get, Some, refl, sym, ap, subst, ◌∙◌, arith, append_assoc, eqb-true}
use Rattle.std.specs.Prelude.{Contains, if◌then◌else◌}
use Rattle.std.specs.List.{list_any}
use Rattle.std.proofs.lemmas.List.{reverse-append}
use native.Mathlib.Decide.{ℕ_discrete}
use Rattle.otlp_types.specs.declared.arrival.Arrival.{Arrival}
use Rattle.otlp_types.specs.declared.arrival.Item.{Item}
use Rattle.otlp_types.specs.declared.arrival.Item.TheVariants.{Span, Tick, End}
use Rattle.otlp_types.specs.declared.span.Ids.{Ids}
use Rattle.span_ids.specs.Route.{shard_of}
use Rattle.span_ids.specs.declared.keys.ArrivalKey.{ArrivalKey}
use Rattle.lane_queue.specs.Merges.{of}
use Rattle.journal_theory.specs.Journal.{Entry}
use Rattle.journal_theory.proofs.ListFacts.{Each, Each-all, Each-append, Each-map, Each-reverse, Each-split, Each-weaker, Split, Split-cons, Split-more, tally-append}
use Rattle.world_theory.specs.World.{CoreConfig, CoreLane, CoreShard, World, goes_to, ids_go_to, same_key}
use Rattle.world_theory.specs.Headline.{WasReceived, is_span_with, was_taken}
use Rattle.world_theory.proofs.Balance.{occ}
use Rattle.world_theory.proofs.Dealing.{Split-each}
use Rattle.world_theory.proofs.Single.{same_key_is, key_self, split_hit, one_hit, contains_split, split_contains}
use Rattle.world_theory.proofs.Steps.{map_some}
use Rattle.span_weave.specs.Threads.{Threads, Try, pushed, full, span_of, pushed_in, ExporterMade, items_of, journal_of, Meets}
use Rattle.span_weave.specs.Woven.{HoldsOfThreads}
use Rattle.span_weave.proofs.Popping.{each_of_merge}
use Rattle.core_laws.proofs.Extent.{shards_of_run, get_below}
use Rattle.core_laws.proofs.Found.{any_in, any_at}
use Rattle.core_laws.proofs.Out.{any_hit, got_at}
use Rattle.core_laws.proofs.Untaken.{once_on_lane}

-- ---- elements of lists that were made of others

split_reverse : {X : Type 0} (x : X) (xs : List X) → Split x xs → Split x (reverse xs)
split_reverse x xs s = record {
  front = reverse s.back;
  back = reverse s.front;
  is = ap reverse s.is ∙ (reverse-append s.front (x ∷ s.back) ∙ (ap (λ zs. zs ++ reverse s.front) (reverse-append (x ∷ []) s.back) ∙ append_assoc (reverse s.back) (x ∷ []) (reverse s.front)));
}

-- an element of a list that was mapped
split_map : {X Y : Type 0} (f : X → Y) (y : Y) (xs : List X) → Split y (map f xs) → (x : X) × (Split x xs) × (f x ≡ y)
split_map {X} {Y} f y xs s = go xs s.front s.is
  where
    go : (xs : List X) (front : List Y) → map f xs ≡ front ++ y ∷ s.back → (x : X) × (Split x xs) × (f x ≡ y)
    go [] [] e = absurd (cc e)
    go [] (z ∷ front) e = absurd (cc e)
    go (x ∷ xs) [] e = (x, record { front = []; back = xs; is = refl }, cc e)
    go (x ∷ xs) (z ∷ front) e = let rest = go xs front (cc e) in (rest.0, Split-cons rest.0 x xs rest.1, rest.2)

split_filter : {X : Type 0} (q : X → Bool) (y : X) (xs : List X) → Split y (filter q xs) → (Split y xs) × (q y ≡ true)
split_filter {X} q y xs s = go xs s.front s.is
  where
    go : (xs front : List X) → filter q xs ≡ front ++ y ∷ s.back → (Split y xs) × (q y ≡ true)
    go [] [] e = absurd (cc e)
    go [] (z ∷ front) e = absurd (cc e)
    go (x ∷ xs) front e = by (q x) refl front e (go xs)
      where
        by : (b : Bool) → q x ≡ b → (front : List X) → cond b (x ∷ filter q xs) (filter q xs) ≡ front ++ y ∷ s.back → ((front : List X) → filter q xs ≡ front ++ y ∷ s.back → (Split y xs) × (q y ≡ true)) → (Split y (x ∷ xs)) × (q y ≡ true)
        by false p front e more = let rest = more front e in (Split-cons y x xs rest.0, rest.1)
        by true p [] e more = let same : x ≡ y = cc e in (record { front = []; back = xs; is = ap (λ z. z ∷ xs) same }, sym (ap q same) ∙ p)
        by true p (z ∷ front) e more = let rest = more front (cc e) in (Split-cons y x xs rest.0, rest.1)

-- an element of one list of a merge
split_of : {X : Type 0} (n : ℕ) (y : X) (merged : List (ℕ × X)) → Split y (of n merged) → Split y (map (λ (p : ℕ × X). p.1) merged)
split_of {X} n y merged s = go merged s.front s.is
  where
    go : (merged : List (ℕ × X)) (front : List X) → of n merged ≡ front ++ y ∷ s.back → Split y (map (λ (p : ℕ × X). p.1) merged)
    go [] [] e = absurd (cc e)
    go [] (z ∷ front) e = absurd (cc e)
    go (p ∷ rest) front e = by (p.0 == n) front e (go rest)
      where
        by : (b : Bool) (front : List X) → (if b then p.1 ∷ of n rest else of n rest) ≡ front ++ y ∷ s.back → ((front : List X) → of n rest ≡ front ++ y ∷ s.back → Split y (map (λ (p : ℕ × X). p.1) rest)) → Split y (p.1 ∷ map (λ (p : ℕ × X). p.1) rest)
        by false front e more = Split-cons y p.1 (map (λ (p : ℕ × X). p.1) rest) (more front e)
        by true [] e more = let same : p.1 ≡ y = cc e in record { front = []; back = map (λ (p : ℕ × X). p.1) rest; is = ap (λ (z : X). z ∷ map (λ (p : ℕ × X). p.1) rest) same }
        by true (z ∷ front) e more = Split-cons y p.1 (map (λ (p : ℕ × X). p.1) rest) (more front (cc e))

each_unmap : {X Y : Type 0} (P : Y → Type 0) (f : X → Y) (xs : List X) → Each P (map f xs) → Each (λ x. P (f x)) xs
each_unmap P f [] h = tt
each_unmap P f (x ∷ xs) h = (h.0, each_unmap P f xs h.1)

-- a span that was pushed was tried
split_pushed : (b : Arrival) (tries : List Try) → Split b (pushed_in tries) → Split b (map span_of tries)
split_pushed b tries s = go tries s.front s.is
  where
    go : (tries : List Try) (front : List Arrival) → pushed_in tries ≡ front ++ b ∷ s.back → Split b (map span_of tries)
    go [] [] e = absurd (cc e)
    go [] (z ∷ front) e = absurd (cc e)
    go (full a ∷ tries) front e = Split-cons b a (map span_of tries) (go tries front e)
    go (pushed a ∷ tries) [] e = let same : a ≡ b = cc e in record { front = []; back = map span_of tries; is = ap (λ (z : Arrival). z ∷ map span_of tries) same }
    go (pushed a ∷ tries) (z ∷ front) e = Split-cons b a (map span_of tries) (go tries front (cc e))

-- ---- a lane of a run of threads

module _ (c : CoreConfig) (lanes shards : ℕ) (t : Threads) (end : ExporterMade) (meets : Meets c lanes shards t end) (h : HoldsOfThreads c lanes shards t end) (lane : ℕ) (below : lane < lanes) where
  abbrev w : World
  w = h.woven.after

  own_lane : (l : CoreLane) × (slice_get w.lanes lane ≡ Some l) × (l.received ≡ t.received lane)
  own_lane = map_some (λ (l : CoreLane). l.received) (slice_get w.lanes lane) (t.received lane) (h.woven.received lane below)

  pub was_received : (a : Arrival) → Contains (t.received lane) a → WasReceived w a
  was_received a k = record { lane = lane; of = own_lane.0; in_world = own_lane.1; has = subst (λ (xs : List Arrival). Contains xs a) (sym own_lane.2) k }

  once : (k : ArrivalKey) → occ k (t.received lane) ≤ 1
  once k = subst (λ (xs : List Arrival). occ k xs ≤ 1) own_lane.2 (once_on_lane c w h.headline lane own_lane.0 own_lane.1 k)

  -- two received spans of one key are one
  one_key : (a b : Arrival) → Contains (t.received lane) a → Contains (t.received lane) b → b.key ≡ a.key → b ≡ a
  one_key a b k m e = (one_hit (λ (x : Arrival). same_key x.key a.key) (t.received lane) b a (once a.key) (ap (λ (i : ArrivalKey). same_key i a.key) e ∙ key_self a.key) (key_self a.key) (contains_split (t.received lane) b m) (contains_split (t.received lane) a k)).0

  -- a received span was received neither before nor later
  pub came_once : (before later : List Arrival) (a : Arrival) → t.received lane ≡ before ++ a ∷ later → (Contains before a → ⊥) × (Contains later a → ⊥)
  came_once before later a e = ((λ k. sooner (contains_split before a k)), (λ k. after (contains_split later a k)))
    where
      few : occ a.key (before ++ a ∷ later) ≤ 1
      few = subst (λ (xs : List Arrival). occ a.key xs ≤ 1) e (once a.key)

      own : cond {A = ℕ} (same_key a.key a.key) 1 0 ≡ 1
      own = ap (λ (b : Bool). cond {A = ℕ} b 1 0) (key_self a.key)

      sooner : Split a before → ⊥
      sooner s = absurd (omega (arith, few, own, tally-append (λ (x : Arrival). same_key x.key a.key) before (a ∷ later), split_hit (λ (x : Arrival). same_key x.key a.key) before a s (key_self a.key)))

      after : Split a later → ⊥
      after s = absurd (omega (arith, few, own, tally-append (λ (x : Arrival). same_key x.key a.key) before (a ∷ later), split_hit (λ (x : Arrival). same_key x.key a.key) later a s (key_self a.key)))

  -- the lane pushed the span to the queue of this shard
  abbrev IsPushedTo : (shard : ℕ) → Arrival → Type 0
  IsPushedTo shard a = Contains (map (λ b. Span b) (pushed_in (t.tries lane shard))) (Span a)

  -- ---- what was pushed was taken

  pub pushed_was_taken : (shard : ℕ) → shard < shards → (a : Arrival) → IsPushedTo shard a → was_taken w a.key ≡ true
  pushed_was_taken shard l a k =
      let sent = contains_split (map (λ b. Span b) (pushed_in (t.tries lane shard))) (Span a) k in
      let popped : Split (Span a) (items_of lane (t.popped shard)) = subst (λ (zs : List Item). Split (Span a) zs) (sym (meets.of_lane lane shard below l)) (Split-more (Span a) (map (λ b. Span b) (pushed_in (t.tries lane shard))) (End lane ∷ []) sent) in
      let e = split_map (λ (e : Entry). e.item) (Span a) (of lane (t.popped shard)) popped in
      let in_journal = split_reverse e.0 (map (λ (x : ℕ × Entry). x.1) (t.popped shard)) (split_of lane e.0 (t.popped shard) e.1) in
      let hit : is_span_with a.key e.0.item ≡ true = ap (is_span_with a.key) e.2 ∙ key_self a.key in
      let sh = map_some (λ (sh : CoreShard). sh.journal) (slice_get w.shards shard) (journal_of t shard) (h.woven.journals shard l) in
      let own : list_any (λ (e : Entry). is_span_with a.key e.item) sh.0.journal ≡ true = ap (list_any (λ (e : Entry). is_span_with a.key e.item)) sh.2 ∙ any_in (λ (e : Entry). is_span_with a.key e.item) (journal_of t shard) e.0 in_journal hit in
      any_at (λ (sh : CoreShard). list_any (λ (e : Entry). is_span_with a.key e.item) sh.journal) w.shards shard sh.0 sh.1 own

  -- ---- what was taken was pushed

  module _ (a : Arrival) (within : Contains (t.received lane) a) (ids : Ids) (valid : a.rec.span.ids ≡ Some ids) where
    abbrev Own : Type 0
    Own = (shard_of ids.trace shards < shards) × IsPushedTo (shard_of ids.trace shards) a

    abbrev TellsItem : Item → Type 0
    TellsItem item = is_span_with a.key item ≡ true → Own

    lane_is : a.key.conn.lane ≡ lane
    lane_is = let s = contains_split (t.received lane) a within in (meets.numbered lane below s.front s.back a s.is).0

    -- a span that some lane pushed to a shard
    of_pushed : (sender shard : ℕ) → sender < lanes → shard < shards → (b : Arrival) → Split b (pushed_in (t.tries sender shard)) → same_key b.key a.key ≡ true → Own
    of_pushed sender shard m l b s e =
        let key : b.key ≡ a.key = same_key_is b.key a.key e in
        let tried : Split b (filter (goes_to shards shard) (t.received sender)) = subst (λ (zs : List Arrival). Split b zs) (meets.tried sender shard m l) (split_pushed b (t.tries sender shard) s) in
        let found = split_filter (goes_to shards shard) b (t.received sender) tried in
        let own : b.key.conn.lane ≡ sender = (meets.numbered sender m found.0.front found.0.back b found.0.is).0 in
        let same_lane : sender ≡ lane = sym own ∙ (ap (λ (k : ArrivalKey). k.conn.lane) key ∙ lane_is) in
        let there : Contains (t.received lane) b = subst (λ (j : ℕ). Contains (t.received j) b) same_lane (split_contains b (t.received sender) found.0) in
        let same : b ≡ a = one_key a b within there key in
        let goes : goes_to shards shard a ≡ true = ap (goes_to shards shard) (sym same) ∙ found.1 in
        let to_it : (shard_of ids.trace shards == shard) ≡ true = sym (ap (ids_go_to shards shard) valid) ∙ goes in
        let shard_is : shard ≡ shard_of ids.trace shards = sym (eqb-true (shard_of ids.trace shards) shard to_it) in
        let put : Contains (map (λ x. Span x) (pushed_in (t.tries sender shard))) (Span b) = split_contains (Span b) (map (λ x. Span x) (pushed_in (t.tries sender shard))) (split_mapped b (pushed_in (t.tries sender shard)) s) in
        let here : IsPushedTo shard b = subst (λ (j : ℕ). Contains (map (λ x. Span x) (pushed_in (t.tries j shard))) (Span b)) same_lane put in
        (subst (λ (k : ℕ). k < shards) shard_is l, subst (λ (x : Arrival). IsPushedTo (shard_of ids.trace shards) x) same (subst (λ (k : ℕ). IsPushedTo k b) shard_is here))
      where
        split_mapped : (b : Arrival) (xs : List Arrival) → Split b xs → Split (Span b) (map (λ x. Span x) xs)
        split_mapped b xs s = go xs s.front s.is
          where
            go : (xs front : List Arrival) → xs ≡ front ++ b ∷ s.back → Split (Span b) (map (λ x. Span x) xs)
            go [] [] e = absurd (cc e)
            go [] (z ∷ front) e = absurd (cc e)
            go (x ∷ xs) [] e = let is : x ≡ b = cc e in record { front = []; back = map (λ x. Span x) xs; is = ap (λ (z : Arrival). Span z ∷ map (λ x. Span x) xs) is }
            go (x ∷ xs) (z ∷ front) e = Split-cons (Span b) (Span x) (map (λ x. Span x) xs) (go xs front (cc e))

    by_sender : (sender shard : ℕ) → sender ≤ lanes → shard < shards → Dec (sender ≡ lanes) → Each (λ (e : Entry). TellsItem e.item) (of sender (t.popped shard))
    by_sender sender shard m l (yes e) =
        let ticker : items_of sender (t.popped shard) ≡ map (λ m. Tick m) (t.ticks shard) ++ End lanes ∷ [] = ap (λ (j : ℕ). items_of j (t.popped shard)) e ∙ meets.of_ticker shard l in
        each_unmap TellsItem (λ (e : Entry). e.item) (of sender (t.popped shard)) (subst (Each TellsItem) (sym ticker)
        (Each-append TellsItem (map (λ m. Tick m) (t.ticks shard)) (End lanes ∷ [])
        (Each-map TellsItem (λ m. Tick m) (t.ticks shard) (Each-all (λ (m : ℕ). TellsItem (Tick m)) (t.ticks shard) (λ m other. absurd (cc other))))
        ((λ other. absurd (cc other)), tt)))
    by_sender sender shard m l (no n) =
        let one : sender < lanes = omega (arith, m, n) in
        each_unmap TellsItem (λ (e : Entry). e.item) (of sender (t.popped shard)) (subst (Each TellsItem) (sym (meets.of_lane sender shard one l))
        (Each-append TellsItem (map (λ b. Span b) (pushed_in (t.tries sender shard))) (End sender ∷ [])
        (Each-map TellsItem (λ b. Span b) (pushed_in (t.tries sender shard)) (Each-weaker (λ (b : Arrival). Split b (pushed_in (t.tries sender shard))) (λ (b : Arrival). TellsItem (Span b)) (pushed_in (t.tries sender shard))
        (λ b s e. of_pushed sender shard one l b s e) (Split-each (pushed_in (t.tries sender shard)))))
        ((λ other. absurd (cc other)), tt)))

    by_shard : (shard : ℕ) → shard < shards → Each (λ (e : Entry). TellsItem e.item) (journal_of t shard)
    by_shard shard l = Each-reverse (λ (e : Entry). TellsItem e.item) (map (λ (x : ℕ × Entry). x.1) (t.popped shard)) (Each-map (λ (e : Entry). TellsItem e.item) (λ (x : ℕ × Entry). x.1) (t.popped shard)
        (each_of_merge (λ (e : Entry). TellsItem e.item) lanes (t.popped shard) (meets.of_senders shard l) (λ j m. by_sender j shard m l (ℕ_discrete j lanes))))

    pub taken_was_pushed : was_taken w a.key ≡ true → (shard_of ids.trace shards < shards) × IsPushedTo (shard_of ids.trace shards) a
    taken_was_pushed e =
        let some = any_hit (λ (sh : CoreShard). list_any (λ (e : Entry). is_span_with a.key e.item) sh.journal) w.shards e in
        let at : slice_get w.shards (length some.1.front) ≡ Some some.0 = ap (λ (shs : List CoreShard). slice_get shs (length some.1.front)) some.1.is ∙ got_at some.0 some.1.front some.1.back in
        let many : length w.shards ≡ shards = shards_of_run c lanes shards h.woven.steps h.woven.after h.woven.runs in
        let l : length some.1.front < shards = omega (arith, many, get_below w.shards (length some.1.front) some.0 at) in
        let sh = map_some (λ (sh : CoreShard). sh.journal) (slice_get w.shards (length some.1.front)) (journal_of t (length some.1.front)) (h.woven.journals (length some.1.front) l) in
        let both : Some some.0 ≡ Some sh.0 = sym at ∙ sh.1 in
        let same : some.0 ≡ sh.0 = cc both in
        let journal : some.0.journal ≡ journal_of t (length some.1.front) = ap (λ (x : CoreShard). x.journal) same ∙ sh.2 in
        let entry = any_hit (λ (e : Entry). is_span_with a.key e.item) some.0.journal some.2 in
        Each-split (λ (e : Entry). TellsItem e.item) entry.0 some.0.journal entry.1 (subst (Each (λ (e : Entry). TellsItem e.item)) (sym journal) (by_shard (length some.1.front) l)) entry.2
