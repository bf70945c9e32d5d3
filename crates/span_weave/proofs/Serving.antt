-- The steps by which a shard takes one item that it popped: the refused tries before it, its route, its taking, and the
-- decisions on all that is due. For the contract of `weave`.
use Rattle.std.proofs.Common.{◌≡◌, ◌≢◌, ℕ, ◌+◌, ◌<◌, ◌==◌, ◌&&◌, Bool, true, false, cond, List, [], ◌∷◌, ◌++◌, length, map, filter, slice_get, Some, sym, refl, ap, ◌∙◌, subst, append_assoc, append-nil, length-append, arith}
use Rattle.std.proofs.lemmas.Bool.{and_parts}
use Rattle.journal_theory.proofs.Counted.{under_append, under_counts}
use native.Mathlib.Decide.{ℕ_discrete}
use Rattle.otlp_types.specs.declared.arrival.Arrival.{Arrival}
use Rattle.otlp_types.specs.declared.arrival.Item.TheVariants.{Span, Tick, End}
use Rattle.span_ids.specs.declared.outcome.Reason.{Reason}
use Rattle.span_ids.specs.declared.outcome.Reason.TheVariants.{QueueFull}
use Rattle.journal_theory.specs.Journal.{Settings, Entry, Journal, Opening, due_now, decision, decisions_in_turn, decisions_now, are_each_answered, has_ended}
use Rattle.journal_theory.specs.Fate.{DroppedSpan, Effect, counts, effect, effect_of_decision, effect_of_decisions}
use Rattle.journal_theory.specs.Marked.{marks_apply_to_ids}
use Rattle.world_theory.specs.World.{CoreConfig, CoreShard, World, goes_to}
use Rattle.world_theory.specs.Step.{route, refuse, take as take_step, tick, end, decide}
use Rattle.world_theory.proofs.DecidingInTurn.{decides_all}
use Rattle.span_weave.specs.Threads.{Try, pushed, full, span_of, was_pushed, pushed_in, refused_in}
use Rattle.span_weave.proofs.Lists.{set_at, set_same, set_other, First, first_of_filter, any_of_filter}
use Rattle.span_weave.proofs.Counting.{number, if_same, if_same_plus, if_same_none}
use Rattle.span_weave.proofs.Runs.{Leads, LeadsBy, leads_same, leads_one, leads_then, by_one, by_quiet, by_then, then_quiet}
use Rattle.span_weave.proofs.Worlds.{Model, entry_of, given_to, AreGiven, own, stood, dealing, did, fresh, state, refuse_step, route_step, take_one, tick_one, end_lane, end_ticker, decide_one}

module _ (c : CoreConfig) (lanes shards : ℕ) (received : ℕ → List Arrival) (m : Model) (s : ℕ) (below : s < shards) where
  -- the settings of the shard
  abbrev pub S : Settings
  S = own c lanes shards received

  -- the world where these are still to be routed, the shard is this one, and these are counted
  abbrev pub W : (unrouted : ℕ → List Arrival) → CoreShard → (counted : List DroppedSpan) → World
  W u sh C = state c lanes shards received m s below u sh C

  -- the shard with an empty queue, where all that was due is decided
  abbrev pub still : Journal → CoreShard
  still J = stood c lanes shards received [] J

  -- the span goes to this shard
  abbrev pub goes : (shard : ℕ) → Arrival → Bool
  goes k a = goes_to shards k a

  -- ---- tries

  -- a lane makes these tries for this shard, and there are no others
  abbrev pub only : (l : ℕ) → List Bool → (lane shard : ℕ) → List Bool
  only l made j k = cond ((s == k) && (l == j)) made []

  pub only_then : (l : ℕ) (made more : List Bool) (j k : ℕ) → only l made j k ++ only l more j k ≡ only l (made ++ more) j k
  only_then l made more j k = go ((s == k) && (l == j))
    where
      go : (b : Bool) → cond b made [] ++ cond b more [] ≡ cond b (made ++ more) []
      go true = refl
      go false = refl

  only_none : (l j k : ℕ) → [] ≡ only l [] j k
  only_none l j k = go ((s == k) && (l == j))
    where
      go : (b : Bool) → [] ≡ cond {A = List Bool} b [] []
      go true = refl
      go false = refl

  -- ---- all that is due is decided

  -- what is counted once an entry was taken and all that was due was decided
  abbrev pub with_counts : List DroppedSpan → Entry → Journal → List DroppedSpan
  with_counts C e J = (C ++ (did c lanes shards received e J).counted) ++ (effect_of_decisions (decisions_now S (e ∷ J))).counted

  -- The decisions of the last item, one after the other, deal with all that is due.
  pub settles : (u : ℕ → List Arrival) (C : List DroppedSpan) (e : Entry) (J : Journal) → AreGiven S e J
      → Leads c (W u (fresh c lanes shards received e J) (C ++ (did c lanes shards received e J).counted)) (W u (still (e ∷ J)) (with_counts C e J))
  settles u C e J fits = decides_all S e J (λ given n out counted. W u (dealing c lanes shards received (given_to e given ∷ J) n out) counted) (Leads c) (leads_same c) (leads_then c)
      (λ given n out counted o answers due is. leads_one c _ _ (decide s answers) (λ l k. refl) (decide_one c lanes shards received m s below u counted e J given n out o answers due is))
      [] e.answers ((effect S J).released ++ (did c lanes shards received e J).released) (C ++ (did c lanes shards received e J).counted) [] (due_now S (e ∷ J)) refl fits

  settled_number : (reason : Reason) (C : List DroppedSpan) (e : Entry) (J : Journal)
      → number reason (with_counts C e J) + number reason (effect S J).counted ≡ number reason C + number reason (with_counts (effect S J).counted e J)
  settled_number reason C e J = omega (
    arith,
    under_append reason (C ++ (did c lanes shards received e J).counted) (effect_of_decisions (decisions_now S (e ∷ J))).counted,
    under_append reason C (did c lanes shards received e J).counted,
    under_append reason ((effect S J).counted ++ (did c lanes shards received e J).counted) (effect_of_decisions (decisions_now S (e ∷ J))).counted,
    under_append reason (effect S J).counted (did c lanes shards received e J).counted,
  )

  -- ---- one item

  -- The shard took one entry of a sender, which made these tries: this is left of the lane's spans for the shard, and
  -- so many of them were refused before.
  pub record Served (u : ℕ → List Arrival) (C : List DroppedSpan) (J : Journal) (l : ℕ) (e : Entry) (left : List Arrival) (refused : ℕ) (made : List Bool) : Type 0 where
    pub unrouted : ℕ → List Arrival
    pub counted : List DroppedSpan
    pub leads : LeadsBy c lanes (only l made) (W u (still J) C) (W unrouted (still (e ∷ J)) counted)
    pub left_is : filter (goes s) (unrouted l) ≡ left
    pub lanes_same : (j : ℕ) → j ≢ l → unrouted j ≡ u j
    pub others : (j : ℕ) (q : Arrival → Bool) → ((x : Arrival) → goes s x ≡ true → q x ≡ false) → filter q (unrouted j) ≡ filter q (u j)
    pub number_is : (reason : Reason) → number reason counted + number reason (effect S J).counted ≡ (number reason C + number reason (with_counts (effect S J).counted e J)) + if_same QueueFull reason refused

  -- the lanes' spans that do not go to the shard are the same
  kept : (u : ℕ → List Arrival) (l : ℕ) (a : Arrival) (others : List Arrival) (f : First (goes s) (u l) a others) (j : ℕ) (q : Arrival → Bool) → ((x : Arrival) → goes s x ≡ true → q x ≡ false)
      → filter q (set_at u l f.rest j) ≡ filter q (u j)
  kept u l a others f j q apart = go (ℕ_discrete j l)
    where
      go : Dec (j ≡ l) → filter q (set_at u l f.rest j) ≡ filter q (u j)
      go (yes same) = subst (λ i. filter q (set_at u l f.rest i) ≡ filter q (u i)) (sym same) (ap (filter q) (set_same u l f.rest) ∙ f.keeps q apart)
      go (no n) = ap (filter q) (set_other u l j f.rest n)

  -- the lane's first span for the shard was refused, and others are left
  pub record Refused (u : ℕ → List Arrival) (C : List DroppedSpan) (J : Journal) (l : ℕ) (left : List Arrival) : Type 0 where
    pub unrouted : ℕ → List Arrival
    pub counted : List DroppedSpan
    pub leads : LeadsBy c lanes (only l (false ∷ [])) (W u (still J) C) (W unrouted (still J) counted)
    pub left_is : filter (goes s) (unrouted l) ≡ left
    pub lanes_same : (j : ℕ) → j ≢ l → unrouted j ≡ u j
    pub others : (j : ℕ) (q : Arrival → Bool) → ((x : Arrival) → goes s x ≡ true → q x ≡ false) → filter q (unrouted j) ≡ filter q (u j)
    pub number_is : (reason : Reason) → number reason counted ≡ number reason C + if_same QueueFull reason 1

  refuses : (u : ℕ → List Arrival) (C : List DroppedSpan) (J : Journal) (l : ℕ) (a : Arrival) (left : List Arrival) → l < lanes → filter (goes s) (u l) ≡ a ∷ left → Refused u C J l left
  refuses u C J l a left lane_is e =
      let f = first_of_filter (goes s) (u l) a left e in
      record {
        unrouted = set_at u l f.rest;
        counted = C ++ counts QueueFull (a ∷ []);
        leads = by_one c lanes _ _ (refuse l s) (refuse_step c lanes shards received m s below u C l lane_is a f.rest f.takes (still J));
        left_is = ap (filter (goes s)) (set_same u l f.rest) ∙ f.leaves;
        lanes_same = λ j apart. set_other u l j f.rest apart;
        others = λ j q apart. kept u l a left f j q apart;
        number_is = λ reason. under_append reason C (counts QueueFull (a ∷ [])) ∙ ap (λ n. number reason C + n) (under_counts reason QueueFull (a ∷ []));
      }

  -- a refusal, and then an item
  after_refusal : (u : ℕ → List Arrival) (C : List DroppedSpan) (J : Journal) (l : ℕ) (e : Entry) (between left : List Arrival) (refused : ℕ) (made : List Bool)
      → (r : Refused u C J l between) → Served r.unrouted r.counted J l e left refused made → Served u C J l e left (refused + 1) (false ∷ made)
  after_refusal u C J l e between left refused made r t = record {
    unrouted = t.unrouted;
    counted = t.counted;
    leads = by_then c lanes (only l (false ∷ [])) (only l made) (only l (false ∷ made)) _ _ _ (λ j k i. only_then l (false ∷ []) made j k) r.leads t.leads;
    left_is = t.left_is;
    lanes_same = λ j apart. t.lanes_same j apart ∙ r.lanes_same j apart;
    others = λ j q apart. t.others j q apart ∙ r.others j q apart;
    number_is = λ reason. omega (arith, t.number_is reason, r.number_is reason, if_same_plus QueueFull reason refused 1);
  }

  -- the lane's first span for the shard is routed, and taken
  serve_span : (u : ℕ → List Arrival) (C : List DroppedSpan) (J : Journal) (l : ℕ) (a : Arrival) (left : List Arrival) (refused lost : Bool) (given : List (List Bool)) → l < lanes → filter (goes s) (u l) ≡ a ∷ left
      → AreGiven S (entry_of (Span a) refused lost given) J → marks_apply_to_ids S J refused lost a.rec.span.ids ≡ true → Served u C J l (entry_of (Span a) refused lost given) left 0 (true ∷ [])
  serve_span u C J l a left refused lost given lane_is e fits marks =
      let f = first_of_filter (goes s) (u l) a left e in
      let v = set_at u l f.rest in
      record {
        unrouted = v;
        counted = with_counts C (entry_of (Span a) refused lost given) J;
        leads = then_quiet c lanes (only l (true ∷ [])) _ _ _ (by_one c lanes _ _ (route l s) (route_step c lanes shards received m s below u C l lane_is a f.rest f.takes (still J)))
            (leads_then c _ _ _ (leads_one c _ _ (take_step s refused lost) (λ l k. refl) (take_one c lanes shards received m s below v C a J refused lost given marks)) (settles v C (entry_of (Span a) refused lost given) J fits));
        left_is = ap (filter (goes s)) (set_same u l f.rest) ∙ f.leaves;
        lanes_same = λ j apart. set_other u l j f.rest apart;
        others = λ j q apart. kept u l a left f j q apart;
        number_is = λ reason. omega (arith, settled_number reason C (entry_of (Span a) refused lost given) J, if_same_none QueueFull reason);
      }

  -- an entry that leaves the lanes as they are
  serve_plain : (u : ℕ → List Arrival) (C : List DroppedSpan) (J : Journal) (l : ℕ) (e : Entry) (left : List Arrival) → filter (goes s) (u l) ≡ left → AreGiven S e J
      → Leads c (W u (still J) C) (W u (fresh c lanes shards received e J) (C ++ (did c lanes shards received e J).counted)) → Served u C J l e left 0 []
  serve_plain u C J l e left is fits took = record {
    unrouted = u;
    counted = with_counts C e J;
    leads = by_quiet c lanes (only l []) _ _ (λ j k i. only_none l j k) (leads_then c _ _ _ took (settles u C e J fits));
    left_is = is;
    lanes_same = λ j apart. refl;
    others = λ j q apart. refl;
    number_is = λ reason. omega (arith, settled_number reason C e J, if_same_none QueueFull reason);
  }

  -- a lane's End, where none of its spans is left
  serve_end : (u : ℕ → List Arrival) (C : List DroppedSpan) (J : Journal) (l : ℕ) (given : List (List Bool)) → l < lanes → filter (goes s) (u l) ≡ [] → AreGiven S (entry_of (End l) false false given) J → has_ended J l ≡ false → Served u C J l (entry_of (End l) false false given) [] 0 []
  serve_end u C J l given lane_is e fits runs = serve_plain u C J l (entry_of (End l) false false given) [] e fits
      (leads_one c _ _ (end s l) (λ l k. refl) (end_lane c lanes shards received m s below u C l J given lane_is (any_of_filter (goes s) (u l) e) runs))

  -- a tick
  pub serve_tick : (u : ℕ → List Arrival) (C : List DroppedSpan) (J : Journal) (moment : ℕ) (given : List (List Bool)) → AreGiven S (entry_of (Tick moment) false false given) J → has_ended J lanes ≡ false → Served u C J lanes (entry_of (Tick moment) false false given) (filter (goes s) (u lanes)) 0 []
  serve_tick u C J moment given fits runs = serve_plain u C J lanes (entry_of (Tick moment) false false given) (filter (goes s) (u lanes)) refl fits
      (leads_one c _ _ (tick s moment) (λ l k. refl) (tick_one c lanes shards received m s below u C moment J given runs))

  -- the ticker's End
  pub serve_end_ticker : (u : ℕ → List Arrival) (C : List DroppedSpan) (J : Journal) (given : List (List Bool)) → AreGiven S (entry_of (End lanes) false false given) J → has_ended J lanes ≡ false → Served u C J lanes (entry_of (End lanes) false false given) (filter (goes s) (u lanes)) 0 []
  serve_end_ticker u C J given fits runs = serve_plain u C J lanes (entry_of (End lanes) false false given) (filter (goes s) (u lanes)) refl fits
      (leads_one c _ _ (end s lanes) (λ l k. refl) (end_ticker c lanes shards received m s below u C J given runs))

  -- ---- the tries before an item

  -- The shard took one entry of a lane: of the lane's tries the first were refused, or put in this entry's span, and
  -- these are left.
  pub record Tried (u : ℕ → List Arrival) (C : List DroppedSpan) (J : Journal) (l : ℕ) (e : Entry) (tries : List Try) (later : List Arrival) : Type 0 where
    pub rest : List Try
    pub many : ℕ
    pub made : List Bool
    pub served : Served u C J l e (map span_of rest) many made
    pub made_is : map was_pushed tries ≡ made ++ map was_pushed rest
    pub refused : length (refused_in tries) ≡ many + length (refused_in rest)
    pub pushed_later : pushed_in rest ≡ later

  -- all of a lane's tries up to the one that put the span in
  pub serve_tries : (tries : List Try) (u : ℕ → List Arrival) (C : List DroppedSpan) (J : Journal) (l : ℕ) (a : Arrival) (later : List Arrival) (refused lost : Bool) (given : List (List Bool)) → l < lanes
      → pushed_in tries ≡ a ∷ later → filter (goes s) (u l) ≡ map span_of tries → AreGiven S (entry_of (Span a) refused lost given) J → marks_apply_to_ids S J refused lost a.rec.span.ids ≡ true → Tried u C J l (entry_of (Span a) refused lost given) tries later
  serve_tries [] u C J l a later refused lost given lane_is g e fits marks = absurd (cc g)
  serve_tries (pushed x ∷ tries) u C J l a later refused lost given lane_is g e fits marks =
      let head : x ≡ a = cc g in
      let tail : pushed_in tries ≡ later = cc g in
      record {
        rest = tries;
        many = 0;
        made = true ∷ [];
        made_is = refl;
        served = subst (λ (y : Arrival). Served u C J l (entry_of (Span y) refused lost given) (map span_of tries) 0 (true ∷ [])) head
            (serve_span u C J l x (map span_of tries) refused lost given lane_is e (subst (λ (y : Arrival). AreGiven S (entry_of (Span y) refused lost given) J) (sym head) fits) (subst (λ (y : Arrival). marks_apply_to_ids S J refused lost y.rec.span.ids ≡ true) (sym head) marks));
        refused = omega arith;
        pushed_later = tail;
      }
  serve_tries (full x ∷ tries) u C J l a later refused lost given lane_is g e fits marks =
      let r = refuses u C J l x (map span_of tries) lane_is e in
      let t = serve_tries tries r.unrouted r.counted J l a later refused lost given lane_is g r.left_is fits marks in
      record {
        rest = t.rest;
        many = t.many + 1;
        made = false ∷ t.made;
        made_is = ap (λ (z : List Bool). false ∷ z) t.made_is;
        served = after_refusal u C J l (entry_of (Span a) refused lost given) (map span_of tries) (map span_of t.rest) t.many t.made r t.served;
        refused = omega (arith, t.refused);
        pushed_later = t.pushed_later;
      }

  -- all of a lane's tries that are left, where none put a span in, and then its End
  pub end_tries : (tries : List Try) (u : ℕ → List Arrival) (C : List DroppedSpan) (J : Journal) (l : ℕ) (given : List (List Bool)) → l < lanes
      → pushed_in tries ≡ [] → filter (goes s) (u l) ≡ map span_of tries → AreGiven S (entry_of (End l) false false given) J → has_ended J l ≡ false → Served u C J l (entry_of (End l) false false given) [] (length (refused_in tries)) (map was_pushed tries)
  end_tries [] u C J l given lane_is g e fits runs = serve_end u C J l given lane_is e fits runs
  end_tries (pushed x ∷ tries) u C J l given lane_is g e fits runs = absurd (cc g)
  end_tries (full x ∷ tries) u C J l given lane_is g e fits runs =
      let r = refuses u C J l x (map span_of tries) lane_is e in
      let t = end_tries tries r.unrouted r.counted J l given lane_is g r.left_is fits runs in
      let one : length (refused_in tries) + 1 ≡ length (refused_in (full x ∷ tries)) = omega arith in
      subst (λ (n : ℕ). Served u C J l (entry_of (End l) false false given) [] n (false ∷ map was_pushed tries)) one (after_refusal u C J l (entry_of (End l) false false given) (map span_of tries) [] (length (refused_in tries)) (map was_pushed tries) r t)
