-- The weave of one shard, by induction over what it popped; and of all shards, one after the other.
-- For the contract of `weave`.
use Rattle.std.proofs.Common.{◌≡◌, ◌≢◌, inl, inr, ℕ, ◌+◌, ◌<◌, ◌≤◌, ◌==◌, Bool, true, false, cond, ◌&&◌, List, [], ◌∷◌, ◌++◌, length, map, filter, sym, refl, ap, ◌∙◌, subst, append-nil, eq-eqb, ne_eqb, arith}
use Rattle.std.specs.List.{AllByRecursion}
use native.Mathlib.Decide.{ℕ_discrete}
use Rattle.otlp_types.specs.declared.arrival.Arrival.{Arrival}
use Rattle.otlp_types.specs.declared.arrival.Item.{Item}
use Rattle.otlp_types.specs.declared.arrival.Item.TheVariants.{Span, Tick, End}
use Rattle.span_ids.specs.declared.outcome.Reason.{Reason}
use Rattle.span_ids.specs.declared.outcome.Reason.TheVariants.{QueueFull}
use Rattle.journal_theory.specs.Journal.{Settings, Entry, Journal, due_now, has_ended, have_ended}
use Rattle.journal_theory.specs.Fate.{DroppedSpan, effect}
use Rattle.world_theory.specs.World.{CoreConfig}
use Rattle.world_theory.specs.Places.{buffered_spans}
use Rattle.span_weave.specs.Threads.{Try, span_of, was_pushed, pushed_in, refused_in, items_of}
use Rattle.span_weave.specs.Woven.{sum_below}
use Rattle.span_weave.proofs.Lists.{set_at, set_same, set_other}
use Rattle.span_weave.proofs.Sums.{sum_none, sum_set}
use Rattle.span_weave.proofs.Counting.{number, if_same, if_same_plus, if_same_none}
use Rattle.span_weave.proofs.Runs.{LeadsBy, leads_same, by_quiet, by_then}
use Rattle.span_weave.proofs.Worlds.{Model, entry_of, AreGiven}
use Rattle.span_weave.proofs.Serving.{S, W, still, goes, only, Served, serve_tries, end_tries, serve_tick, serve_end_ticker}
use Rattle.world_theory.proofs.Finishing.{nothing_buffered}
use Rattle.span_weave.proofs.Journals.{journal_after, MarksApplyAfter, AnsweredAfter, not_all, all_ended, end_here, IsNoEndOfOthers, end_of_one, LaneOwes, TickerOwes, items_here, lane_owes_there, ticker_owes_there, no_marks, marks_of_item, plain_entry}

module _ (c : CoreConfig) (lanes shards : ℕ) (received : ℕ → List Arrival) (m : Model) (s : ℕ) (below : s < shards) where
  -- the settings of the shard
  abbrev O : Settings
  O = S c lanes shards received m s below

  -- the spans of a lane for a shard that are still to be routed
  abbrev left_for : (shard : ℕ) → List Arrival → List Arrival
  left_for k xs = filter (goes c lanes shards received m s below k) xs

  abbrev ServedHere : (ℕ → List Arrival) → List DroppedSpan → Journal → (l : ℕ) → Entry → List Arrival → ℕ → List Bool → Type 0
  ServedHere u C J l e left refused made = Served c lanes shards received m s below u C J l e left refused made

  -- the lanes make these tries for this shard, and there are no others
  abbrev pub for_shard : (ℕ → List Try) → (lane shard : ℕ) → List Bool
  for_shard tries l k = cond (s == k) (map was_pushed (tries l)) []

  -- so many tries of the lanes are refused
  abbrev fullness : (ℕ → List Try) → ℕ
  fullness tries = sum_below lanes (λ l. length (refused_in (tries l)))

  -- what is still to be popped, of each lane and of the ticker
  pub record Ready (u : ℕ → List Arrival) (J : Journal) (tries : ℕ → List Try) (ticks : List ℕ) (popped : List (ℕ × Entry)) : Type 0 where
    pub of_senders : AllByRecursion (λ (x : ℕ × Entry). x.0 ≤ lanes) popped
    pub marked : MarksApplyAfter O J popped
    pub answered : AnsweredAfter O J popped
    pub tried : (l : ℕ) → l < lanes → left_for s (u l) ≡ map span_of (tries l)
    pub lanes_owe : (l : ℕ) → l < lanes → LaneOwes J l (tries l) (items_of l popped)
    pub ticker_owes : TickerOwes J lanes ticks (items_of lanes popped)

  -- The shard took what it popped: all of the lanes' spans for it are routed or refused, and nothing waits in its
  -- buffer.
  pub record WovenShard (u : ℕ → List Arrival) (C : List DroppedSpan) (J : Journal) (tries : ℕ → List Try) (popped : List (ℕ × Entry)) : Type 0 where
    pub unrouted : ℕ → List Arrival
    pub counted : List DroppedSpan
    pub leads : LeadsBy c lanes (for_shard tries) (W c lanes shards received m s below u (still c lanes shards received m s below J) C)
        (W c lanes shards received m s below unrouted (still c lanes shards received m s below (journal_after J popped)) counted)
    pub routed : (l : ℕ) → l < lanes → left_for s (unrouted l) ≡ []
    pub others : (j : ℕ) (q : Arrival → Bool) → ((x : Arrival) → goes c lanes shards received m s below s x ≡ true → q x ≡ false) → filter q (unrouted j) ≡ filter q (u j)
    pub ended : have_ended (journal_after J popped) (lanes + 1) ≡ true
    pub finished : popped ≢ [] → buffered_spans O (journal_after J popped) (length (due_now O (journal_after J popped))) ≡ []
    pub number_is : (reason : Reason) → number reason counted + number reason (effect O J).counted ≡ (number reason C + number reason (effect O (journal_after J popped)).counted) + if_same QueueFull reason (fullness tries)

  -- ---- the first item

  -- The first item was served: what was left of its sender, and how the sender stands then. Where nothing else is to be
  -- popped of the sender, the item was its End.
  record Head (u : ℕ → List Arrival) (C : List DroppedSpan) (J : Journal) (tries : ℕ → List Try) (ticks : List ℕ) (x : ℕ × Entry) (rest : List (ℕ × Entry)) : Type 0 where
    pub tries_left : ℕ → List Try
    pub ticks_left : List ℕ
    pub left : List Arrival
    pub many : ℕ
    pub made : List Bool
    pub served : ServedHere u C J x.0 x.1 left many made
    pub made_is : (l : ℕ) → l < lanes → cond (x.0 == l) made [] ++ map was_pushed (tries_left l) ≡ map was_pushed (tries l)
    pub refused : fullness tries ≡ many + fullness tries_left
    pub ready : Ready served.unrouted (x.1 ∷ J) tries_left ticks_left rest
    pub last : items_of x.0 rest ≡ [] → (x.1.item ≡ End x.0) × (has_ended J x.0 ≡ false)

  -- the head of a lane
  head_of_lane : (u : ℕ → List Arrival) (C : List DroppedSpan) (J : Journal) (tries : ℕ → List Try) (ticks : List ℕ) (x : ℕ × Entry) (rest : List (ℕ × Entry)) → Ready u J tries ticks (x ∷ rest) → x.0 < lanes
      → (left : List Try) (many : ℕ) (made : List Bool) → ServedHere u C J x.0 x.1 (map span_of left) many made → map was_pushed (tries x.0) ≡ made ++ map was_pushed left → length (refused_in (tries x.0)) ≡ many + length (refused_in left) → LaneOwes (x.1 ∷ J) x.0 left (items_of x.0 rest)
      → IsNoEndOfOthers x.0 x.1.item → (items_of x.0 rest ≡ [] → (x.1.item ≡ End x.0) × (has_ended J x.0 ≡ false)) → Head u C J tries ticks x rest
  head_of_lane u C J tries ticks x rest r lane_is left many made served made_is refused owes other last = record {
    tries_left = set_at tries x.0 left;
    ticks_left = ticks;
    left = map span_of left;
    many = many;
    made = made;
    made_is = λ l b. made_so l (ℕ_discrete l x.0);
    served = served;
    refused = omega (
      arith,
      sum_set lanes x.0 lane_is (λ l. length (refused_in (tries l))) (λ l. length (refused_in (set_at tries x.0 left l))) (λ j apart. ap (λ (z : List Try). length (refused_in z)) (sym (set_other tries x.0 j left apart))),
      refused,
      ap (λ (z : List Try). length (refused_in z)) (set_same tries x.0 left),
    );
    ready = record {
      of_senders = r.of_senders.1;
      marked = r.marked.1;
      answered = r.answered.1;
      tried = λ l b. tried l b (ℕ_discrete l x.0);
      lanes_owe = λ l b. lanes_owe l b (ℕ_discrete l x.0);
      ticker_owes = ticker_owes_there J x rest lanes ticks other (λ e. absurd (omega (arith, e, lane_is))) r.ticker_owes;
    };
    last = last;
  }
    where
      made_so : (l : ℕ) → Dec (l ≡ x.0) → cond (x.0 == l) made [] ++ map was_pushed (set_at tries x.0 left l) ≡ map was_pushed (tries l)
      made_so l (yes e) = subst (λ i. cond (x.0 == i) made [] ++ map was_pushed (set_at tries x.0 left i) ≡ map was_pushed (tries i)) (sym e)
          (ap (λ b. cond b made [] ++ map was_pushed (set_at tries x.0 left x.0)) (eq-eqb x.0 x.0 refl) ∙ (ap (λ (z : List Try). made ++ map was_pushed z) (set_same tries x.0 left) ∙ sym made_is))
      made_so l (no n) = ap (λ b. cond b made [] ++ map was_pushed (set_at tries x.0 left l)) (ne_eqb x.0 l (λ e. n (sym e))) ∙ ap (map was_pushed) (set_other tries x.0 l left n)

      tried : (l : ℕ) → l < lanes → Dec (l ≡ x.0) → left_for s (served.unrouted l) ≡ map span_of (set_at tries x.0 left l)
      tried l b (yes e) = subst (λ i. left_for s (served.unrouted i) ≡ map span_of (set_at tries x.0 left i)) (sym e) (served.left_is ∙ ap (map span_of) (sym (set_same tries x.0 left)))
      tried l b (no n) = ap (left_for s) (served.lanes_same l n) ∙ (r.tried l b ∙ ap (map span_of) (sym (set_other tries x.0 l left n)))

      lanes_owe : (l : ℕ) → l < lanes → Dec (l ≡ x.0) → LaneOwes (x.1 ∷ J) l (set_at tries x.0 left l) (items_of l rest)
      lanes_owe l b (yes e) = subst (λ i. LaneOwes (x.1 ∷ J) i (set_at tries x.0 left i) (items_of i rest)) (sym e) (subst (λ (z : List Try). LaneOwes (x.1 ∷ J) x.0 z (items_of x.0 rest)) (sym (set_same tries x.0 left)) owes)
      lanes_owe l b (no n) = subst (λ (z : List Try). LaneOwes (x.1 ∷ J) l z (items_of l rest)) (sym (set_other tries x.0 l left n)) (lane_owes_there J x rest l (tries l) other n (r.lanes_owe l b))

  -- the head of the ticker
  head_of_ticker : (u : ℕ → List Arrival) (C : List DroppedSpan) (J : Journal) (tries : ℕ → List Try) (ticks : List ℕ) (x : ℕ × Entry) (rest : List (ℕ × Entry)) → Ready u J tries ticks (x ∷ rest) → x.0 ≡ lanes
      → (left : List Arrival) (ticks_left : List ℕ) → ServedHere u C J x.0 x.1 left 0 [] → TickerOwes (x.1 ∷ J) lanes ticks_left (items_of lanes rest)
      → IsNoEndOfOthers x.0 x.1.item → (items_of x.0 rest ≡ [] → (x.1.item ≡ End x.0) × (has_ended J x.0 ≡ false)) → Head u C J tries ticks x rest
  head_of_ticker u C J tries ticks x rest r is left ticks_left served owes other last = record {
    tries_left = tries;
    ticks_left = ticks_left;
    left = left;
    many = 0;
    made = [];
    made_is = λ l b. no_tries (x.0 == l) (map was_pushed (tries l));
    served = served;
    refused = omega arith;
    ready = record {
      of_senders = r.of_senders.1;
      marked = r.marked.1;
      answered = r.answered.1;
      tried = λ l b. ap (left_for s) (served.lanes_same l (apart l b)) ∙ r.tried l b;
      lanes_owe = λ l b. lane_owes_there J x rest l (tries l) other (apart l b) (r.lanes_owe l b);
      ticker_owes = owes;
    };
    last = last;
  }
    where
      no_tries : (b : Bool) (z : List Bool) → cond b [] [] ++ z ≡ z
      no_tries true z = refl
      no_tries false z = refl

      apart : (l : ℕ) → l < lanes → l ≢ x.0
      apart l b e = absurd (omega (arith, b, e, is))

  -- an item of a lane
  lane_head : (u : ℕ → List Arrival) (C : List DroppedSpan) (J : Journal) (tries : ℕ → List Try) (ticks : List ℕ) (x : ℕ × Entry) (rest : List (ℕ × Entry)) → Ready u J tries ticks (x ∷ rest) → x.0 < lanes → Head u C J tries ticks x rest
  lane_head u C J tries ticks x rest r lane_is = by_owed (r.lanes_owe x.0 lane_is)
    where
      l : ℕ
      l = x.0

      e : Entry
      e = x.1

      -- the item is the lane's End
      is_end : pushed_in (tries l) ≡ [] → e.item ≡ End l → items_of l rest ≡ [] → has_ended J l ≡ false → Head u C J tries ticks x rest
      is_end none is over runs =
          let plain = no_marks e.refused e.lost (marks_of_item O e J (End l) is r.marked.0) in
          let same : e ≡ entry_of (End l) false false e.answers = plain_entry O e J (End l) is plain in
          head_of_lane u C J tries ticks x rest r lane_is [] (length (refused_in (tries l))) (map was_pushed (tries l))
          (subst (λ (y : Entry). ServedHere u C J l y [] (length (refused_in (tries l))) (map was_pushed (tries l))) (sym same) (end_tries c lanes shards received m s below (tries l) u C J l e.answers lane_is none (r.tried l lane_is) (subst (λ (y : Entry). AreGiven O y J) same r.answered.0) runs))
          (sym (append-nil (map was_pushed (tries l))))
          (omega arith)
          (inr (over, refl, subst (λ (y : Entry). has_ended (y ∷ J) l ≡ true) (sym same) (end_here l false false e.answers J)))
          (subst (λ (i : Item). IsNoEndOfOthers l i) (sym is) (end_of_one l)) (λ none. (is, runs))

      -- the item is the first span that the lane's tries put in
      is_span : (a : Arrival) (later : List Arrival) → pushed_in (tries l) ≡ a ∷ later → e.item ≡ Span a → items_of l rest ≡ map (λ a. Span a) later ++ End l ∷ [] → has_ended J l ≡ false → Head u C J tries ticks x rest
      is_span a later some is more runs =
          let same : e ≡ entry_of (Span a) e.refused e.lost e.answers = ap (λ (i : Item). entry_of i e.refused e.lost e.answers) is in
          let t = serve_tries c lanes shards received m s below (tries l) u C J l a later e.refused e.lost e.answers lane_is some (r.tried l lane_is) (subst (λ (y : Entry). AreGiven O y J) same r.answered.0) (marks_of_item O e J (Span a) is r.marked.0) in
          head_of_lane u C J tries ticks x rest r lane_is t.rest t.many t.made
          (subst (λ (y : Entry). ServedHere u C J l y (map span_of t.rest) t.many t.made) (sym same) t.served)
          t.made_is
          t.refused
          (inl (more ∙ ap (λ (z : List Arrival). map (λ a. Span a) z ++ End l ∷ []) (sym t.pushed_later), subst (λ (y : Entry). has_ended (y ∷ J) l ≡ false) (sym same) runs))
          (subst (λ (i : Item). IsNoEndOfOthers l i) (sym is) (λ j apart. refl)) (λ none. absurd (never later (sym none ∙ more)))
        where
          never : (later : List Arrival) → [] ≡ map (λ a. Span a) later ++ End l ∷ [] → ⊥
          never [] h = cc h
          never (b ∷ later) h = cc h

      by_pushed : (g : List Arrival) → pushed_in (tries l) ≡ g → e.item ∷ items_of l rest ≡ map (λ a. Span a) g ++ End l ∷ [] → has_ended J l ≡ false → Head u C J tries ticks x rest
      by_pushed [] g h runs = is_end g (cc h) (cc h) runs
      by_pushed (a ∷ later) g h runs = is_span a later g (cc h) (cc h) runs

      by_owed : LaneOwes J l (tries l) (items_of l (x ∷ rest)) → Head u C J tries ticks x rest
      by_owed (inl h) = by_pushed (pushed_in (tries l)) refl (sym (items_here x rest) ∙ h.0) h.1
      by_owed (inr h) = absurd (some (sym (items_here x rest) ∙ h.0))
        where
          some : e.item ∷ items_of l rest ≡ [] → ⊥
          some h = cc h

  -- an item of the ticker
  ticker_head : (u : ℕ → List Arrival) (C : List DroppedSpan) (J : Journal) (tries : ℕ → List Try) (ticks : List ℕ) (x : ℕ × Entry) (rest : List (ℕ × Entry)) → Ready u J tries ticks (x ∷ rest) → x.0 ≡ lanes → Head u C J tries ticks x rest
  ticker_head u C J tries ticks x rest r is_ticker = by_owed r.ticker_owes
    where
      e : Entry
      e = x.1

      here : items_of lanes (x ∷ rest) ≡ e.item ∷ items_of lanes rest
      here = subst (λ k. items_of k (x ∷ rest) ≡ e.item ∷ items_of k rest) is_ticker (items_here x rest)

      -- the item is the ticker's End
      is_end : e.item ≡ End lanes → items_of lanes rest ≡ [] → has_ended J lanes ≡ false → Head u C J tries ticks x rest
      is_end is over runs =
          let plain = no_marks e.refused e.lost (marks_of_item O e J (End lanes) is r.marked.0) in
          let same : e ≡ entry_of (End lanes) false false e.answers = plain_entry O e J (End lanes) is plain in
          head_of_ticker u C J tries ticks x rest r is_ticker (left_for s (u lanes)) []
          (subst (λ (k : ℕ). ServedHere u C J k e (left_for s (u lanes)) 0 []) (sym is_ticker) (subst (λ (y : Entry). ServedHere u C J lanes y (left_for s (u lanes)) 0 []) (sym same) (serve_end_ticker c lanes shards received m s below u C J e.answers (subst (λ (y : Entry). AreGiven O y J) same r.answered.0) runs)))
          (inr (over, subst (λ (y : Entry). has_ended (y ∷ J) lanes ≡ true) (sym same) (end_here lanes false false e.answers J)))
          (subst (λ (k : ℕ). IsNoEndOfOthers k e.item) (sym is_ticker) (subst (λ (i : Item). IsNoEndOfOthers lanes i) (sym is) (end_of_one lanes)))
          (λ none. (is ∙ ap (λ k. End k) (sym is_ticker), ap (has_ended J) is_ticker ∙ runs))

      -- the item is a tick
      is_tick : (moment : ℕ) (later : List ℕ) → e.item ≡ Tick moment → items_of lanes rest ≡ map (λ m. Tick m) later ++ End lanes ∷ [] → has_ended J lanes ≡ false → Head u C J tries ticks x rest
      is_tick moment later is more runs =
          let plain = no_marks e.refused e.lost (marks_of_item O e J (Tick moment) is r.marked.0) in
          let same : e ≡ entry_of (Tick moment) false false e.answers = plain_entry O e J (Tick moment) is plain in
          head_of_ticker u C J tries ticks x rest r is_ticker (left_for s (u lanes)) later
          (subst (λ (k : ℕ). ServedHere u C J k e (left_for s (u lanes)) 0 []) (sym is_ticker) (subst (λ (y : Entry). ServedHere u C J lanes y (left_for s (u lanes)) 0 []) (sym same) (serve_tick c lanes shards received m s below u C J moment e.answers (subst (λ (y : Entry). AreGiven O y J) same r.answered.0) runs)))
          (inl (more, subst (λ (y : Entry). has_ended (y ∷ J) lanes ≡ false) (sym same) runs))
          (subst (λ (k : ℕ). IsNoEndOfOthers k e.item) (sym is_ticker) (subst (λ (i : Item). IsNoEndOfOthers lanes i) (sym is) (λ j apart. refl)))
          (λ none. absurd (never later (sym none ∙ (ap (λ k. items_of k rest) is_ticker ∙ more))))
        where
          never : (later : List ℕ) → [] ≡ map (λ m. Tick m) later ++ End lanes ∷ [] → ⊥
          never [] h = cc h
          never (b ∷ later) h = cc h

      by_ticks : (g : List ℕ) → e.item ∷ items_of lanes rest ≡ map (λ m. Tick m) g ++ End lanes ∷ [] → has_ended J lanes ≡ false → Head u C J tries ticks x rest
      by_ticks [] h runs = is_end (cc h) (cc h) runs
      by_ticks (moment ∷ later) h runs = is_tick moment later (cc h) (cc h) runs

      by_owed : TickerOwes J lanes ticks (items_of lanes (x ∷ rest)) → Head u C J tries ticks x rest
      by_owed (inl h) = by_ticks ticks (sym here ∙ h.0) h.1
      by_owed (inr h) = absurd (some (sym here ∙ h.0))
        where
          some : e.item ∷ items_of lanes rest ≡ [] → ⊥
          some h = cc h

  head : (u : ℕ → List Arrival) (C : List DroppedSpan) (J : Journal) (tries : ℕ → List Try) (ticks : List ℕ) (x : ℕ × Entry) (rest : List (ℕ × Entry)) → Ready u J tries ticks (x ∷ rest) → Head u C J tries ticks x rest
  head u C J tries ticks x rest r = go (ℕ_discrete x.0 lanes)
    where
      go : Dec (x.0 ≡ lanes) → Head u C J tries ticks x rest
      go (yes e) = ticker_head u C J tries ticks x rest r e
      go (no n) = lane_head u C J tries ticks x rest r (omega (arith, n, r.of_senders.0))

  -- ---- all items

  -- the shard that popped nothing more
  woven_nothing : (u : ℕ → List Arrival) (C : List DroppedSpan) (J : Journal) (tries : ℕ → List Try) (ticks : List ℕ) → Ready u J tries ticks [] → WovenShard u C J tries []
  woven_nothing u C J tries ticks r = record {
    unrouted = u;
    counted = C;
    leads = by_quiet c lanes (for_shard tries) _ _ (λ l k b. go_none (s == k) ∙ ap (λ (z : List Try). cond (s == k) (map was_pushed z) []) (sym (no_tries l b))) (leads_same c _ _ refl);
    routed = λ l b. r.tried l b ∙ ap (map span_of) (no_tries l b);
    others = λ j q apart. refl;
    ended = all_ended J (lanes + 1) (λ k b. ended k b (ℕ_discrete k lanes));
    finished = λ n. absurd (n refl);
    number_is = λ reason. omega (arith, ap (if_same QueueFull reason) (sum_none lanes (λ l. length (refused_in (tries l))) (λ l b. ap (λ (z : List Try). length (refused_in z)) (no_tries l b))), if_same_none QueueFull reason);
  }
    where
      go_none : (b : Bool) → [] ≡ cond {A = List Bool} b [] []
      go_none true = refl
      go_none false = refl

      never : {X : Type 0} (front : List X) (x : X) → [] ≡ front ++ x ∷ [] → ⊥
      never [] x h = cc h
      never (y ∷ front) x h = cc h

      no_tries : (l : ℕ) → l < lanes → tries l ≡ []
      no_tries l b = go (r.lanes_owe l b)
        where
          go : LaneOwes J l (tries l) [] → tries l ≡ []
          go (inl h) = absurd (never (map (λ a. Span a) (pushed_in (tries l))) (End l) h.0)
          go (inr h) = h.1

      lane_ended : (l : ℕ) → l < lanes → has_ended J l ≡ true
      lane_ended l b = go (r.lanes_owe l b)
        where
          go : LaneOwes J l (tries l) [] → has_ended J l ≡ true
          go (inl h) = absurd (never (map (λ a. Span a) (pushed_in (tries l))) (End l) h.0)
          go (inr h) = h.2

      ticker_ended : has_ended J lanes ≡ true
      ticker_ended = go r.ticker_owes
        where
          go : TickerOwes J lanes ticks [] → has_ended J lanes ≡ true
          go (inl h) = absurd (never (map (λ m. Tick m) ticks) (End lanes) h.0)
          go (inr h) = h.1

      ended : (k : ℕ) → k < lanes + 1 → Dec (k ≡ lanes) → has_ended J k ≡ true
      ended k b (yes e) = ap (has_ended J) e ∙ ticker_ended
      ended k b (no n) = lane_ended k (omega (arith, b, n))

  -- the first item, and then the others
  woven_more : (u : ℕ → List Arrival) (C : List DroppedSpan) (J : Journal) (tries : ℕ → List Try) (ticks : List ℕ) (x : ℕ × Entry) (rest : List (ℕ × Entry)) → x.0 ≤ lanes → AreGiven O x.1 J → (h : Head u C J tries ticks x rest)
      → WovenShard h.served.unrouted h.served.counted (x.1 ∷ J) h.tries_left rest → WovenShard u C J tries (x ∷ rest)
  woven_more u C J tries ticks x rest sender fits h more = record {
    unrouted = more.unrouted;
    counted = more.counted;
    leads = by_then c lanes (only c lanes shards received m s below x.0 h.made) (for_shard h.tries_left) (for_shard tries) _ _ _ (λ l k b. joined l b (s == k)) h.served.leads more.leads;
    routed = more.routed;
    others = λ j q apart. more.others j q apart ∙ h.served.others j q apart;
    ended = more.ended;
    finished = λ n. by_rest rest refl;
    number_is = λ reason. omega (arith, more.number_is reason, h.served.number_is reason, ap (if_same QueueFull reason) h.refused, if_same_plus QueueFull reason h.many (fullness h.tries_left));
  }
    where
      joined : (l : ℕ) → l < lanes → (b : Bool) → cond (b && (x.0 == l)) h.made [] ++ cond b (map was_pushed (h.tries_left l)) [] ≡ cond b (map was_pushed (tries l)) []
      joined l i true = h.made_is l i
      joined l i false = refl

      -- the last item is the End with which all senders have ended
      is_last : rest ≡ [] → buffered_spans O (x.1 ∷ J) (length (due_now O (x.1 ∷ J))) ≡ []
      is_last none =
          let last = h.last (ap (items_of x.0) none) in
          let all : have_ended (x.1 ∷ J) (lanes + 1) ≡ true = ap (λ (z : List (ℕ × Entry)). have_ended (journal_after (x.1 ∷ J) z) (lanes + 1)) (sym none) ∙ more.ended in
          let same : x.1 ≡ entry_of (End x.0) x.1.refused x.1.lost x.1.answers = ap (λ (i : Item). entry_of i x.1.refused x.1.lost x.1.answers) last.0 in
          subst (λ (e : Entry). buffered_spans O (e ∷ J) (length (due_now O (e ∷ J))) ≡ []) (sym same)
          (nothing_buffered O x.0 x.1.refused x.1.lost x.1.answers J (subst (λ (e : Entry). AreGiven O e J) same fits) (subst (λ (e : Entry). have_ended (e ∷ J) (lanes + 1) ≡ true) same all) (not_all J (lanes + 1) x.0 (omega (arith, sender)) last.1))

      by_rest : (z : List (ℕ × Entry)) → rest ≡ z → buffered_spans O (journal_after (x.1 ∷ J) rest) (length (due_now O (journal_after (x.1 ∷ J) rest))) ≡ []
      by_rest [] e = ap (λ (z : List (ℕ × Entry)). buffered_spans O (journal_after (x.1 ∷ J) z) (length (due_now O (journal_after (x.1 ∷ J) z)))) e ∙ is_last e
      by_rest (y ∷ z) e = more.finished (λ none. some (sym e ∙ none))
        where
          some : y ∷ z ≡ [] → ⊥
          some h = cc h

  -- the shard takes all that it popped
  pub weave_shard : (popped : List (ℕ × Entry)) (u : ℕ → List Arrival) (C : List DroppedSpan) (J : Journal) (tries : ℕ → List Try) (ticks : List ℕ) → Ready u J tries ticks popped → WovenShard u C J tries popped
  weave_shard [] u C J tries ticks r = woven_nothing u C J tries ticks r
  weave_shard (x ∷ rest) u C J tries ticks r =
      let h = head u C J tries ticks x rest r in
      woven_more u C J tries ticks x rest r.of_senders.0 r.answered.0 h (weave_shard rest h.served.unrouted h.served.counted (x.1 ∷ J) h.tries_left h.ticks_left h.ready)
