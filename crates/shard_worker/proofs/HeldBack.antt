-- What a shard takes while it holds a tick back.
-- For the contracts of `take_item`, `take_tick` and `drain`.
use Rattle.std.proofs.Common.{◌≡◌, ◌≢◌, ℕ, suc, ◌+◌, ◌<◌, ◌≤◌, Bool, true, false, cond, List, [], ◌∷◌, ◌++◌, length, refl, sym, ap, ◌∙◌, subst, inl, inr, append_assoc, length-append, eq-eqb, ne_eqb, arith}
use native.Mathlib.Decide.{ℕ_discrete}
use Rattle.std.proofs.lemmas.List.{map-append, append-nil}
use Rattle.otlp_types.specs.declared.arrival.Item.{Item}
use Rattle.otlp_types.specs.declared.arrival.Item.TheVariants.{Span, Tick, End}
use Rattle.released_spans.specs.declared.shipment.Shipment.{Shipment}
use Rattle.drop_ledger.specs.Places.{TallyState}
use Rattle.lane_queue.specs.declared.calls.Call.{Call}
use Rattle.lane_queue.specs.declared.calls.Call.TheVariants.{Popped, FoundEmpty}
use Rattle.lane_queue.specs.Calls.{pops_of, is_empty_after}
use Rattle.lane_queue.specs.Ends.{EndState, queues, TakesAt, WasEmptyAt}
use Rattle.lane_queue.specs.Moments.{WasEmpty}
use Rattle.lane_queue.specs.Merges.{of, IsMergeOf}
use Rattle.lane_queue.proofs.Merging.{of-append, of_same, of_other, merge_more, merge_swap}
use Rattle.lane_queue.proofs.Called.{pops-append, empty-append, still_empty}
use Rattle.journal_theory.specs.Journal.{Entry, Settings, Journal, has_ids}
use Rattle.journal_theory.specs.Marked.{MarksApply, marks_apply}
use Rattle.shard_core.specs.Held.{Held, settings}
use Rattle.shard_worker.specs.Work.{items, places, journal_of, is_tick, IsBehind}
use Rattle.shard_worker.specs.News.{News, AreTold, news, news_now}
use Rattle.shard_worker.specs.Turns.{HasDone, TellsItem, HasTaken, HoldsBack, IsCalled, AreAt, IsOf}
use Rattle.shard_worker.proofs.Journals.{journal_one, items_more, unmarked}
use Rattle.shard_worker.proofs.Told.{told_both}

-- an item that is no span has valid ids
pub no_tick : (item : Item) → has_ids item ≡ false → is_tick item ≡ false
no_tick (Span a) none = refl
no_tick (Tick m) none = absurd (let x : true ≡ false = none in cc)
no_tick (End sender) none = refl

-- ends of the same queues are as many
pub same_count : (a b : List (EndState Item)) → queues a ≡ queues b → length a ≡ length b
same_count [] [] same = refl
same_count [] (y ∷ b) same = absurd (omega (arith, ap length same))
same_count (x ∷ a) [] same = absurd (omega (arith, ap length same))
same_count (x ∷ a) (y ∷ b) same = let rest : queues a ≡ queues b = cc in ap suc (same_count a b rest)

items-append : (a b : List (ℕ × Entry)) → items (a ++ b) ≡ items a ++ items b
items-append a b = map-append (λ (x : ℕ × Entry). (x.0, x.1.item)) a b

of_both : (k : ℕ) (a b : List (ℕ × Entry)) → of k (items (a ++ b)) ≡ of k (items a) ++ of k (items b)
of_both k a b = ap (of k) (items-append a b) ∙ of-append k (items a) (items b)

-- nothing of other queues was popped, one more of this one
pub of_none : (place : ℕ) → IsOf place []
of_none place k apart = refl

pub of_one : (place : ℕ) (popped : List (ℕ × Entry)) (e : Entry) → IsOf place popped → IsOf place (popped ++ (place, e) ∷ [])
of_one place popped e is k apart = ap (of k) (items_more popped place e) ∙ of_other k place (items popped) e.item (λ same. apart (sym same)) ∙ is k apart

pub one_longer : (place n : ℕ) (popped : List (ℕ × Entry)) (e : Entry) → length (of place (items popped)) ≡ n → length (of place (items (popped ++ (place, e) ∷ []))) ≡ n + 1
one_longer place n popped e is = ap (λ l. length (of place l)) (items_more popped place e) ∙ ap length (of_same place (items popped) e.item) ∙ length-append (of place (items popped)) (e.item ∷ []) ∙ ap (λ m. m + 1) is

module _ {L : Type 0} (told : News → Type 0) (asks : L → ℕ → ℕ → ℕ → Bool → L → Type 0) (first : L) (n : ℕ) (s : Settings) (before : TallyState) where
  -- the next item was popped, and is held back
  pub popping : (place : ℕ) (item : Item) (old new : List (EndState Item)) (shard : Held) (shipped : List Shipment) (tally : TallyState) (limiter : L) (popped : List (ℕ × Entry))
      → TakesAt n place item old new → HasTaken told asks first s old before shard shipped tally limiter popped → HoldsBack told asks first s new before shard shipped tally limiter popped place item
  popping place item old new shard shipped tally limiter popped takes has = (merge_more n place item old new (items popped) takes has.0, has.1, has.2, has.3)

  -- what was held back is taken
  pub releasing : (place : ℕ) (item : Item) (ends : List (EndState Item)) (shard shard' : Held) (shipped shipped' : List Shipment) (tally tally' : TallyState) (limiter limiter' : L) (popped : List (ℕ × Entry))
      → settings shard' ≡ s → has_ids item ≡ true → HoldsBack told asks first s ends before shard shipped tally limiter popped place item
      → (t : TellsItem told asks first before shard' shipped' tally' limiter' item (journal_of popped)) → HasTaken told asks first s ends before shard' shipped' tally' limiter' (popped ++ (place, t.0.taken) ∷ [])
  releasing place item ends shard shard' shipped shipped' tally tally' limiter limiter' popped is some holds t =
      let same = journal_one popped place t.0.taken true (ap has_ids t.0.item_is ∙ some) in (
        subst (λ l. IsMergeOf ends l) (sym (items_more popped place t.0.taken ∙ ap (λ i. items popped ++ (place, i) ∷ []) t.0.item_is)) holds.0,
        subst (λ J. MarksApply s J) (sym same) (subst (λ z. marks_apply z t.0.taken (journal_of popped) ≡ true) is t.0.marked, holds.1),
        subst (λ J. AreTold told (news s J)) (sym same) (told_both told (news s (journal_of popped)) (news_now s (t.0.taken ∷ journal_of popped)) holds.2 (subst (λ z. AreTold told (news_now z (t.0.taken ∷ journal_of popped))) is t.1)),
        subst (λ J. HasDone asks first before shard' shipped' tally' limiter' J) (sym same) t.0.done,
      )

  merged : (place at : ℕ) (item held : Item) (old new : List (EndState Item)) (popped : List (ℕ × Entry)) (e : Entry) → at ≢ place → e.item ≡ item → TakesAt n place item old new
      → IsMergeOf old (items popped ++ (at, held) ∷ []) → IsMergeOf new (items (popped ++ (place, e) ∷ []) ++ (at, held) ∷ [])
  merged place at item held old new popped e apart is takes merge =
      subst (λ l. IsMergeOf new (l ++ (at, held) ∷ [])) (sym (items_more popped place e ∙ ap (λ i. items popped ++ (place, i) ∷ []) is))
      (merge_swap new (items popped) (at, held) (place, item) apart (merge_more n place item old new (items popped ++ (at, held) ∷ []) takes merge))

  -- an item of another queue was popped and taken
  pub holding_taking : (place at : ℕ) (item held : Item) (old new : List (EndState Item)) (shard shard' : Held) (shipped shipped' : List Shipment) (tally tally' : TallyState) (limiter limiter' : L) (popped : List (ℕ × Entry))
      → at ≢ place → settings shard' ≡ s → has_ids item ≡ true → TakesAt n place item old new → HoldsBack told asks first s old before shard shipped tally limiter popped at held
      → (t : TellsItem told asks first before shard' shipped' tally' limiter' item (journal_of popped)) → HoldsBack told asks first s new before shard' shipped' tally' limiter' (popped ++ (place, t.0.taken) ∷ []) at held
  holding_taking place at item held old new shard shard' shipped shipped' tally tally' limiter limiter' popped apart is some takes holds t =
      let same = journal_one popped place t.0.taken true (ap has_ids t.0.item_is ∙ some) in (
        merged place at item held old new popped t.0.taken apart t.0.item_is takes holds.0,
        subst (λ J. MarksApply s J) (sym same) (subst (λ z. marks_apply z t.0.taken (journal_of popped) ≡ true) is t.0.marked, holds.1),
        subst (λ J. AreTold told (news s J)) (sym same) (told_both told (news s (journal_of popped)) (news_now s (t.0.taken ∷ journal_of popped)) holds.2 (subst (λ z. AreTold told (news_now z (t.0.taken ∷ journal_of popped))) is t.1)),
        subst (λ J. HasDone asks first before shard' shipped' tally' limiter' J) (sym same) t.0.done,
      )

  -- a span without valid ids was popped of another queue
  pub holding_skipping : (place at : ℕ) (item held : Item) (old new : List (EndState Item)) (shard : Held) (shipped : List Shipment) (tally : TallyState) (limiter : L) (popped : List (ℕ × Entry))
      → at ≢ place → has_ids item ≡ false → TakesAt n place item old new → HoldsBack told asks first s old before shard shipped tally limiter popped at held
      → HoldsBack told asks first s new before shard shipped tally limiter (popped ++ (place, unmarked item) ∷ []) at held
  holding_skipping place at item held old new shard shipped tally limiter popped apart none takes holds =
      let same = journal_one popped place (unmarked item) false none in (
        merged place at item held old new popped (unmarked item) apart refl takes holds.0,
        subst (λ J. MarksApply s J) (sym same) holds.1,
        subst (λ J. AreTold told (news s J)) (sym same) holds.2,
        subst (λ J. HasDone asks first before shard shipped tally limiter J) (sym same) holds.3,
      )

  -- what was held back is taken, and behind it one more item that was popped
  pub taking_both : (place other : ℕ) (item last : Item) (ends new : List (EndState Item)) (shard shard' shard'' : Held) (shipped shipped' shipped'' : List Shipment) (tally tally' tally'' : TallyState) (limiter limiter' limiter'' : L) (popped : List (ℕ × Entry))
      → settings shard' ≡ s → settings shard'' ≡ s → has_ids item ≡ true → has_ids last ≡ true → TakesAt n other last ends new → HoldsBack told asks first s ends before shard shipped tally limiter popped place item
      → ((past : Journal) → HasDone asks first before shard shipped tally limiter past → TellsItem told asks first before shard' shipped' tally' limiter' item past)
      → ((past : Journal) → HasDone asks first before shard' shipped' tally' limiter' past → TellsItem told asks first before shard'' shipped'' tally'' limiter'' last past)
      → (e : Entry) × (f : Entry) × HasTaken told asks first s new before shard'' shipped'' tally'' limiter'' ((popped ++ (place, e) ∷ []) ++ (other, f) ∷ [])
  taking_both place other item last ends new shard shard' shard'' shipped shipped' shipped'' tally tally' tally'' limiter limiter' limiter'' popped is is' some some' takes holds first_turn second_turn =
      let t = first_turn (journal_of popped) holds.3 in
      let one = releasing place item ends shard shard' shipped shipped' tally tally' limiter limiter' popped is some holds t in
      let held = popping other last ends new shard' shipped' tally' limiter' (popped ++ (place, t.0.taken) ∷ []) takes one in
      let u = second_turn (journal_of (popped ++ (place, t.0.taken) ∷ [])) held.3 in
      (t.0.taken, u.0.taken, releasing other last new shard' shard'' shipped' shipped'' tally' tally'' limiter' limiter'' (popped ++ (place, t.0.taken) ∷ []) is' some' held u)

-- the same by another number of the shard, and other settings, that are the same
module _ {L : Type 0} (T : ℕ → News → Type 0) (asks : L → ℕ → ℕ → ℕ → Bool → L → Type 0) (first : L) (before : TallyState) (a b : ℕ) (is : a ≡ b) where
  pub held_as : (s z : Settings) → s ≡ z → (ends : List (EndState Item)) (shard : Held) (shipped : List Shipment) (tally : TallyState) (limiter : L) (popped : List (ℕ × Entry)) (place : ℕ) (item : Item)
      → HoldsBack (T a) asks first s ends before shard shipped tally limiter popped place item → HoldsBack (T b) asks first z ends before shard shipped tally limiter popped place item
  held_as s z same ends shard shipped tally limiter popped place item h =
      subst (λ (m : ℕ). HoldsBack (T m) asks first z ends before shard shipped tally limiter popped place item) is (subst (λ (x : Settings). HoldsBack (T a) asks first x ends before shard shipped tally limiter popped place item) same h)

  pub taken_as : (s z : Settings) → s ≡ z → (ends : List (EndState Item)) (shard : Held) (shipped : List Shipment) (tally : TallyState) (limiter : L) (popped : List (ℕ × Entry))
      → HasTaken (T a) asks first s ends before shard shipped tally limiter popped → HasTaken (T b) asks first z ends before shard shipped tally limiter popped
  taken_as s z same ends shard shipped tally limiter popped h =
      subst (λ (m : ℕ). HasTaken (T m) asks first z ends before shard shipped tally limiter popped) is (subst (λ (x : Settings). HasTaken (T a) asks first x ends before shard shipped tally limiter popped) same h)

  pub tells_as : (shard : Held) (shipped : List Shipment) (tally : TallyState) (limiter : L) (item : Item) (past : Journal) → TellsItem (T a) asks first before shard shipped tally limiter item past → TellsItem (T b) asks first before shard shipped tally limiter item past
  tells_as shard shipped tally limiter item past t = subst (λ (m : ℕ). TellsItem (T m) asks first before shard shipped tally limiter item past) is t

-- ---- the calls since a tick was popped

places-append : (a b : List (ℕ × Entry)) → places (a ++ b) ≡ places a ++ places b
places-append a b = map-append (λ (x : ℕ × Entry). x.0) a b

-- no call yet
pub called_none : (old : List Call) → IsCalled old old [] []
called_none old = (sym (append-nil old), refl)

pub at_none : (place : ℕ) → AreAt place []
at_none place k before apart = refl

-- one item more was popped
pub called_more : (old between new : List Call) (popped : List (ℕ × Entry)) (calls : List Call) (place : ℕ) (e : Entry) → IsCalled old between popped calls → new ≡ between ++ Popped place ∷ [] → IsCalled old new (popped ++ (place, e) ∷ []) (calls ++ Popped place ∷ [])
called_more old between new popped calls place e is more = (
  more ∙ ap (λ l. l ++ Popped place ∷ []) is.0 ∙ append_assoc old calls (Popped place ∷ []),
  pops-append calls (Popped place ∷ []) ∙ ap (λ l. l ++ place ∷ []) is.1 ∙ sym (places-append popped ((place, e) ∷ [])),
)

at_last : (place : ℕ) (calls : List Call) (call : Call) → AreAt place calls → AreAt place (call ∷ []) → AreAt place (calls ++ call ∷ [])
at_last place calls call are is k before apart = empty-append k before calls (call ∷ []) ∙ is k (is_empty_after k before calls) apart ∙ are k before apart

pub at_more : (place : ℕ) (calls : List Call) → AreAt place calls → AreAt place (calls ++ Popped place ∷ [])
at_more place calls are = at_last place calls (Popped place) are (λ k before apart. ap (λ b. cond b false before) (ne_eqb place k (λ e. apart (sym e))))

-- the queue was found empty
pub called_empty : (old between new : List Call) (popped : List (ℕ × Entry)) (calls : List Call) (place : ℕ) → IsCalled old between popped calls → new ≡ between ++ FoundEmpty place ∷ [] → IsCalled old new popped (calls ++ FoundEmpty place ∷ [])
called_empty old between new popped calls place is more = (
  more ∙ ap (λ l. l ++ FoundEmpty place ∷ []) is.0 ∙ append_assoc old calls (FoundEmpty place ∷ []),
  pops-append calls (FoundEmpty place ∷ []) ∙ append-nil (pops_of calls) ∙ is.1,
)

pub at_empty : (place : ℕ) (calls : List Call) → AreAt place calls → AreAt place (calls ++ FoundEmpty place ∷ [])
at_empty place calls are = at_last place calls (FoundEmpty place) are (λ k before apart. ap (λ b. cond b true before) (ne_eqb place k (λ e. apart (sym e))))

-- more calls behind those of a start
pub calls_more : (start old new calls more : List Call) → old ≡ start ++ calls → new ≡ old ++ more → new ≡ start ++ (calls ++ more)
calls_more start old new calls more is then = then ∙ ap (λ l. l ++ more) is ∙ append_assoc start calls more

-- some calls, and then others
pub called_both : (old between new : List Call) (popped more : List (ℕ × Entry)) (calls others : List Call) → IsCalled old between popped calls → IsCalled between new more others → IsCalled old new (popped ++ more) (calls ++ others)
called_both old between new popped more calls others is then = (
  then.0 ∙ ap (λ l. l ++ others) is.0 ∙ append_assoc old calls others,
  pops-append calls others ∙ ap (λ l. l ++ pops_of others) is.1 ∙ ap (λ l. places popped ++ l) then.1 ∙ sym (places-append popped more),
)

-- behind the pop of a tick
pub called_since : (past old new : List Call) (at place : ℕ) (popped : List (ℕ × Entry)) (calls : List Call) → at ≡ place → old ≡ past ++ Popped at ∷ [] → IsCalled old new popped calls → new ≡ past ++ Popped place ∷ calls
called_since past old new at place popped calls same is since =
    since.0 ∙ ap (λ l. l ++ calls) is ∙ append_assoc past (Popped at ∷ []) calls ∙ ap (λ p. past ++ Popped p ∷ calls) same

-- nothing of the queue at one place is among what was popped of others
pub own_none : (place other : ℕ) (drained more : List (ℕ × Entry)) → place ≢ other → IsOf other more → of place (items drained) ≡ [] → of place (items (drained ++ more)) ≡ []
own_none place other drained more apart is none = of_both place drained more ∙ ap (λ l. l ++ of place (items more)) none ∙ is place apart

pub own_none_last : (place other : ℕ) (drained : List (ℕ × Entry)) (e : Entry) → place ≢ other → of place (items drained) ≡ [] → of place (items (drained ++ (other, e) ∷ [])) ≡ []
own_none_last place other drained e apart none = ap (of place) (items_more drained other e) ∙ of_other place other (items drained) e.item (λ same. apart (sym same)) ∙ none

-- the queue was empty: nothing that waited there is overtaken
pub behind_empty : (n place at : ℕ) (held : Item) (ends : List (EndState Item)) (earlier drained : List (ℕ × Entry)) (calls : List Call) → at ≢ place
    → IsMergeOf ends (items (earlier ++ drained) ++ (at, held) ∷ []) → WasEmptyAt n ends place → IsBehind n earlier drained (calls ++ FoundEmpty place ∷ []) place
behind_empty n place at held ends earlier drained calls apart merge empty =
    inl (
      empty-append place false calls (FoundEmpty place ∷ []) ∙ ap (λ b. cond b true (is_empty_after place false calls)) (eq-eqb place place refl),
      subst (λ (l : List Item). WasEmpty n l) (merge.each place empty.0 empty.1 ∙ of_other place at (items (earlier ++ drained)) held apart) empty.2,
    )

-- what was popped of others since changes nothing
pub behind_kept : (n place other : ℕ) (earlier drained more : List (ℕ × Entry)) (calls others : List Call) → place ≢ other → IsOf other more → AreAt other others → IsBehind n earlier drained calls place → IsBehind n earlier (drained ++ more) (calls ++ others) place
behind_kept n place other earlier drained more calls others apart is are (inl empty) =
    inl (
      empty-append place false calls others ∙ are place (is_empty_after place false calls) apart ∙ empty.0,
      subst (λ (l : List Item). WasEmpty n l)
          (sym (ap (λ l. of place (items l)) (sym (append_assoc earlier drained more)) ∙ of_both place (earlier ++ drained) more ∙ ap (λ l. of place (items (earlier ++ drained)) ++ l) (is place apart) ∙ append-nil (of place (items (earlier ++ drained)))))
          empty.1,
    )
behind_kept n place other earlier drained more calls others apart is are (inr many) =
    inr (subst (λ (l : List Item). n ≤ length l) (sym (of_both place drained more ∙ ap (λ l. of place (items drained) ++ l) (is place apart) ∙ append-nil (of place (items drained)))) many)

-- what was popped of others before changes nothing
pub behind_more : (n place : ℕ) (earlier drained more : List (ℕ × Entry)) (calls others : List Call) → IsBehind n (earlier ++ drained) more others place → IsBehind n earlier (drained ++ more) (calls ++ others) place
behind_more n place earlier drained more calls others (inl empty) =
    inl (empty-append place false calls others ∙ still_empty place others empty.0 (is_empty_after place false calls), subst (λ l. WasEmpty n (of place (items l))) (append_assoc earlier drained more) empty.1)
behind_more n place earlier drained more calls others (inr many) =
    inr (subst (λ (m : ℕ). n ≤ m) (sym (ap length (of_both place drained more) ∙ length-append (of place (items drained)) (of place (items more)))) (omega (arith, many)))

-- two more of a list in three parts
pub regroup_two : {X : Type 0} (a b c : List X) (x y : X) → (((a ++ b) ++ c) ++ x ∷ []) ++ y ∷ [] ≡ a ++ ((b ++ c) ++ x ∷ y ∷ [])
regroup_two a b c x y = append_assoc ((a ++ b) ++ c) (x ∷ []) (y ∷ []) ∙ ap (λ l. l ++ x ∷ y ∷ []) (append_assoc a b c) ∙ append_assoc a (b ++ c) (x ∷ y ∷ [])

-- what holds of the queues before this one, and of this one, holds up to the next
pub behind_next : (n other place : ℕ) (earlier drained more : List (ℕ × Entry)) (calls others : List Call) → IsOf other more → AreAt other others → ((k : ℕ) → k < other → k ≢ place → IsBehind n earlier drained calls k) → IsBehind n (earlier ++ drained) more others other
    → (k : ℕ) → k < other + 1 → k ≢ place → IsBehind n earlier (drained ++ more) (calls ++ others) k
behind_next n other place earlier drained more calls others is are before here k low apart = elim (ℕ_discrete k other) as (λ _. IsBehind n earlier (drained ++ more) (calls ++ others) k) [
  | yes same ↦ subst (λ j. IsBehind n earlier (drained ++ more) (calls ++ others) j) (sym same) (behind_more n other earlier drained more calls others here)
  | no other_one ↦ behind_kept n k other earlier drained more calls others other_one is are (before k (omega (arith, low, other_one)) apart)
]

-- the tick's own queue is passed over
pub behind_own : (n other place : ℕ) (earlier drained : List (ℕ × Entry)) (calls : List Call) → other ≡ place → ((k : ℕ) → k < other → k ≢ place → IsBehind n earlier drained calls k) → (k : ℕ) → k < other + 1 → k ≢ place → IsBehind n earlier drained calls k
behind_own n other place earlier drained calls is before k low apart = before k (omega (arith, low, apart, is)) apart
