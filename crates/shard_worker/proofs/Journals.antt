-- The journal of what was popped.
-- For the contract of `work`.
use Rattle.std.proofs.Common.{◌≡◌, ℕ, zero, suc, Bool, true, false, List, [], ◌∷◌, ◌++◌, map, filter, reverse, length, refl, sym, ap, ◌∙◌, subst, cond}
use Rattle.std.specs.Prelude.{◌&&◌}
use Rattle.std.specs.List.{list_all}
use Rattle.std.proofs.lemmas.List.{map-append, append-nil, reverse-append}
use Rattle.otlp_types.specs.declared.arrival.Item.{Item}
use Rattle.released_spans.specs.declared.shipment.Shipment.{Shipment}
use Rattle.released_spans.specs.declared.shipment.Shipment.TheVariants.{End}
use Rattle.drop_ledger.specs.declared.count.Count.{Count}
use Rattle.drop_ledger.specs.declared.count.Count.TheVariants.{Received, Handed, Dropped}
use Rattle.drop_ledger.specs.Places.{TallyState, Tallies}
use Rattle.drop_ledger.proofs.Gains.{tallies_none, tallies_same}
use Rattle.lane_queue.specs.Ends.{EndState, ReceiverState, with_item, TakesAt}
use Rattle.lane_queue.specs.Merges.{IsMergeOf}
use Rattle.lane_queue.proofs.Merging.{merge_more}
use Rattle.journal_theory.specs.Journal.{Entry, Settings, Journal, has_ended, have_ended, IsAnswered, has_ids}
use Rattle.journal_theory.specs.Fate.{Effect, effect, effect_dealt, under}
use Rattle.shard_core.specs.Held.{Held, settings, StandsFor, is_finished}
use Rattle.journal_theory.specs.Standing.{Standing, ends}
use Rattle.journal_theory.specs.Marked.{MarksApply}
use Rattle.shard_worker.specs.Asking.{AskedBy}
use Rattle.released_spans.specs.Shipping.{AreShipped}
use Rattle.released_spans.proofs.Shipping.{shipped_none}
use Rattle.shard_worker.specs.Work.{items, HaveIds, with_ids, journal_of, counted_in, ShardWorks, TicksWait}
use Rattle.shard_worker.specs.Shipped.{shipped_in}
use Rattle.shard_worker.specs.News.{News, AreTold, news}
use Rattle.shard_worker.specs.Turns.{counted_dealt, HasDone, HasTaken}

filter-append : {X : Type 0} (p : X → Bool) (xs ys : List X) → filter p (xs ++ ys) ≡ filter p xs ++ filter p ys
filter-append p [] ys = refl
filter-append p (x ∷ xs) ys = go (p x) (filter-append p xs ys) where
  go : (b : Bool) → filter p (xs ++ ys) ≡ filter p xs ++ filter p ys → cond b (x ∷ filter p (xs ++ ys)) (filter p (xs ++ ys)) ≡ cond b (x ∷ filter p xs) (filter p xs) ++ filter p ys
  go true h = ap (λ l. x ∷ l) h
  go false h = h

abbrev entries : List (ℕ × Entry) → List Entry
entries popped = map (λ (x : ℕ × Entry). x.1) popped

-- each span that was popped has valid ids
all_taken : (popped : List (ℕ × Entry)) → HaveIds popped → with_ids popped ≡ popped
all_taken [] have = refl
all_taken (x ∷ rest) have = ap (λ (b : Bool). cond b (x ∷ with_ids rest) (with_ids rest)) have.0 ∙ ap (λ (z : List (ℕ × Entry)). x ∷ z) (all_taken rest have.1)

with_one : (place : ℕ) (e : Entry) (b : Bool) → has_ids e.item ≡ b → with_ids ((place, e) ∷ []) ≡ cond b ((place, e) ∷ []) []
with_one place e b is = ap (λ c. cond c ((place, e) ∷ []) []) is

pub journal_one : (popped : List (ℕ × Entry)) (place : ℕ) (e : Entry) (b : Bool) → has_ids e.item ≡ b → journal_of (popped ++ (place, e) ∷ []) ≡ cond b (e ∷ journal_of popped) (journal_of popped)
journal_one popped place e b is = ap (λ l. reverse (entries l)) (filter-append (λ (x : ℕ × Entry). has_ids x.1.item) popped ((place, e) ∷ []) ∙ ap (λ l. with_ids popped ++ l) (with_one place e b is)) ∙ go b where
  go : (c : Bool) → reverse (entries (with_ids popped ++ cond c ((place, e) ∷ []) [])) ≡ cond c (e ∷ journal_of popped) (journal_of popped)
  go true = ap reverse (map-append (λ (x : ℕ × Entry). x.1) (with_ids popped) ((place, e) ∷ [])) ∙ reverse-append (entries (with_ids popped)) (e ∷ [])
  go false = ap (λ l. reverse (entries l)) (append-nil (with_ids popped))

pub items_more : (popped : List (ℕ × Entry)) (place : ℕ) (e : Entry) → items (popped ++ (place, e) ∷ []) ≡ items popped ++ (place, e.item) ∷ []
items_more popped place e = map-append (λ (x : ℕ × Entry). (x.0, x.1.item)) popped ((place, e) ∷ [])

pub merged_more : (n place : ℕ) (item : Item) (old new : List (EndState Item)) (popped : List (ℕ × Entry)) (e : Entry) → e.item ≡ item → TakesAt n place item old new → IsMergeOf old (items popped)
    → IsMergeOf new (items (popped ++ (place, e) ∷ []))
merged_more n place item old new popped e is takes merge =
    subst (λ l. IsMergeOf new l) (sym (items_more popped place e ∙ ap (λ i. items popped ++ (place, i) ∷ []) is)) (merge_more n place item old new (items popped) takes merge)

-- what the loop keeps of what was popped
abbrev pub Kept : {L : Type 0} → (told : News → Type 0) → (asks : L → ℕ → ℕ → ℕ → Bool → L → Type 0) → (first : L) → Settings → List (EndState Item) → TallyState → Held → List Shipment → TallyState → L → List (ℕ × Entry) → Type 0
Kept told asks first s ends before shard shipped tally limiter popped = HasTaken told asks first s ends before shard shipped tally limiter popped

abbrev pub unmarked : Item → Entry
unmarked item = record { item = item; refused = false; lost = false; answers = [] }

-- a span without valid ids was popped
pub kept_skipping : {L : Type 0} (told : News → Type 0) (asks : L → ℕ → ℕ → ℕ → Bool → L → Type 0) (first : L) (n place : ℕ) (item : Item) (s : Settings) (old new : List (EndState Item)) (before : TallyState) (shard : Held) (shipped : List Shipment) (tally : TallyState) (limiter : L) (popped : List (ℕ × Entry))
    → has_ids item ≡ false → TakesAt n place item old new → Kept told asks first s old before shard shipped tally limiter popped → Kept told asks first s new before shard shipped tally limiter (popped ++ (place, unmarked item) ∷ [])
kept_skipping told asks first n place item s old new before shard shipped tally limiter popped none takes kept =
    let same = journal_one popped place (unmarked item) false none in (
      merged_more n place item old new popped (unmarked item) refl takes kept.0,
      subst (λ J. MarksApply s J) (sym same) kept.1,
      subst (λ J. AreTold told (news s J)) (sym same) kept.2,
      subst (λ J. HasDone asks first before shard shipped tally limiter J) (sym same) kept.3,
    )

-- nothing was popped
pub kept_none : {L : Type 0} (told : News → Type 0) (asks : L → ℕ → ℕ → ℕ → Bool → L → Type 0) (first : L) (s : Settings) (ends : List (EndState Item)) (shard : Held) (shipped : List Shipment) (tally : TallyState) → IsMergeOf ends [] → StandsFor shard [] 0 → shipped ≡ [] → Kept told asks first s ends tally shard shipped tally first []
kept_none told asks first s ends shard shipped tally merge stands none = (
  merge,
  tt,
  tt,
  record { dealt = 0; all_dealt = refl; answered = tt; at = record { stands = stands; shipped_is = subst (λ (z : List Shipment). AreShipped z []) (sym none) shipped_none; places = none; counted = tallies_none (counted_dealt (settings shard) [] 0) tally nothing; asked = refl } },
) where
  nothing : (count : Count) → counted_dealt (settings shard) [] 0 count ≡ 0
  nothing Received = refl
  nothing Handed = refl
  nothing (Dropped reason) = refl

list_all-append : (p : Bool → Bool) (xs ys : List Bool) → list_all p (xs ++ ys) ≡ (list_all p xs && list_all p ys)
list_all-append p [] ys = refl
list_all-append p (x ∷ xs) ys = go (p x) (list_all-append p xs ys) where
  go : (b : Bool) → list_all p (xs ++ ys) ≡ (list_all p xs && list_all p ys) → (b && list_all p (xs ++ ys)) ≡ ((b && list_all p xs) && list_all p ys)
  go true h = h
  go false h = refl

both_sides : (a b : Bool) → (a && (b && true)) ≡ (b && a)
both_sides true true = refl
both_sides true false = refl
both_sides false true = refl
both_sides false false = refl

pub all_ended : (past : Journal) (n : ℕ) → list_all (λ b. b) (ends past n) ≡ have_ended past n
all_ended past zero = refl
all_ended past (suc n) = list_all-append (λ b. b) (ends past n) (has_ended past n ∷ []) ∙ ap (λ a. a && (has_ended past n && true)) (all_ended past n) ∙ both_sides (have_ended past n) (has_ended past n)

-- a shard that is finished stands for a journal that has the End of each sender
pub have_all_ended : (s : Settings) (shard : Held) (J : Journal) (dealt : ℕ) → settings shard ≡ s → StandsFor shard J dealt → is_finished shard ≡ true → have_ended J s.senders ≡ true
have_all_ended s shard J dealt is stands finished = sym (all_ended J s.senders) ∙ ap (λ z. list_all (λ b. b) (ends J z.senders)) (sym is) ∙ sym (ap (λ (st : Standing). list_all (λ b. b) st.ends) stands.1) ∙ finished

-- the last End was taken
pub works : {L : Type 0} (told : News → Type 0) (asks : L → ℕ → ℕ → ℕ → Bool → L → Type 0) (first : L) (capacity number : ℕ) (s : Settings) (shard : Held) (receiver : ReceiverState Item) (items_shipped : List Shipment) (sender : EndState Shipment) (before tally : TallyState) (limiter : L) (popped : List (ℕ × Entry))
    → settings shard ≡ s → is_finished shard ≡ true → sender.items ≡ items_shipped ++ End number ∷ [] → TicksWait capacity (length receiver.ends) s.senders popped receiver.calls → Kept told asks first s receiver.ends before shard items_shipped tally limiter popped
    → ShardWorks asks capacity number s shard receiver sender before tally first limiter popped
works told asks first capacity number s shard receiver items_shipped sender before tally limiter popped is finished shipped wait kept =
    let J = journal_of popped in
    let done = kept.3 in
    let same : effect_dealt s J done.dealt ≡ effect s J = subst (λ z. effect_dealt z J done.dealt ≡ effect z J) is done.all_dealt in
    record {
      of_queues = kept.0;
      ticks_wait = wait;
      whole = λ have. ap (λ l. reverse (entries l)) (all_taken popped have);
      ended = have_all_ended s shard J done.dealt is done.at.stands finished;
      dealt = done.dealt;
      stands = done.at.stands;
      marked = kept.1;
      answered = subst (λ z. IsAnswered z J) is done.answered;
      asked = subst (λ z. AskedBy asks z J first limiter) is done.at.asked;
      shipped = (items_shipped, shipped, subst (AreShipped items_shipped) (ap (λ z. (effect_dealt z J done.dealt).released) is ∙ ap (λ (e : Effect). e.released) same) done.at.shipped_is);
      places = shipped ∙ ap (λ l. l ++ End number ∷ []) (subst (λ z. items_shipped ≡ shipped_in z J) is done.at.places);
      counted = tallies_same (counted_dealt s J done.dealt) (counted_in s J) before tally (λ count. sym (counts count)) (subst (λ z. Tallies (counted_dealt z J done.dealt) before tally) is done.at.counted);
    } where
      counts : (count : Count) → counted_dealt s (journal_of popped) kept.3.dealt count ≡ counted_in s (journal_of popped) count
      counts Received = refl
      counts Handed = refl
      counts (Dropped reason) = ap (λ (e : Effect). length (under reason e.counted)) (subst (λ z. effect_dealt z (journal_of popped) kept.3.dealt ≡ effect z (journal_of popped)) is kept.3.all_dealt)

-- the same of the values that were given back
pub works_ended : {L : Type 0} (told : News → Type 0) (asks : L → ℕ → ℕ → ℕ → Bool → L → Type 0) (first : L) (capacity number turns_number : ℕ) (s : Settings) (shard shard' : Held) (receiver receiver' : ReceiverState Item) (sender sender' : EndState Shipment) (before tally tally' : TallyState) (limiter limiter' : L) (popped : List (ℕ × Entry))
    → settings shard ≡ s → is_finished shard ≡ true → turns_number ≡ number → sender' ≡ with_item sender (End turns_number) → shard' ≡ shard → limiter' ≡ limiter → receiver' ≡ receiver → tally' ≡ tally
    → TicksWait capacity (length receiver.ends) s.senders popped receiver.calls → Kept told asks first s receiver.ends before shard sender.items tally limiter popped → ShardWorks asks capacity number s shard' receiver' sender' before tally' first limiter' popped
works_ended {L} told asks first capacity number turns_number s shard shard' receiver receiver' sender sender' before tally tally' limiter limiter' popped is finished numbers shipped same_shard same_limiter same_receiver same_tally wait kept =
    let P : Held → ReceiverState Item → TallyState → L → Type 0 = λ h r t l. ShardWorks asks capacity number s h r sender' before t first l popped in
    let here = works told asks first capacity number s shard receiver sender.items sender' before tally limiter popped is finished (ap (λ (e : EndState Shipment). e.items) shipped ∙ ap (λ n. sender.items ++ End n ∷ []) numbers) wait kept in
    subst (λ h. P h receiver' tally' limiter') (sym same_shard) (subst (λ r. P shard r tally' limiter') (sym same_receiver) (subst (λ t. P shard receiver t limiter') (sym same_tally) (subst (λ l. P shard receiver tally l) (sym same_limiter) here)))
