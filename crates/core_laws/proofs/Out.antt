-- In a closed world what was released is out.
-- For the law `sampled_comes_out`.
use Rattle.std.proofs.Common.{◌≡◌, ℕ, suc, Bool, true, false, ◌&&◌, ◌||◌, cond, List, [], ◌∷◌, ◌++◌, length, reverse, map, filter, slice_get, Some, inl, inr, refl, sym, ap, subst, ◌∙◌}
use Rattle.std.specs.List.{list_any}
use Rattle.otlp_types.specs.declared.arrival.Arrival.{Arrival}
use Rattle.span_ids.specs.declared.keys.ArrivalKey.{ArrivalKey}
use Rattle.span_ids.specs.declared.outcome.Verdict.{Verdict}
use Rattle.span_ids.specs.declared.outcome.Verdict.TheVariants.{Sampled}
use Rattle.span_ids.specs.declared.outcome.Reason.TheVariants.{InvalidId, QueueFull, NoMemory, Evicted, NotSampled, LateNotSampled, ExporterDown}
use Rattle.journal_theory.specs.Journal.{Settings, Journal, Decision, notes, decisions_now, after_item}
use Rattle.journal_theory.specs.Fate.{Fate, is_released, effect_of_verdict}
use Rattle.world_theory.specs.World.{may_give_up, CoreConfig, CoreLane, CoreShard, World, settings, has_due, same_key}
use Rattle.world_theory.specs.Places.{Place, is_waiting, unrouted, queued, buffered, unshipped, exported, in_batch, handed, counted_under, HeldKey, held, places, IsClosed}
use Rattle.world_theory.specs.Headline.{OfEachRun, TakenSpan, fate_of, WasReceived, is_received, is_where, is_past_release, HoldsOf}
use Rattle.world_theory.proofs.Parts.{headline}
use Rattle.journal_theory.proofs.Notes.{HasRoom}
use Rattle.journal_theory.proofs.ListFacts.{Each, Each-append, Each-weaker, Each-reverse, Each-split, Split}
use Rattle.world_theory.proofs.Decided.{same_decisions}
use Rattle.world_theory.proofs.Released.{IsReleased, released_later, released_by_decision}
use Rattle.world_theory.proofs.Single.{contains_split, split_contains, same_key_is}
use Rattle.core_laws.specs.Sampled.{IsOut, SampledComesOut, LateFollowsOut}

-- ---- nothing is at a waiting place of a closed world

-- the places of a key among these
abbrev places_in : ArrivalKey → List HeldKey → List Place
places_in k hs = map (λ (h : HeldKey). h.place) (filter (λ (h : HeldKey). same_key h.key k) hs)

waits_nowhere : (k : ArrivalKey) (hs : List HeldKey) → filter (λ (h : HeldKey). is_waiting h.place) hs ≡ [] → Each (λ (p : Place). is_waiting p ≡ false) (places_in k hs)
waits_nowhere k [] e = tt
waits_nowhere k (h ∷ hs) e = go (is_waiting h.place) refl e (waits_nowhere k hs)
  where
    go : (b : Bool) → is_waiting h.place ≡ b → cond b (h ∷ filter (λ (x : HeldKey). is_waiting x.place) hs) (filter (λ (x : HeldKey). is_waiting x.place) hs) ≡ []
        → (filter (λ (x : HeldKey). is_waiting x.place) hs ≡ [] → Each (λ (p : Place). is_waiting p ≡ false) (places_in k hs)) → Each (λ (p : Place). is_waiting p ≡ false) (places_in k (h ∷ hs))
    go true w e rest = absurd (cc e)
    go false w e rest = own (same_key h.key k) (rest e)
      where
        own : (b : Bool) → Each (λ (p : Place). is_waiting p ≡ false) (places_in k hs)
            → Each (λ (p : Place). is_waiting p ≡ false) (map (λ (x : HeldKey). x.place) (cond b (h ∷ filter (λ (x : HeldKey). same_key x.key k) hs) (filter (λ (x : HeldKey). same_key x.key k) hs)))
        own true r = (w, r)
        own false r = r

-- the one place of a key in a closed world is none at which it waits
pub gone_place : (c : CoreConfig) (w : World) (k : ArrivalKey) (place : Place) → IsClosed c w → places c w k ≡ place ∷ [] → is_waiting place ≡ false
gone_place c w k place closed e = (subst (λ (ps : List Place). Each (λ (p : Place). is_waiting p ≡ false) ps) e (waits_nowhere k (held c w) closed.nothing_waits)).0

-- ---- a key that has a place was received

pub any_hit : {X : Type 0} (p : X → Bool) (xs : List X) → list_any p xs ≡ true → (x : X) × (Split x xs) × (p x ≡ true)
any_hit p [] e = absurd (cc e)
any_hit {X} p (x ∷ xs) e = go (p x) refl e (any_hit p xs)
  where
    go : (b : Bool) → p x ≡ b → (b || list_any p xs) ≡ true → (list_any p xs ≡ true → (y : X) × (Split y xs) × (p y ≡ true)) → (y : X) × (Split y (x ∷ xs)) × (p y ≡ true)
    go true h e more = (x, record { front = []; back = xs; is = refl }, h)
    go false h e more = let m = more e in (m.0, record { front = x ∷ m.1.front; back = m.1.back; is = ap (λ (ys : List X). x ∷ ys) m.1.is }, m.2)

pub got_at : {X : Type 0} (x : X) (front back : List X) → slice_get (front ++ x ∷ back) (length front) ≡ Some x
got_at x [] back = refl
got_at x (y ∷ front) back = got_at x front back

-- a lane received a span of it
lane_of : (w : World) (k : ArrivalKey) → is_received w k ≡ true → (a : Arrival) × (WasReceived w a) × (a.key ≡ k)
lane_of w k e =
    let l = any_hit (λ (l : CoreLane). list_any (λ a. same_key a.key k) l.received) w.lanes e in
    let a = any_hit (λ (a : Arrival). same_key a.key k) l.0.received l.2 in
    (a.0, record { lane = length l.1.front; of = l.0; in_world = ap (λ (ls : List CoreLane). slice_get ls (length l.1.front)) l.1.is ∙ got_at l.0 l.1.front l.1.back; has = split_contains a.0 l.0.received a.1 }, same_key_is a.0.key k a.2)

-- what is counted for the destination is so where that may refuse or is down
down_at : (c : CoreConfig) (w : World) → HoldsOf c w → (k : ArrivalKey) → places c w k ≡ counted_under ExporterDown ∷ [] → may_give_up c w.down ≡ true
down_at c w h k e = by_received (is_received w k) refl
  where
    never : (places c w k ≡ []) → may_give_up c w.down ≡ true
    never n = absurd (cc (e, n))

    by_received : (b : Bool) → is_received w k ≡ b → may_give_up c w.down ≡ true
    by_received false r = never (h.one_place.others k r)
    by_received true r =
        let a = lane_of w k r in
        let there : places c w a.0.key ≡ counted_under ExporterDown ∷ [] = ap (places c w) a.2 ∙ e in
        (h.cause a.0 ExporterDown a.1 there).0

-- ---- a released span is out

-- past the release and waiting nowhere
is_out_at : (c : CoreConfig) (w : World) → HoldsOf c w → (a : Arrival) (shard : ℕ) (place : Place) → places c w a.key ≡ place ∷ [] → is_waiting place ≡ false → is_past_release shard place ≡ true → IsOut c w a
is_out_at c w h a shard (unrouted n) e none past = absurd (cc none)
is_out_at c w h a shard (queued n) e none past = absurd (cc none)
is_out_at c w h a shard (buffered n) e none past = absurd (cc none)
is_out_at c w h a shard (unshipped n) e none past = absurd (cc none)
is_out_at c w h a shard exported e none past = absurd (cc none)
is_out_at c w h a shard in_batch e none past = absurd (cc none)
is_out_at c w h a shard handed e none past = inl e
is_out_at c w h a shard (counted_under NoMemory) e none past = inr (inl e)
is_out_at c w h a shard (counted_under ExporterDown) e none past = inr (inr (e, down_at c w h a.key e))
is_out_at c w h a shard (counted_under InvalidId) e none past = absurd (cc past)
is_out_at c w h a shard (counted_under QueueFull) e none past = absurd (cc past)
is_out_at c w h a shard (counted_under Evicted) e none past = absurd (cc past)
is_out_at c w h a shard (counted_under NotSampled) e none past = absurd (cc past)
is_out_at c w h a shard (counted_under LateNotSampled) e none past = absurd (cc past)

-- a buffered place is one at which a span waits
past_or_buffered : (shard : ℕ) (due : Bool) (place : Place) → is_where shard due is_released place ≡ true → is_waiting place ≡ false → is_past_release shard place ≡ true
past_or_buffered shard due (buffered n) e none = absurd (cc none)
past_or_buffered shard due (unrouted n) e none = absurd (cc none)
past_or_buffered shard due (queued n) e none = absurd (cc none)
past_or_buffered shard due (unshipped n) e none = absurd (cc none)
past_or_buffered shard due exported e none = absurd (cc none)
past_or_buffered shard due in_batch e none = absurd (cc none)
past_or_buffered shard due handed e none = refl
past_or_buffered shard true (counted_under r) e none = without (is_past_release shard (counted_under r)) e
  where
    without : (b : Bool) → (b || (true && false)) ≡ true → b ≡ true
    without true e = refl
    without false e = cc e
past_or_buffered shard false (counted_under r) e none = without (is_past_release shard (counted_under r)) e
  where
    without : (b : Bool) → (b || (false && false)) ≡ true → b ≡ true
    without true e = refl
    without false e = cc e

released_is_out : (c : CoreConfig) (w : World) → HoldsOf c w → IsClosed c w → (t : TakenSpan w) → fate_of c w t ≡ is_released → IsOut c w t.arrival
released_is_out c w h closed t f =
    let p = h.fits t in
    let none = gone_place c w t.arrival.key p.0 closed p.1 in
    let there : is_where t.shard (has_due (settings c w) t.of) is_released p.0 ≡ true = ap (λ (x : Fate). is_where t.shard (has_due (settings c w) t.of) x p.0) (sym f) ∙ p.2 in
    is_out_at c w h t.arrival t.shard p.0 p.1 none (past_or_buffered t.shard (has_due (settings c w) t.of) p.0 there none)

-- ---- the spans of decisions to sample

-- each span of such a decision is released
abbrev Releases : Settings → Journal → Decision → Type 0
Releases s J d = d.verdict ≡ Sampled → Each (IsReleased s J) d.spans

-- an element of a list stands at a place of it
each_at : {X : Type 0} (P : X → Type 0) (xs : List X) → ((i : ℕ) (x : X) → slice_get xs i ≡ Some x → P x) → Each P xs
each_at P [] f = tt
each_at P (x ∷ xs) f = (f 0 x refl, each_at P xs (λ i y e. f (suc i) y e))

all_release : (s : Settings) → HasRoom s.num_traces → (J : Journal) → Each (Releases s J) (notes s J).decisions
unfolding notes
all_release s room [] = tt
all_release s room (e ∷ J) =
    Each-append (Releases s (e ∷ J)) (reverse (decisions_now s (e ∷ J))) (after_item s e J e.item (notes s J)).decisions
    (Each-reverse (Releases s (e ∷ J)) (decisions_now s (e ∷ J)) (each_at (Releases s (e ∷ J)) (decisions_now s (e ∷ J)) (λ i d there sampled.
    subst (λ (v : Verdict). Each (IsReleased s (e ∷ J)) (effect_of_verdict NotSampled d.spans v).released) sampled (released_by_decision s room (e ∷ J) i d there))))
    (subst (λ (ds : List Decision). Each (Releases s (e ∷ J)) ds) (sym (same_decisions s e J e.item (notes s J)))
    (Each-weaker (Releases s J) (Releases s (e ∷ J)) (notes s J).decisions (λ d h sampled. Each-weaker (IsReleased s J) (IsReleased s (e ∷ J)) d.spans (released_later s room J e) (h sampled)) (all_release s room J)))

-- ---- the laws

-- a released span is taken, with that fate
taken_of : (c : CoreConfig) (w : World) → HoldsOf c w → IsClosed c w → (shard : ℕ) (sh : CoreShard) → slice_get w.shards shard ≡ Some sh → (a : Arrival) → IsReleased (settings c w) sh.journal a → IsOut c w a
taken_of c w h closed shard sh g a r =
    released_is_out c w h closed (record { shard = shard; of = sh; in_world = g; arrival = a; ids = r.ids; valid = r.valid; refused = false; lost = r.lost; answers = r.given; later = r.later; before = r.before; split = r.split }) r.holds

pub sampled_comes_out : OfEachRun SampledComesOut
sampled_comes_out c lanes shards steps w room run closed shard sh g d k sampled a l =
    let s = settings c w in
    let released = Each-split (Releases (settings c w) sh.journal) d (notes (settings c w) sh.journal).decisions (contains_split (notes (settings c w) sh.journal).decisions d k) (all_release (settings c w) room sh.journal) sampled in
    taken_of c w (headline c lanes shards steps w room run) closed shard sh g a (Each-split (IsReleased (settings c w) sh.journal) a d.spans (contains_split d.spans a l) released)

pub late_follows_out : OfEachRun LateFollowsOut
late_follows_out c lanes shards steps w room run closed t met =
    let h = headline c lanes shards steps w room run in
    let p = (h.remembered t Sampled met).1 in
    is_out_at c w h t.arrival t.shard p.0 p.1 (gone_place c w t.arrival.key p.0 closed p.1) p.2
