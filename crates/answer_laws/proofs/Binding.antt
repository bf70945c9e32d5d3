-- Each span of a request that was answered 200 has its end, and the reply tells how many are counted at its lane.
-- For the law `answers_bind`.
use Rattle.std.proofs.Common.{◌≡◌, ℕ, ◌+◌, ◌<◌, Bool, true, false, not, ◌&&◌, cond, List, [], ◌∷◌, ◌++◌, length, map, filter, is_some, is_none, slice_get, Option, Some, None, All, inl, inr, refl, sym, ap, subst, ◌∙◌, arith}
use Rattle.std.specs.Prelude.{Contains}
use Rattle.std.proofs.lemmas.Option.{slice_get_within, get_or_from_slice_get}
use Rattle.span_ids.specs.Route.{shard_of}
use Rattle.span_ids.specs.declared.keys.ConnKey.{ConnKey}
use Rattle.span_ids.specs.declared.outcome.Reason.TheVariants.{InvalidId, QueueFull}
use Rattle.otlp_types.specs.declared.arrival.Arrival.{Arrival}
use Rattle.otlp_types.specs.declared.arrival.Item.{Item}
use Rattle.otlp_types.specs.declared.arrival.Item.TheVariants.{Span}
use Rattle.otlp_types.specs.declared.request.Request.{Request}
use Rattle.otlp_types.specs.declared.span.Ids.{Ids}
use Rattle.otlp_request.specs.Reads.{Reads}
use Rattle.otlp_request.proofs.Bodies.{one_request}
use Rattle.otlp_flatten.specs.Flat.{records_of}
use Rattle.otlp_reply.specs.Bodies.{status_of}
use Rattle.lane_queue.specs.Ends.{EndState, TakesItem, IsRefused, IsNew}
use Rattle.lane_seq.specs.Numbers.{arrivals_from, is_invalid}
use Rattle.lane_seq.specs.Replies.{IsReplyTo, OnReceived}
use Rattle.lane_seq.specs.Pushes.{Receives, PushesAll}
use Rattle.lane_seq.specs.declared.reply.Reply.{Reply}
use Rattle.lane_seq.specs.declared.reply.Reply.TheVariants.{Done, Partial, BadData, Busy}
use Rattle.http_text.specs.declared.allowed.Allowed.{Allowed}
use Rattle.http_lane.specs.Connection.{Submission}
use Rattle.lane_turns.specs.declared.serving.Next.{Next}
use Rattle.lane_turns.specs.declared.serving.Done.{Done as Told}
use Rattle.lane_turns.specs.Acts.{Act, had}
use Rattle.lane_worker.specs.Serving.{lane_at}
use Rattle.run_weave.specs.Workers.{zeros}
use Rattle.run_weave.specs.Lanes.{Came}
use Rattle.run_weave.specs.Received.{ActsLog}
use Rattle.journal_theory.proofs.ListFacts.{Each, Each-weaker, Split}
use Rattle.world_theory.specs.World.{CoreConfig, World}
use Rattle.world_theory.specs.Places.{Place, is_waiting, unrouted, queued, buffered, unshipped, exported, in_batch, handed, counted_under, places, IsClosed}
use Rattle.world_theory.specs.Headline.{WasReceived, was_taken, HoldsOf}
use Rattle.world_theory.proofs.Dealing.{Split-each}
use Rattle.world_theory.proofs.Routing.{some_read}
use Rattle.world_theory.proofs.Single.{one_long, split_contains}
use Rattle.span_weave.specs.Threads.{Threads, pushed_in, ExporterMade, Meets}
use Rattle.span_weave.specs.Woven.{HoldsOfThreads}
use Rattle.core_laws.specs.Untaken.{is_counted_as, IsCountedUntaken}
use Rattle.core_laws.proofs.Found.{received_key}
use Rattle.core_laws.proofs.Out.{gone_place}
use Rattle.core_laws.proofs.Untaken.{counted_untaken}
use Rattle.answer_laws.specs.Answers.{HasItsEnd, Binds, AnswersBind}
use Rattle.answer_laws.proofs.Ports.{Ports, Has, grew_none, Tells, counts_refused}
use Rattle.answer_laws.proofs.Journals.{was_received, came_once, pushed_was_taken, taken_was_pushed}
use Rattle.answer_laws.proofs.Coming.{HasCome, within, come_by}

-- ---- a received span has its end

gone : (c : CoreConfig) (w : World) (a : Arrival) (place : Place) → places c w a.key ≡ place ∷ [] → is_waiting place ≡ false → HasItsEnd c w a
gone c w a (unrouted n) e h = absurd (cc h)
gone c w a (queued n) e h = absurd (cc h)
gone c w a (buffered n) e h = absurd (cc h)
gone c w a (unshipped n) e h = absurd (cc h)
gone c w a exported e h = absurd (cc h)
gone c w a in_batch e h = absurd (cc h)
gone c w a handed e h = inl e
gone c w a (counted_under reason) e h = inr (reason, e)

has_its_end : (c : CoreConfig) (w : World) → HoldsOf c w → IsClosed c w → (a : Arrival) → WasReceived w a → HasItsEnd c w a
has_its_end c w h closed a got =
    let one = one_long (places c w a.key) (h.one_place.received a.key (received_key w a got)) in
    gone c w a one.0 one.1 (gone_place c w a.key one.0 closed one.1)

-- ---- a lane's counts, by its ports

no_item : (x : Item) → Contains [] x → ⊥
no_item x k = absurd (omega (arith, k.1))

-- a new port has nothing
new_has_none : (first : Ports) → All IsNew first → (shard : ℕ) (a : Arrival) → Has first shard a → ⊥
new_has_none first new shard a h =
    let at = get_or_from_slice_get first shard h.0 h.0 h.1 in
    let none : h.0.items ≡ [] = subst (λ (p : EndState Item). IsNew p) at (new shard h.0 (slice_get_within first shard h.0 h.1)) in
    no_item (Span a) (subst (λ (z : List Item). Contains z (Span a)) none h.2)

module _ (c : CoreConfig) (lanes shards : ℕ) (t : Threads) (end : ExporterMade) (meets : Meets c lanes shards t end) (h : HoldsOfThreads c lanes shards t end) (lane : ℕ) (below : lane < lanes) where
  abbrev w : World
  w = h.woven.after

  abbrev full : Arrival → Bool
  full a = is_counted_as c w QueueFull a

  of_untaken : (a : Arrival) → Contains (t.received lane) a → IsCountedUntaken c w a
  of_untaken a k = counted_untaken c w h.headline a (was_received c lanes shards t end meets h lane below a k) h.woven.closed

  module _ (capacity : ℕ) (first last : Ports) (new : All IsNew first) (many : length first ≡ shards) (same : length last ≡ length first)
      (pushed : (shard : ℕ) (p : EndState Item) → slice_get last shard ≡ Some p → p.items ≡ map (λ b. Span b) (pushed_in (t.tries lane shard))) where
    -- a span at the last port of its shard was taken
    found : (a : Arrival) (ids : Ids) → Contains (t.received lane) a → a.rec.span.ids ≡ Some ids → Has last (shard_of ids.trace shards) a → full a ≡ false
    found a ids k e there =
        let put = subst (λ (z : List Item). Contains z (Span a)) (pushed (shard_of ids.trace shards) there.0 there.1) there.2 in
        let in_range : shard_of ids.trace shards < shards = omega (arith, same, many, slice_get_within last (shard_of ids.trace shards) there.0 there.1) in
        let taken = pushed_was_taken c lanes shards t end meets h lane below (shard_of ids.trace shards) in_range a put in
        (of_untaken a k).full ∙ (ap (λ (i : Option Ids). is_some i && not (was_taken w a.key)) e ∙ ap not taken)

    -- one that isn't there was not
    absent : (a : Arrival) (ids : Ids) → Contains (t.received lane) a → a.rec.span.ids ≡ Some ids → (Has last (shard_of ids.trace shards) a → ⊥) → full a ≡ true
    absent a ids k e nowhere = (of_untaken a k).full ∙ (ap (λ (i : Option Ids). is_some i && not (was_taken w a.key)) e ∙ ap not (go (was_taken w a.key) refl))
      where
        go : (b : Bool) → was_taken w a.key ≡ b → was_taken w a.key ≡ false
        go false is = is
        go true is =
            let put = taken_was_pushed c lanes shards t end meets h lane below a k ids e is in
            let port = some_read last (shard_of ids.trace shards) (omega (arith, same, many, put.0)) in
            absurd (nowhere (port.0, port.1, subst (λ (z : List Item). Contains z (Span a)) (sym (pushed (shard_of ids.trace shards) port.0 port.1)) put.1))

    pub lane_tells : Tells capacity first last (t.received lane) full
    lane_tells = record {
      none_at_first = new_has_none first new;
      once = came_once c lanes shards t end meets h lane below;
      invalid = λ a k e. (of_untaken a k).full ∙ ap (λ (i : Option Ids). is_some i && not (was_taken w a.key)) e;
      found = λ a ids k e there. found a ids k e (subst (λ (n : ℕ). Has last (shard_of ids.trace n) a) many there);
      absent = λ a ids k e nowhere. absent a ids k e (λ there. nowhere (subst (λ (n : ℕ). Has last (shard_of ids.trace n) a) (sym many) there));
    }

-- ---- the law

filter_same : {X : Type 0} (p q : X → Bool) (xs : List X) → Each (λ x. p x ≡ q x) xs → filter p xs ≡ filter q xs
filter_same p q [] h = refl
filter_same {X} p q (x ∷ xs) h = ap (λ b. cond b (x ∷ filter p xs) (filter p xs)) h.0 ∙ ap (λ (zs : List X). cond (q x) (x ∷ zs) zs) (filter_same p q xs h.1)

none_is_not_some : (ids : Option Ids) → not (is_some ids) ≡ is_none ids
none_is_not_some None = refl
none_is_not_some (Some ids) = refl

module _ (c : CoreConfig) (w : World) (capacity : ℕ) (keeps_doubles : Bool) (key : ConnKey) (s : Submission) (first last : Ports) (received : List Arrival) (come : HasCome capacity keeps_doubles key s first last received)
    (each : (a : Arrival) → Contains received a → HasItsEnd c w a × IsCountedUntaken c w a) (tells : Tells capacity first last received (is_counted_as c w QueueFull)) where
  -- the spans of this request of the body, by its connection
  abbrev spans_of : Request → List Arrival
  spans_of r = arrivals_from come.old.conn.key come.old.conn.next s.moment (records_of r)

  of_came : (a : Arrival) → Contains come.came a → HasItsEnd c w a × IsCountedUntaken c w a
  of_came a k = each a (within capacity keeps_doubles key s first last received come a k)

  same_invalid : filter (is_counted_as c w InvalidId) come.came ≡ filter is_invalid come.came
  same_invalid = filter_same (is_counted_as c w InvalidId) is_invalid come.came (Each-weaker (λ (a : Arrival). Split a come.came) (λ (a : Arrival). is_counted_as c w InvalidId a ≡ is_invalid a) come.came
      (λ a p. (of_came a (split_contains a come.came p)).1.invalid ∙ none_is_not_some a.rec.span.ids) (Split-each come.came))

  abbrev Received : Request → Type 0
  Received r = Receives (TakesItem capacity) (IsRefused capacity) (spans_of r) come.old.lane.ports s.reply come.new.lane.ports

  bound : (r : Request) → Reads s.encoding come.old.lane.keeps_doubles s.body r → come.came ≡ spans_of r → (q : Request) → Reads s.encoding come.old.lane.keeps_doubles s.body q → Received q → Binds c w keeps_doubles key s
  bound r reads came q again f =
      let same = one_request s.encoding come.old.lane.keeps_doubles s.body q r again reads in
      let spans_are : spans_of q ≡ come.came = ap spans_of same ∙ sym came in
      let pushed = subst (λ (xs : List Arrival). PushesAll (TakesItem capacity) (IsRefused capacity) xs come.old.lane.ports f.refused come.new.lane.ports) spans_are f.pushed in
      let refused = counts_refused capacity first last received (is_counted_as c w QueueFull) tells come.sooner come.came come.later come.old.lane.ports come.new.lane.ports f.refused come.received_is come.before_it pushed come.behind_it in
      let told = subst (λ (xs : List Arrival). IsReplyTo (length xs) (length (filter is_invalid xs)) f.refused s.reply) spans_are f.replied in
      record {
        spans = come.came;
        of_request = record {
          request = r;
          reads = subst (λ (b : Bool). Reads s.encoding b s.body r) come.doubles reads;
          number = come.old.conn.next;
          are = came ∙ ap (λ (k : ConnKey). arrivals_from k come.old.conn.next s.moment (records_of r)) come.key_is;
        };
        each = λ a k. (of_came a k).0;
        invalid = same_invalid;
        told = subst (λ (n : ℕ). IsReplyTo (length come.came) (length (filter (is_counted_as c w InvalidId) come.came)) n s.reply) refused
            (subst (λ (xs : List Arrival). IsReplyTo (length come.came) (length xs) f.refused s.reply) (sym same_invalid) told);
      }

  abbrev Taken : Type 0
  Taken = (request : Request) × Reads s.encoding come.old.lane.keeps_doubles s.body request × Received request
      × (come.new.conn ≡ record come.old.conn { next = come.old.conn.next + length (spans_of request) })

  by_reply : (x : Reply) → Came come.old s x come.came → OnReceived x Taken → status_of x ≡ 200 → Binds c w keeps_doubles key s
  by_reply (Done n) h f e = bound h.0 h.1 h.2 f.0 f.1 f.2
  by_reply (Partial n i u) h f e = bound h.0 h.1 h.2 f.0 f.1 f.2
  by_reply (BadData why) h f e = absurd (omega (arith, e))
  by_reply Busy h f e = absurd (omega (arith, e))

  binds : status_of s.reply ≡ 200 → Binds c w keeps_doubles key s
  binds = by_reply s.reply come.of_reply come.taken.received

pub answers_bind : {V D : Type 0} (allowed_of : V → Allowed) (driver_of : V → D) (asks : D → Next → ℕ → List ℕ → D → Type 0) (hears : D → Told → List ℕ → D → Type 0) → AnswersBind allowed_of driver_of asks hears
answers_bind allowed_of driver_of asks hears c lanes shards t end meets h keeps_doubles capacity lane server is_full below ran r ok =
    let acts = ran.came.0 in
    let start = lane_at (record { number = lane; connected = 0; ports = ran.first; keeps_doubles = keeps_doubles }) zeros in
    let logged : ActsLog capacity lane start [] (r.earlier ++ had r.ordinal r.before r.after r.turn ∷ r.later) ran.after (t.received lane) =
    subst (λ (xs : List Act). ActsLog capacity lane start [] xs ran.after (t.received lane)) r.acts_are acts.logged in
    let come = come_by capacity lane keeps_doubles ran.first start [] ran.after (t.received lane) r.earlier r.ordinal r.before r.after r.turn r.later r.sooner r.request r.rest logged r.requests_are refl (grew_none ran.first) in
    let same = come.behind_it.same_length ∙ (come.taken.ports ∙ come.before_it.same_length) in
    binds c h.woven.after capacity keeps_doubles (record { lane = lane; ordinal = r.ordinal }) r.request ran.first ran.after.lane.ports (t.received lane) come
    (λ a k.
    let got = was_received c lanes shards t end meets h lane below a k in
    (has_its_end c h.woven.after h.headline h.woven.closed a got, counted_untaken c h.woven.after h.headline a got h.woven.closed))
    (lane_tells c lanes shards t end meets h lane below capacity ran.first ran.after.lane.ports ran.new_ends ran.end_count same ran.pushed) ok
