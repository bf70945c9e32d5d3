-- What a lane received, its tries and its counts go on with each request and each connection.
-- For the law of `Worked`.
use Rattle.std.proofs.Common.{◌≡◌, ℕ, ◌+◌, ◌^◌, ◌<◌, ◌≤◌, ◌==◌, ◌&&◌, ◌||◌, Bool, true, false, not, cond, List, [], ◌∷◌, ◌++◌, length, filter, count_by, is_none, is_some, Option, Some, None, MatchBool, refl, sym, ap, subst, ◌∙◌, arith, append-nil, length-append, eq-eqb, ne_eqb, inl, inr}
use Rattle.std.proofs.lemmas.List.Elements.{filter-append}
use Rattle.std.proofs.lemmas.List.Sums.{sum_by-cons}
use Rattle.std.specs.Prelude.{if◌then◌else◌, slice_index}
use Rattle.std.proofs.lemmas.List.{get_or-set_other}
use Rattle.otlp_request.specs.Reads.{Reads}
use Rattle.otlp_flatten.specs.Flat.{records_of}
use Rattle.otlp_types.specs.declared.request.Request.{Request}
use Rattle.otlp_types.specs.declared.arrival.Record.{Record}
use Rattle.otlp_types.specs.declared.arrival.Arrival.{Arrival}
use Rattle.otlp_types.specs.declared.arrival.Item.{Item}
use Rattle.otlp_types.specs.declared.span.Ids.{Ids}
use Rattle.span_ids.specs.declared.keys.ConnKey.{ConnKey}
use Rattle.span_ids.specs.declared.outcome.Reason.TheVariants.{InvalidId, QueueFull}
use Rattle.drop_ledger.specs.declared.count.Count.{Count}
use Rattle.drop_ledger.specs.declared.count.Count.TheVariants.{Received, Dropped}
use Rattle.drop_ledger.specs.Places.{place_of, with_added, Addition, after_adding, added_to, Gains}
use Rattle.drop_ledger.proofs.Gains.{gains_both, gains_one}
use Rattle.drop_ledger.proofs.EachCount.{each_count}
use Rattle.lane_queue.specs.Ends.{EndState, TakesItem, IsRefused}
use Rattle.lane_queue.specs.Histories.{pushes, pops}
use Rattle.lane_queue.proofs.Steps.{popped_then_held}
use Rattle.lane_seq.specs.declared.preparing.Conn.{Conn}
use Rattle.lane_seq.specs.declared.reply.Reply.{Reply}
use Rattle.lane_seq.specs.declared.reply.Reply.TheVariants.{Done, Partial, BadData, Busy}
use Rattle.lane_seq.specs.Numbers.{arrival_of, arrivals_from, is_invalid}
use Rattle.lane_seq.specs.Pushes.{LaneState, Receives}
use Rattle.lane_seq.specs.Replies.{IsRefusal, OnReceived, IsReplyTo}
use Rattle.http_lane.specs.Connection.{Submission, SubmitsAll, submissions, events_of}
use Rattle.http_lane.specs.declared.answer.ServeEnd.{ServeEnd}
use Rattle.http_lane.specs.Intake.{Intake, Submits, intake, first_conn, connected}
use Rattle.lane_seq.specs.Counting.{StopsAtFull, Counts, additions_of}
use Rattle.lane_worker.specs.Serving.{Connection, LaneAt, ServedOne, ServesAll, is_overflow}
use Rattle.journal_theory.proofs.ListFacts.{Each, Each-append, Each-weaker, tally-append}
use Rattle.world_theory.specs.Step.{has_ids, is_of_conn, arrivals}
use Rattle.world_theory.proofs.Received.{on_conn, count_is}
use Rattle.span_weave.specs.Threads.{AreNumbered}
use Rattle.span_weave.proofs.Numbering.{numbers_go_on}
use Rattle.span_weave.proofs.Tries.{pushes_are_tries, tries_then}
use Rattle.run_weave.specs.Lanes.{LaneLog, log, Came, Logs, ReceivesOne, ReceivesAll}
use Rattle.run_weave.specs.Workers.{zeros}
use Rattle.run_weave.specs.Received.{Tallied, lane_gains, Keeps}
use Rattle.run_weave.proofs.Counted.{any_uncounted, full_as_uncounted}
use Rattle.run_weave.proofs.Tallied.{gained_there}
use Rattle.run_weave.proofs.NeverFull.{all_wait}

-- ---- what a lane counts

gains_append : (xs ys : List Arrival) (first others : ℕ) (count : Count) → lane_gains (xs ++ ys) (first + others) count ≡ lane_gains xs first count + lane_gains ys others count
gains_append xs ys first others = each_count (λ count. lane_gains (xs ++ ys) (first + others) count ≡ lane_gains xs first count + lane_gains ys others count) (length-append xs ys) refl
    (ap (λ (z : List Arrival). length z) (filter-append (λ a. not (has_ids a)) xs ys) ∙ length-append (filter (λ a. not (has_ids a)) xs) (filter (λ a. not (has_ids a)) ys)) refl refl refl refl refl refl

-- a span has no valid ids in the words of lanes, and in those of the core
same_invalid : (xs : List Arrival) → length (filter is_invalid xs) ≡ length (filter (λ a. not (has_ids a)) xs)
same_invalid [] = refl
same_invalid (a ∷ xs) = go a.rec.span.ids (same_invalid xs)
  where
    go : (ids : Option Ids) → length (filter is_invalid xs) ≡ length (filter (λ a. not (has_ids a)) xs)
        → length (cond (is_none ids) (a ∷ filter is_invalid xs) (filter is_invalid xs)) ≡ length (cond (not (is_some ids)) (a ∷ filter (λ a. not (has_ids a)) xs) (filter (λ a. not (has_ids a)) xs))
    go None e = omega (arith, e)
    go (Some ids) e = e

-- additions of what was received and of the two reasons of a lane
added : (n i f : ℕ) (count : Count) → added_to count (record { count = Received; spans = n } ∷ record { count = Dropped InvalidId; spans = i } ∷ record { count = Dropped QueueFull; spans = f } ∷ [])
    ≡ cond (place_of Received == place_of count) n 0 + (cond (place_of (Dropped InvalidId) == place_of count) i 0 + cond (place_of (Dropped QueueFull) == place_of count) f 0)
added n i f count = omega (
  arith,
  sum_by-cons g (record { count = Received; spans = n }) (record { count = Dropped InvalidId; spans = i } ∷ record { count = Dropped QueueFull; spans = f } ∷ []),
  sum_by-cons g (record { count = Dropped InvalidId; spans = i }) (record { count = Dropped QueueFull; spans = f } ∷ []),
  sum_by-cons g (record { count = Dropped QueueFull; spans = f }) [],
)
  where
    g : Addition → ℕ
    g a = if place_of a.count == place_of count then a.spans else 0

reply_gains : (came : List Arrival) (refused : ℕ) (reply : Reply) (old new : List ℕ) → IsReplyTo (length came) (length (filter is_invalid came)) refused reply → Counts reply true old new → Gains (lane_gains came refused) old new
reply_gains came refused (Done n) old new is counted = gains_one Received n (lane_gains came refused) old new all counted
  where
    all : (other : Count) → lane_gains came refused other ≡ cond (place_of Received == place_of other) n 0
    all = each_count (λ other. lane_gains came refused other ≡ cond (place_of Received == place_of other) n 0) (sym is.0) refl
        (let none : length (filter is_invalid came) ≡ 0 = omega (arith, is.1) in sym (same_invalid came) ∙ none) (omega (arith, is.1)) refl refl refl refl refl
reply_gains came refused (Partial n i f) old new is counted = (additions_of (Partial n i f), counted, λ count. added n i f count ∙ all count)
  where
    all : (other : Count) → cond (place_of Received == place_of other) n 0 + (cond (place_of (Dropped InvalidId) == place_of other) i 0 + cond (place_of (Dropped QueueFull) == place_of other) f 0) ≡ lane_gains came refused other
    all = each_count (λ other. cond (place_of Received == place_of other) n 0 + (cond (place_of (Dropped InvalidId) == place_of other) i 0 + cond (place_of (Dropped QueueFull) == place_of other) f 0) ≡ lane_gains came refused other)
        (omega (arith, is.0)) refl (omega (arith, is.1, same_invalid came)) (omega (arith, is.2)) refl refl refl refl refl
reply_gains came refused (BadData cause) old new is counted = absurd is
reply_gains came refused Busy old new is counted = absurd is

-- another number is as it was
elsewhere : (count other : Count) (n : ℕ) (numbers : List ℕ) → (place_of other ≡ place_of count → ⊥) → slice_index (with_added count n numbers) (place_of other) ≡ slice_index numbers (place_of other)
elsewhere count other n numbers apart = get_or-set_other numbers (place_of count) (place_of other) (slice_index numbers (place_of count) + n) 0 apart

-- where a number would have passed, it does so with all that came
reply_passes : (came : List Arrival) (refused : ℕ) (reply : Reply) (old new : List ℕ) → IsReplyTo (length came) (length (filter is_invalid came)) refused reply → StopsAtFull (additions_of reply) old new
    → (count : Count) × (2 ^ 64 ≤ slice_index old (place_of count) + lane_gains came refused count)
reply_passes came refused (Done n) old new is (inl h) = (Received, omega (arith, h.0, is.0))
reply_passes came refused (Done n) old new is (inr h) = absurd h
reply_passes came refused (Partial n i f) old new is (inl h) = (Received, omega (arith, h.0, is.0))
reply_passes came refused (Partial n i f) old new is (inr (inl h)) =
    (Dropped InvalidId, omega (arith, h.0, is.1, same_invalid came, elsewhere Received (Dropped InvalidId) n old (λ e. absurd (omega (arith, e)))))
reply_passes came refused (Partial n i f) old new is (inr (inr (inl h))) = (
  Dropped QueueFull,
  omega (
    arith,
    h.0,
    is.2,
    elsewhere (Dropped InvalidId) (Dropped QueueFull) i (with_added Received n old) (λ e. absurd (omega (arith, e))),
    elsewhere Received (Dropped QueueFull) n old (λ e. absurd (omega (arith, e))),
  ),
)
reply_passes came refused (Partial n i f) old new is (inr (inr (inr h))) = absurd h
reply_passes came refused (BadData cause) old new is h = absurd is
reply_passes came refused Busy old new is h = absurd is

-- ---- the arrivals of a request

same_arrivals : (conn : ConnKey) (next moment : ℕ) (records : List Record) → arrivals conn next moment records ≡ arrivals_from conn next moment records
same_arrivals conn next moment [] = refl
same_arrivals conn next moment (r ∷ rest) = ap (λ (z : List Arrival). arrival_of conn next moment r ∷ z) (same_arrivals conn (next + 1) moment rest)

pub on_their_conn : (conn : ConnKey) (next moment : ℕ) (records : List Record) → Each (λ (a : Arrival). a.key.conn ≡ conn) (arrivals_from conn next moment records)
on_their_conn conn next moment [] = tt
on_their_conn conn next moment (r ∷ rest) = (refl, on_their_conn conn (next + 1) moment rest)

is_own : (conn : ConnKey) (a : Arrival) → a.key.conn ≡ conn → is_of_conn conn a ≡ true
is_own conn a e = ap (λ (c : ConnKey). (c.lane == conn.lane) && (c.ordinal == conn.ordinal)) e ∙ (ap (λ (b : Bool). b && (conn.ordinal == conn.ordinal)) (eq-eqb conn.lane conn.lane refl) ∙ eq-eqb conn.ordinal conn.ordinal refl)

all_own : (conn : ConnKey) (xs : List Arrival) → Each (λ (a : Arrival). a.key.conn ≡ conn) xs → on_conn conn xs ≡ length xs
all_own conn [] h = refl
all_own conn (a ∷ xs) h = omega (arith, all_own conn xs h.1, ap (λ (b : Bool). cond {A = ℕ} b 1 0) (is_own conn a h.0))

-- spans of earlier connections are not of this one
none_own : (conn : ConnKey) (xs : List Arrival) → Each (λ (a : Arrival). a.key.conn.ordinal < conn.ordinal) xs → on_conn conn xs ≡ 0
none_own conn [] h = refl
none_own conn (a ∷ xs) h = omega (arith, none_own conn xs h.1, ap (λ (b : Bool). cond {A = ℕ} b 1 0) (other ((a.key.conn.lane) == conn.lane)))
  where
    apart : (a.key.conn.ordinal == conn.ordinal) ≡ false
    apart = ne_eqb a.key.conn.ordinal conn.ordinal (λ e. absurd (omega (arith, h.0, e)))

    other : (b : Bool) → (b && (a.key.conn.ordinal == conn.ordinal)) ≡ false
    other true = apart
    other false = refl

-- ---- pushes

grows : (capacity : ℕ) (p q : EndState Item) (item : Item) → TakesItem capacity p item q → q.items ≡ p.items ++ item ∷ []
grows capacity p q item h = ap (λ (e : EndState Item). e.items) h.1

stays : (capacity : ℕ) (p q : EndState Item) → IsRefused capacity p q → q.items ≡ p.items
stays capacity p q h = ap (λ (e : EndState Item). e.items) h.1

-- a queue is full behind as many pushes as it may hold, at least
fills : (capacity : ℕ) (p q : EndState Item) → IsRefused capacity p q → capacity ≤ length p.items
fills capacity p q h =
    let full = h.0 in
    let all : pushes full.0 ≡ pops full.0 ++ full.1 = popped_then_held capacity full.0 full.1 full.2 in
    omega (arith, full.3, ap (λ (z : List Item). length z) (sym all ∙ full.4), length-append (pops full.0) full.1)

pub or_false : (b : Bool) → (b || false) ≡ b
or_false true = refl
or_false false = refl

pub or_assoc : (a b c : Bool) → ((a || b) || c) ≡ (a || (b || c))
or_assoc true b c = refl
or_assoc false b c = refl

-- ---- one request

module _ (capacity number : ℕ) (first : List (EndState Item)) where
  -- a lane on a connection
  pub record OnConn (is_full : Bool) (x : LaneLog) : Type 0 where
    pub keeps : Keeps capacity number first is_full x.received x.at.lane.ports x.at.counted
    pub lane_is : x.at.lane.number ≡ number
    pub key_is : x.at.conn.key.lane ≡ number
    pub next_is : x.at.conn.next ≡ count_by (is_of_conn x.at.conn.key) x.received
    pub current : x.at.conn.key.ordinal < x.at.lane.connected
    pub below : Each (λ (a : Arrival). a.key.conn.ordinal < x.at.lane.connected) x.received

  -- the spans of a request came
  receives : (is_full : Bool) (old : LaneLog) (moment : ℕ) (records : List Record) (reply : Reply) (is_counted : Bool) (new : Intake (EndState Item)) → OnConn is_full old
      → new.lane ≡ record old.at.lane { ports = new.lane.ports }
      → Receives (TakesItem capacity) (IsRefused capacity) (arrivals_from old.at.conn.key old.at.conn.next moment records) old.at.lane.ports reply new.lane.ports
      → new.conn ≡ record old.at.conn { next = old.at.conn.next + length (arrivals_from old.at.conn.key old.at.conn.next moment records) }
      → Counts reply is_counted old.at.counted new.counted
      → OnConn (is_full || not is_counted) (log new (old.received ++ arrivals_from old.at.conn.key old.at.conn.next moment records))
  receives is_full old moment records reply is_counted new o lane r conn counts = record {
    keeps = record {
      refused = k.refused + r.refused;
      numbered = subst (λ (z : List Arrival). AreNumbered number (old.received ++ z)) (ap (λ n. arrivals key n moment records) (sym o.next_is) ∙ same_arrivals key old.at.conn.next moment records)
          (subst (λ n. AreNumbered n (old.received ++ arrivals key (count_by (is_of_conn key) old.received) moment records)) o.key_is
          (numbers_go_on key moment records old.received (subst (λ n. AreNumbered n old.received) (sym o.key_is) k.numbered)));
      tries = tries_then capacity (λ (e : EndState Item). e.items) old.received came first old.at.lane.ports new.lane.ports k.refused r.refused k.tries
          (pushes_are_tries (TakesItem capacity) (IsRefused capacity) capacity (λ (e : EndState Item). e.items) (grows capacity) (stays capacity) (fills capacity) came old.at.lane.ports r.refused new.lane.ports r.pushed);
      counts = more_counted is_full is_counted k.counts counts;
      waiting = λ all.
          let before = k.waiting all in
          let now = all_wait capacity came old.at.lane.ports new.lane.ports r.refused r.pushed before.1 in
          (omega (arith, before.0, now.0), now.1);
    };
    lane_is = ap (λ (l : LaneState (EndState Item)). l.number) lane ∙ o.lane_is;
    key_is = ap (λ (c : Conn). c.key.lane) conn ∙ o.key_is;
    next_is = ap (λ (c : Conn). c.next) conn ∙ (longer ∙ ap (λ (c : ConnKey). count_by (is_of_conn c) (old.received ++ came)) (sym same_key));
    current = subst (λ (c : ConnKey). c.ordinal < new.lane.connected) (sym same_key) (subst (λ n. key.ordinal < n) (sym same_connected) o.current);
    below = subst (λ n. Each (λ (a : Arrival). a.key.conn.ordinal < n) (old.received ++ came)) (sym same_connected)
        (Each-append (λ (a : Arrival). a.key.conn.ordinal < old.at.lane.connected) old.received came o.below
        (Each-weaker (λ (a : Arrival). a.key.conn ≡ key) (λ (a : Arrival). a.key.conn.ordinal < old.at.lane.connected) came (λ a e. subst (λ (c : ConnKey). c.ordinal < old.at.lane.connected) (sym e) o.current) (on_their_conn key old.at.conn.next moment records)));
  }
    where
      k : Keeps capacity number first is_full old.received old.at.lane.ports old.at.counted
      k = o.keeps

      key : ConnKey
      key = old.at.conn.key

      came : List Arrival
      came = arrivals_from key old.at.conn.next moment records

      more_counted : (full counted : Bool) → Tallied full (lane_gains old.received k.refused) old.at.counted → Counts reply counted old.at.counted new.counted → Tallied (full || not counted) (lane_gains (old.received ++ came) (k.refused + r.refused)) new.counted
      more_counted true counted p c = (p.0, omega (arith, p.1, gains_append old.received came k.refused r.refused p.0))
      more_counted false true g c = gains_both (lane_gains old.received k.refused) (lane_gains came r.refused) (lane_gains (old.received ++ came) (k.refused + r.refused)) zeros old.at.counted new.counted
          (gains_append old.received came k.refused r.refused) g (reply_gains came r.refused reply old.at.counted new.counted r.replied c)
      more_counted false false g c =
          let p = reply_passes came r.refused reply old.at.counted new.counted r.replied c in
          (p.0, omega (arith, p.1, gained_there (lane_gains old.received k.refused) old.at.counted p.0 g, gains_append old.received came k.refused r.refused p.0))

      same_key : new.conn.key ≡ key
      same_key = ap (λ (c : Conn). c.key) conn

      same_connected : new.lane.connected ≡ old.at.lane.connected
      same_connected = ap (λ (l : LaneState (EndState Item)). l.connected) lane

      longer : old.at.conn.next + length came ≡ count_by (is_of_conn key) (old.received ++ came)
      longer = omega (arith, o.next_is, count_is key old.received, count_is key (old.received ++ came), tally-append (is_of_conn key) old.received came, all_own key came (on_their_conn key old.at.conn.next moment records))

  -- nothing came of a refused request
  refuses : (is_full : Bool) (old : LaneLog) (new : Intake (EndState Item)) → OnConn is_full old → new.lane ≡ old.at.lane → new.conn ≡ old.at.conn → new.counted ≡ old.at.counted → OnConn is_full (log new (old.received ++ []))
  refuses is_full old new o lane conn counted = subst (OnConn is_full) (sym (ap (λ (at : Intake (EndState Item)). log at (old.received ++ [])) same ∙ ap (λ (z : List Arrival). log old.at z) (append-nil old.received))) o
    where
      same : new ≡ old.at
      same = ap (λ (l : LaneState (EndState Item)). intake l new.conn new.counted) lane ∙ (ap (λ (c : Conn). intake old.at.lane c new.counted) conn ∙ ap (λ (n : List ℕ). intake old.at.lane old.at.conn n) counted)

  -- a refused request adds nothing to the counts, so it is counted
  refused_counted : (is_full : Bool) (old : LaneLog) (s : Submission) (new : Intake (EndState Item)) → additions_of s.reply ≡ [] → OnConn is_full old → new.lane ≡ old.at.lane → new.conn ≡ old.at.conn → Counts s.reply s.is_counted old.at.counted new.counted
      → OnConn (is_full || not s.is_counted) (log new (old.received ++ []))
  refused_counted is_full old s new none o lane conn counts = go s.is_counted counts
    where
      go : (counted : Bool) → Counts s.reply counted old.at.counted new.counted → OnConn (is_full || not counted) (log new (old.received ++ []))
      go true c = subst (λ b. OnConn b (log new (old.received ++ []))) (sym (or_false is_full)) (refuses is_full old new o lane conn (subst (λ (z : List Addition). new.counted ≡ after_adding z old.at.counted) none c))
      go false c = absurd (subst (λ (z : List Addition). StopsAtFull z old.at.counted new.counted) none c)

  takes : (is_full : Bool) (old : LaneLog) (s : Submission) (new : Intake (EndState Item)) → OnConn is_full old → Submits (TakesItem capacity) (IsRefused capacity) old.at s new
      → (came : List Arrival) × Came old.at s s.reply came × OnConn (is_full || not s.is_counted) (log new (old.received ++ came))
  takes is_full old s new o h = go s.reply refl h.received h.refused
    where
      go : (reply : Reply) → s.reply ≡ reply → OnReceived reply ((request : Request) × Reads s.encoding old.at.lane.keeps_doubles s.body request
          × Receives (TakesItem capacity) (IsRefused capacity) (arrivals_from old.at.conn.key old.at.conn.next s.moment (records_of request)) old.at.lane.ports s.reply new.lane.ports
          × (new.conn ≡ record old.at.conn { next = old.at.conn.next + length (arrivals_from old.at.conn.key old.at.conn.next s.moment (records_of request)) }))
          → (IsRefusal reply → (new.lane ≡ old.at.lane) × (new.conn ≡ old.at.conn))
          → (came : List Arrival) × Came old.at s reply came × OnConn (is_full || not s.is_counted) (log new (old.received ++ came))
      go (Done n) is r same = (arrivals_from old.at.conn.key old.at.conn.next s.moment (records_of r.0), (r.0, r.1, refl), receives is_full old s.moment (records_of r.0) s.reply s.is_counted new o h.lane r.2 r.3 h.counts)
      go (Partial n i f) is r same = (arrivals_from old.at.conn.key old.at.conn.next s.moment (records_of r.0), (r.0, r.1, refl), receives is_full old s.moment (records_of r.0) s.reply s.is_counted new o h.lane r.2 r.3 h.counts)
      go (BadData cause) is r same = let kept = same tt in ([], refl, refused_counted is_full old s new (ap additions_of is) o kept.0 kept.1 h.counts)
      go Busy is r same = let kept = same tt in ([], refl, refused_counted is_full old s new (ap additions_of is) o kept.0 kept.1 h.counts)

  -- the requests of a connection
  pub takes_all : (is_full : Bool) (old : LaneLog) (ss : List Submission) (new : Intake (EndState Item)) → OnConn is_full old → SubmitsAll (Submits (TakesItem capacity) (IsRefused capacity)) old.at ss new
      → (received : List Arrival) × SubmitsAll (Logs capacity) old ss (log new received) × OnConn (is_full || any_uncounted ss) (log new received)
  takes_all is_full old [] new o h = (old.received, ap (λ (at : Intake (EndState Item)). log at old.received) h, subst (λ (b : Bool). OnConn b (log new old.received)) (sym (or_false is_full)) (subst (λ (at : Intake (EndState Item)). OnConn is_full (log at old.received)) (sym h) o))
  takes_all is_full old (s ∷ ss) new o h =
      let one = takes is_full old s h.0 o h.1 in
      let more = takes_all (is_full || not s.is_counted) (log h.0 (old.received ++ one.0)) ss new one.2 h.2 in
      (more.0, (log h.0 (old.received ++ one.0), (h.1, one.0, one.1, refl), more.1), subst (λ (b : Bool). OnConn b (log new more.0)) (or_assoc is_full (not s.is_counted) (any_uncounted ss)) more.2)

  -- ---- one connection after the other

  -- a lane between two connections
  pub record Between (is_full : Bool) (at : LaneAt) (received : List Arrival) : Type 0 where
    pub keeps : Keeps capacity number first is_full received at.lane.ports at.counted
    pub lane_is : at.lane.number ≡ number
    pub below : Each (λ (a : Arrival). a.key.conn.ordinal < at.lane.connected) received

  serves_one : (c : Connection) (at : LaneAt) (received : List Arrival) (new : LaneAt) (end : ServeEnd) → Between false at received → ServedOne capacity c at new end
      → (after : List Arrival) × ReceivesOne capacity c at received new after end × Between (is_overflow end) new after
  serves_one c at received new end b h =
      let served = h.3 in
      let does = served.3 in
      let all = takes_all false (log (intake (connected at.lane) (first_conn at.lane) at.counted) received) (submissions (events_of served.0)) (intake new.lane h.0 new.counted) begin does.3 in
      let on = subst (λ (full : Bool). OnConn full (log (intake new.lane h.0 new.counted) all.0)) (full_as_uncounted c.reader.allowed served.0 end served.1) all.2 in
      (all.0, (h.0, h.1, h.2, (served.0, served.1, served.2, (does.0, does.1, does.2, all.1))), record { keeps = on.keeps; lane_is = on.lane_is; below = on.below })
    where
      begin : OnConn false (log (intake (connected at.lane) (first_conn at.lane) at.counted) received)
      begin = record {
        keeps = b.keeps;
        lane_is = b.lane_is;
        key_is = b.lane_is;
        next_is = sym (none_own (record { lane = at.lane.number; ordinal = at.lane.connected }) received b.below) ∙ count_is (record { lane = at.lane.number; ordinal = at.lane.connected }) received;
        current = omega arith;
        below = Each-weaker (λ (a : Arrival). a.key.conn.ordinal < at.lane.connected) (λ (a : Arrival). a.key.conn.ordinal < at.lane.connected + 1) received (λ a l. omega (arith, l)) b.below;
      }

  module _ {F X : Type 0} (gives : F → Option X → F → Type 0) (known : X → Connection) where
    pub serves_all : (given : List X) (old : F) (at : LaneAt) (received : List Arrival) (new : F) (last : LaneAt) (is_full : Bool) → Between false at received → ServesAll gives known capacity given old at new last is_full
        → (after : List Arrival) × ReceivesAll gives known capacity given old at received new last after is_full × Between is_full last after
    serves_all [] old at received new last is_full b h = (received, (h.0, h.1, refl, h.2), subst (λ (full : Bool). Between full last received) (sym h.2) (subst (λ (z : LaneAt). Between false z received) (sym h.1) b))
    serves_all (x ∷ rest) old at received new last is_full b h = go (is_overflow h.2) refl h.5 (λ mid between k. serves_all rest h.0 h.1 mid new last is_full between k)
      where
        go : (full : Bool) → is_overflow h.2 ≡ full → MatchBool full ((rest ≡ []) × (new ≡ h.0) × (last ≡ h.1) × (is_full ≡ true)) (ServesAll gives known capacity rest h.0 h.1 new last is_full)
            → ((mid : List Arrival) → Between false h.1 mid → ServesAll gives known capacity rest h.0 h.1 new last is_full → (after : List Arrival) × ReceivesAll gives known capacity rest h.0 h.1 mid new last after is_full × Between is_full last after)
            → (after : List Arrival) × ReceivesAll gives known capacity (x ∷ rest) old at received new last after is_full × Between is_full last after
        go true is more others_of =
            let one = serves_one (known x) at received h.1 h.2 b h.4 in (
              one.0,
              (h.0, h.1, one.0, h.2, h.3, one.1, subst (λ full. MatchBool full ((rest ≡ []) × (new ≡ h.0) × (last ≡ h.1) × (one.0 ≡ one.0) × (is_full ≡ true)) (ReceivesAll gives known capacity rest h.0 h.1 one.0 new last one.0 is_full)) (sym is) (more.0, more.1, more.2, refl, more.3)),
              subst (λ (full : Bool). Between full last one.0) (is ∙ sym more.3) (subst (λ (z : LaneAt). Between (is_overflow h.2) z one.0) (sym more.2) one.2),
            )
        go false is more others_of =
            let one = serves_one (known x) at received h.1 h.2 b h.4 in
            let others = others_of one.0 (subst (λ (full : Bool). Between full h.1 one.0) is one.2) more in
            (others.0, (h.0, h.1, one.0, h.2, h.3, one.1, subst (λ full. MatchBool full ((rest ≡ []) × (new ≡ h.0) × (last ≡ h.1) × (others.0 ≡ one.0) × (is_full ≡ true)) (ReceivesAll gives known capacity rest h.0 h.1 one.0 new last others.0 is_full)) (sym is) others.1), others.2)
