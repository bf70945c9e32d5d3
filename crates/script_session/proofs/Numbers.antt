-- How the numbers of a script's world grow by a line.
-- For the contract of `run_session`.
use Rattle.std.proofs.Common.{◌≡◌, ℕ, ◌+◌, false, List, [], ◌∷◌, ◌++◌, length, map, replicate, zero, suc, refl, sym, ap, ◌∙◌, Some, length-append, arith}
use Rattle.std.specs.Prelude.{filter}
use Rattle.std.specs.List.{sum_by}
use Rattle.std.proofs.lemmas.List.Sums.{sum_by-append, sum_by-cons}
use Rattle.std.proofs.lemmas.List.Elements.{filter-append}
use Rattle.drop_ledger.proofs.Added.{zero_at}
use Rattle.span_ids.specs.declared.outcome.Reason.{Reason}
use Rattle.span_ids.specs.declared.outcome.Reason.TheVariants.{InvalidId, QueueFull, NoMemory, Evicted, NotSampled, LateNotSampled, ExporterDown}
use Rattle.otlp_types.specs.declared.arrival.Arrival.{Arrival}
use Rattle.lane_seq.specs.Numbers.{is_invalid}
use Rattle.lane_seq.specs.Replies.{IsReplyTo}
use Rattle.lane_seq.specs.declared.reply.Reply.{Reply}
use Rattle.lane_seq.specs.declared.reply.Reply.TheVariants.{Done, Partial, BadData, Busy}
use Rattle.rate_budget.specs.Grant.{Asking}
use Rattle.journal_theory.specs.Journal.{Settings, Journal}
use Rattle.span_sink.specs.LineSinks.{LineSinkState}
use Rattle.drop_ledger.specs.declared.count.Count.{Count}
use Rattle.drop_ledger.specs.declared.count.Count.TheVariants.{Received, Handed, Dropped}
use Rattle.script_run.specs.Sending.{SentBatch}
use Rattle.script_run.specs.World.{ScriptWorld, replied, was_sent, new_world, after_reply, after_receiving}
use Rattle.script_run.specs.Counts.{counted_at_lanes, dropped_by_journal, counted_at_shards, counted_for, counted_at, number_reported, Reports}
use Rattle.script_session.specs.Adding.{at_reasons, counted_in}
use Rattle.lane_seq.specs.Replies.{is_received}
use Rattle.script_session.specs.Submitting.{received_by}
use Rattle.script_session.specs.Pulling.{dropped_by_all}

-- ---- batches and journals

sent-counts : (batches : List SentBatch) (k : Count) → sum_by (counted_at k) (map was_sent batches) ≡ counted_in batches k
sent-counts [] k = refl
sent-counts (one ∷ more) k =
    sum_by-cons (counted_at k) (was_sent one) (map was_sent more) ∙ ap (λ n. counted_for k one.flushed + n) (sent-counts more k)
    ∙ sym (sum_by-cons (λ (sent : SentBatch). counted_for k sent.flushed) one more)

shards-grow : (s : Settings) (pasts nows : List Journal) (dropped : Reason → ℕ) → ((reason : Reason) → dropped_by_all s reason nows ≡ dropped_by_all s reason pasts + dropped reason)
    → (k : Count) → counted_at_shards s nows k ≡ counted_at_shards s pasts k + at_reasons dropped k
shards-grow s pasts nows dropped e Received = refl
shards-grow s pasts nows dropped e Handed = refl
shards-grow s pasts nows dropped e (Dropped reason) = e reason

grow : (l t d b u v w : ℕ) → u ≡ t + d → v ≡ w + b → l + (u + v) ≡ (l + (t + w)) + (d + b)
grow l t d b u v w p q = omega arith

-- the shards took journals further, and batches were sent
pub number-quiet : (s : Settings) (w : ScriptWorld) (nows : List Journal) (asked : List Asking) (batches : List SentBatch) (sink : LineSinkState) (dropped : Reason → ℕ)
    → ((reason : Reason) → dropped_by_all s reason nows ≡ dropped_by_all s reason w.journals + dropped reason)
    → (k : Count) → number_reported s (record w { journals = nows; askings = asked; events = w.events ++ map was_sent batches; sink = sink }) k ≡ number_reported s w k + (at_reasons dropped k + counted_in batches k)
number-quiet s w nows asked batches sink dropped e k =
    let lanes = counted_at_lanes w k in
    grow lanes (counted_at_shards s w.journals k) (at_reasons dropped k) (counted_in batches k) (counted_at_shards s nows k) (sum_by (counted_at k) (w.events ++ map was_sent batches)) (sum_by (counted_at k) w.events)
    (shards-grow s w.journals nows dropped e k) (sum_by-append (counted_at k) w.events (map was_sent batches) ∙ ap (λ n. sum_by (counted_at k) w.events + n) (sent-counts batches k))

-- a reply was written, for which nothing is counted
pub number-replied : (s : Settings) (w : ScriptWorld) (reply : Reply) (sink : LineSinkState) (k : Count) → number_reported s (after_reply reply sink w) k ≡ number_reported s w k
number-replied s w reply sink k =
    ap (λ n. counted_at_lanes w k + (counted_at_shards s w.journals k + n)) (sum_by-append (counted_at k) w.events (replied reply ∷ []) ∙ same (sum_by-cons (counted_at k) (replied reply) []))
  where
    same : {a n : ℕ} → a ≡ 0 + 0 → n + a ≡ n
    same e = omega arith

-- ---- a request

invalid-append : (w : ScriptWorld) (arrivals : List Arrival) → length (filter is_invalid (w.received ++ arrivals)) ≡ length (filter is_invalid w.received) + length (filter is_invalid arrivals)
invalid-append w arrivals = ap length (filter-append is_invalid w.received arrivals) ∙ length-append (filter is_invalid w.received) (filter is_invalid arrivals)

none_invalid : (w : ScriptWorld) (arrivals : List Arrival) (full : ℕ) → length (filter is_invalid arrivals) + full ≡ 0
    → length (filter is_invalid (w.received ++ arrivals)) ≡ length (filter is_invalid w.received) + 0
none_invalid w arrivals full e = invalid-append w arrivals ∙ ap (λ m. length (filter is_invalid w.received) + m) (left _ full e)
  where
    left : (a b : ℕ) → a + b ≡ 0 → a ≡ 0
    left a b e = omega arith

none_full : (n full invalid : ℕ) → invalid + full ≡ 0 → n + full ≡ n + 0
none_full n full invalid e = omega arith

lanes-grow : (w : ScriptWorld) (number : ℕ) (arrivals : List Arrival) (full : ℕ) (reply : Reply) → IsReplyTo (length arrivals) (length (filter is_invalid arrivals)) full reply
    → (k : Count) → counted_at_lanes (after_receiving number arrivals full w) k ≡ counted_at_lanes w k + received_by reply k
lanes-grow w number arrivals full (Done n) is Received = length-append w.received arrivals ∙ ap (λ m. length w.received + m) (sym is.0)
lanes-grow w number arrivals full (Done n) is (Dropped InvalidId) = none_invalid w arrivals full is.1
lanes-grow w number arrivals full (Done n) is (Dropped QueueFull) = none_full w.full full _ is.1
lanes-grow w number arrivals full (Done n) is k = refl
lanes-grow w number arrivals full (Partial n i f) is Received = length-append w.received arrivals ∙ ap (λ m. length w.received + m) (sym is.0)
lanes-grow w number arrivals full (Partial n i f) is (Dropped InvalidId) = invalid-append w arrivals ∙ ap (λ m. length (filter is_invalid w.received) + m) (sym is.1)
lanes-grow w number arrivals full (Partial n i f) is (Dropped QueueFull) = ap (λ m. w.full + m) (sym is.2)
lanes-grow w number arrivals full (Partial n i f) is k = refl
lanes-grow w number arrivals full (BadData cause) is k = absurd is
lanes-grow w number arrivals full Busy is k = absurd is

-- the spans of a request were received
pub number-received : (s : Settings) (w : ScriptWorld) (number : ℕ) (arrivals : List Arrival) (full : ℕ) (reply : Reply) → IsReplyTo (length arrivals) (length (filter is_invalid arrivals)) full reply
    → (k : Count) → number_reported s (after_receiving number arrivals full w) k ≡ number_reported s w k + received_by reply k
number-received s w number arrivals full reply is k =
    ap (λ n. n + (counted_at_shards s w.journals k + sum_by (counted_at k) w.events)) (lanes-grow w number arrivals full reply is k)
    ∙ swap (counted_at_lanes w k) (received_by reply k) (counted_at_shards s w.journals k + sum_by (counted_at k) w.events)
  where
    swap : (a b c : ℕ) → (a + b) + c ≡ (a + c) + b
    swap a b c = omega arith

-- a refusal counts nothing
pub refusal-counts : (reply : Reply) → is_received reply ≡ false → (k : Count) → received_by reply k ≡ 0
refusal-counts (Done n) e k = absurd (cc e)
refusal-counts (Partial n i f) e k = absurd (cc e)
refusal-counts (BadData cause) e k = refl
refusal-counts Busy e k = refl

-- ---- before the first line

none-yet : (s : Settings) (reason : Reason) (shards : ℕ) → sum_by (dropped_by_journal s reason) (replicate shards []) ≡ 0
none-yet s reason zero = refl
none-yet s reason (suc n) = sum_by-cons (dropped_by_journal s reason) [] (replicate n []) ∙ ap (λ m. 0 + m) (none-yet s reason n)

number-new : (s : Settings) (lanes shards : ℕ) (first : LineSinkState) (k : Count) → number_reported s (new_world lanes shards first) k ≡ 0
number-new s lanes shards first Received = refl
number-new s lanes shards first Handed = refl
number-new s lanes shards first (Dropped reason) = at_lanes reason (none-yet s reason shards)
  where
    at_lanes : (r : Reason) → {m : ℕ} → m ≡ 0 → counted_at_lanes (new_world lanes shards first) (Dropped r) + (m + 0) ≡ 0
    at_lanes InvalidId e = omega (arith, e)
    at_lanes QueueFull e = omega (arith, e)
    at_lanes NoMemory e = omega (arith, e)
    at_lanes Evicted e = omega (arith, e)
    at_lanes NotSampled e = omega (arith, e)
    at_lanes LateNotSampled e = omega (arith, e)
    at_lanes ExporterDown e = omega (arith, e)

-- nine zeros tell the numbers of a script that has seen no line
pub Reports-new : (s : Settings) (lanes shards : ℕ) (first : LineSinkState) → Reports s (new_world lanes shards first) (Some (replicate 9 0))
Reports-new s lanes shards first = (refl, λ k. let none = number-new s lanes shards first k in (zero_at k ∙ sym none, omega (arith, none)))
