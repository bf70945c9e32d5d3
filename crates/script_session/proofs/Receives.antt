-- A request is answered, and what it gives is counted.
-- For the contract of `receive`.
use Rattle.std.proofs.Common.{◌≡◌, ℕ, ◌+◌, ◌<◌, Bool, true, false, List, [], ◌∷◌, ◌++◌, length, refl, sym, ap, subst, ◌∙◌, inl, inr, arith}
use Rattle.otlp_types.specs.declared.arrival.Arrival.{Arrival}
use Rattle.otlp_types.specs.declared.arrival.Item.{Item}
use Rattle.lane_queue.specs.Queues.{QueueState}
use Rattle.lane_seq.specs.declared.reply.Reply.{Reply}
use Rattle.lane_seq.specs.declared.reply.Reply.TheVariants.{Done, Partial, BadData, Busy}
use Rattle.lane_seq.specs.Replies.{IsReplyTo}
use Rattle.rate_budget.specs.Grant.{Asking}
use Rattle.rate_budget.specs.Budget.{limiter_counts}
use Rattle.journal_theory.specs.Journal.{Settings, Journal}
use Rattle.shard_core.specs.Held.{Held}
use Rattle.span_sink.specs.LineSinks.{LineSinkState}
use Rattle.span_exporter.specs.declared.answer.Flushed.{Flushed}
use Rattle.span_exporter.specs.Exports.{ExporterState, Sends, WritesLine}
use Rattle.drop_ledger.specs.declared.count.Count.{Count}
use Rattle.script_run.specs.Connections.{Contacts, connection_of, with_connection, with_received}
use Rattle.script_run.specs.Requests.{IsTakenFor, reply_line, reads, refuses, arrivals_of}
use Rattle.script_run.specs.World.{ScriptWorld, Sizes, RunsToQuiet, RepliesAndRuns, Receives, after_reply, empty_queues}
use Rattle.script_run.specs.Counts.{number_reported, counted_for}
use Rattle.script_session.specs.Adding.{Adds}
use Rattle.lane_seq.specs.Replies.{is_received}
use Rattle.script_session.specs.Submitting.{Submits, received_by}
use Rattle.script_session.specs.Pulling.{Export, Counts, HaveSettings, HaveReleased, RoundsTaken, AreOf, items_in}
use Rattle.script_session.proofs.Adds.{Reports-grow}
use Rattle.script_session.proofs.Numbers.{number-received, number-replied, refusal-counts}
use Rattle.script_session.proofs.Quiet.{quiets}

-- The world just before the reply: what the reply tells is counted. The reply and these rounds from there on are what
-- the request does.
pub record Answered (s : Settings) (sizes : Sizes) (w : ScriptWorld) (number moment : ℕ) (body : List ℕ) (reply : Reply) (rounds : List (List (List Item))) (later : Contacts) : Type 0 where
  pub mid : ScriptWorld
  pub contacts : later ≡ mid.contacts
  pub same : (mid.journals ≡ w.journals) × (mid.askings ≡ w.askings) × (mid.closed ≡ w.closed)
  pub numbers : (k : Count) → number_reported s mid k ≡ number_reported s w k + received_by reply k
  pub leads : (sink : LineSinkState) (end : ScriptWorld) → WritesLine w.sink (reply_line reply) sink → RunsToQuiet s sizes (after_reply reply sink mid) rounds end → Receives s sizes w number moment body end

was-read : (spans invalid full : ℕ) (r : Reply) → IsReplyTo spans invalid full r → is_received r ≡ true
was-read spans invalid full (Done n) t = refl
was-read spans invalid full (Partial n i f) t = refl
was-read spans invalid full (BadData cause) t = absurd t
was-read spans invalid full Busy t = absurd t

not-read : (keeps : Bool) (body : List ℕ) (r : Reply) → IsTakenFor keeps body (refuses r) → is_received r ≡ false
not-read keeps body (Done n) t = absurd t
not-read keeps body (Partial n i f) t = absurd t
not-read keeps body (BadData cause) t = refl
not-read keeps body Busy t = refl

module _ (s : Settings) (sizes : Sizes) (w : ScriptWorld) (number moment : ℕ) (body : List ℕ) (later : Contacts) (after : List (QueueState Item)) (reply : Reply) (rounds : List (List (List Item)))
    (on_read : is_received reply ≡ true → rounds ≡ items_in after ∷ []) (on_refused : is_received reply ≡ false → rounds ≡ []) where
  none-counted : (v : ScriptWorld) → is_received reply ≡ false → ((k : Count) → number_reported s v k ≡ number_reported s w k) → (k : Count) → number_reported s v k ≡ number_reported s w k + received_by reply k
  none-counted v refuses_it same k = same k ∙ plus (number_reported s w k) (received_by reply k) (refusal-counts reply refuses_it k)
    where
      plus : (n m : ℕ) → m ≡ 0 → n ≡ n + m
      plus n m e = omega arith

  -- from the world that has these connections, spans and refusals on
  from : (contacts : Contacts) (received : List Arrival) (full : ℕ) → (let mid : ScriptWorld = record w { contacts = contacts; received = received; full = full } in
      later ≡ contacts → ((k : Count) → number_reported s mid k ≡ number_reported s w k + received_by reply k) → (played : List (List (List Item))) → rounds ≡ played
      → ((sink : LineSinkState) (end : ScriptWorld) → WritesLine w.sink (reply_line reply) sink → RunsToQuiet s sizes (after_reply reply sink mid) played end → Receives s sizes w number moment body end)
      → Answered s sizes w number moment body reply rounds later)
  from contacts received full is numbers played same leads =
      let mid : ScriptWorld = record w { contacts = contacts; received = received; full = full } in
      record {
        mid = mid;
        contacts = is;
        same = (refl, refl, refl);
        numbers = numbers;
        leads = λ sink end line runs.
            let P = λ (r : List (List (List Item))). RunsToQuiet s sizes (after_reply reply sink mid) r end in
            leads sink end line (subst P same runs);
      }

  pub answered : Submits sizes.keeps_doubles w.contacts number moment body (empty_queues sizes.queue (length w.journals)) reply after later → Answered s sizes w number moment body reply rounds later
  answered (inl d) =
      let refuses_it : is_received reply ≡ false = ap is_received d.1 in
      from w.contacts w.received w.full d.3 (none-counted w refuses_it (λ k. refl)) [] (on_refused refuses_it)
      (λ sink end line runs. let B = λ (r : Reply). RepliesAndRuns s sizes w r [] end in inl (d.0, subst B d.1 (sink, line, runs)))
  answered (inr (inl d)) =
      let refuses_it = not-read sizes.keeps_doubles body reply d.0 in
      let connected = with_connection number w.contacts in
      from connected w.received w.full d.2 (none-counted (record w { contacts = connected }) refuses_it (λ k. refl)) [] (on_refused refuses_it)
      (λ sink end line runs. inr (refuses reply, d.0, (sink, line, runs)))
  answered (inr (inr d)) =
      let arrivals = arrivals_of (connection_of number w.contacts) moment d.0 in
      from (with_received number (length arrivals) w.contacts) (w.received ++ arrivals) (w.full + d.2.refused) d.3 (number-received s w number arrivals d.2.refused reply d.2.replied) (items_in after ∷ [])
      (on_read (was-read _ _ d.2.refused reply d.2.replied)) (λ sink end line runs. inr (reads d.0, d.1, (reply, after, d.2, (sink, line, runs))))

-- a request was read or refused, what the reply tells was counted, and the shards took what was received
pub receives : (s : Settings) (sizes : Sizes) (w : ScriptWorld) (number moment : ℕ) (body : List ℕ) (known later : Contacts) (before after : List (QueueState Item)) (reply : Reply) (old new : List Held) (start last : Counts)
    (first counted noted between final : Export) (closed : Bool) (rounds : List (List (List Item)))
    → AreOf s w known old start first closed → before ≡ empty_queues sizes.queue (length w.journals) → Submits sizes.keeps_doubles known number moment body before reply after later
    → (is_received reply ≡ true → rounds ≡ items_in after ∷ []) → (is_received reply ≡ false → rounds ≡ [])
    → counted.0 ≡ first.0 → Adds first.1 (received_by reply) counted.1 → WritesLine counted.0.sink (reply_line reply) noted.0.sink → noted.1 ≡ counted.1
    → noted.0.batch ≡ counted.0.batch → noted.0.size ≡ counted.0.size → first.0.size ≡ sizes.batch → length first.0.batch ≡ 0
    → RoundsTaken old start noted rounds new last between → HaveSettings s new
    → length between.0.batch < between.0.size
    → ((flushed : Flushed) × Sends between.0.sink between.0.batch flushed final.0.sink × Adds between.1 (λ count. counted_for count flushed) final.1)
    → (end : ScriptWorld) × Receives s sizes w number moment body end × AreOf s end later new last final closed
receives s sizes w number moment body known later before after reply old new start last first counted noted between final closed rounds are before_is submits on_read on_refused same adds line told batch_is size_is size empty takes alike room sent =
    let S = λ (k : Contacts). Submits sizes.keeps_doubles k number moment body before reply after later in
    let E = λ (q : List (QueueState Item)). Submits sizes.keeps_doubles w.contacts number moment body q reply after later in
    let W = λ (k : LineSinkState). WritesLine k (reply_line reply) noted.0.sink in
    let a = answered s sizes w number moment body later after reply rounds on_read on_refused (subst E before_is (subst S are.contacts_are submits)) in
    let mid = after_reply reply noted.0.sink a.mid in
    let R = λ (js : List Journal). HaveReleased old js in
    let L = λ (asked : List Asking). start ≡ limiter_counts s.policies asked in
    let q = quiets s sizes mid later old new start last noted between final closed rounds (record {
      contacts_are = a.contacts;
      settings_are = are.settings_are;
      released_all = subst R (sym a.same.0) are.released_all;
      limiter_is = subst L (sym a.same.1) are.limiter_is;
      sink_is = refl;
      reports = Reports-grow s w mid first.1 noted.1 (received_by reply) (λ k. number-replied s a.mid reply noted.0.sink k ∙ a.numbers k) are.reports (subst (Adds first.1 (received_by reply)) (sym told) adds);
      closed_is = are.closed_is ∙ sym a.same.2;
    }) (size_is ∙ ap (λ (e : ExporterState). e.size) same ∙ size) (ap length (batch_is ∙ ap (λ (e : ExporterState). e.batch) same) ∙ empty) takes alike room sent in
    (q.0, a.leads noted.0.sink q.0 (subst W (ap (λ (e : ExporterState). e.sink) same ∙ are.sink_is) line) q.1, q.2)
