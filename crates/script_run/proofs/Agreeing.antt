-- What two calm runs of one script take, send and reply is the same.
-- For the contracts of `calm_runs_agree` and `calm_scripts_agree`.
use Rattle.std.proofs.Common.{◌≡◌, ℕ, ◌<◌, Bool, true, false, ◌||◌, List, [], ◌∷◌, ◌++◌, length, map, filter, Some, None, refl, ap, sym, subst, ◌∙◌, arith, inl, inr}
use Rattle.std.specs.List.{AllByRecursion}
use Rattle.std.proofs.lemmas.List.{append-nil, length-append}
use Rattle.otlp_encoding.specs.declared.encoding.Encoding.TheVariants.{Json}
use Rattle.otlp_request.proofs.Bodies.{one_request, not_both, one_cause}
use Rattle.otlp_types.specs.declared.arrival.Arrival.{Arrival}
use Rattle.otlp_types.specs.declared.arrival.Item.{Item}
use Rattle.otlp_types.specs.declared.request.Request.{Request}
use Rattle.span_ids.specs.declared.outcome.Reason.{Reason}
use Rattle.span_ids.specs.declared.outcome.Reason.TheVariants.{InvalidId, QueueFull, NoMemory, Evicted, NotSampled, LateNotSampled, ExporterDown}
use Rattle.lane_queue.specs.Queues.{QueueState, TakesLast, IsFull}
use Rattle.lane_seq.specs.declared.reply.Reply.{Reply}
use Rattle.lane_seq.specs.declared.reply.Reply.TheVariants.{Done, Partial, BadData, Busy}
use Rattle.lane_seq.specs.Replies.{IsReplyTo}
use Rattle.lane_seq.specs.Numbers.{is_invalid}
use Rattle.lane_seq.specs.Pushes.{Receives as IsPushed}
use Rattle.lane_seq.proofs.ListPushes.{list_pushes_are_determined}
use Rattle.journal_theory.specs.Journal.{Settings, Journal, Entry}
use Rattle.journal_theory.specs.Fate.{output}
use Rattle.span_sink.specs.LineSinks.{LineSinkState}
use Rattle.span_exporter.specs.Exports.{Sends, DropsBatch}
use Rattle.span_exporter.specs.declared.answer.Flushed.{Flushed}
use Rattle.span_exporter.specs.declared.answer.Flushed.TheVariants.{Handed, BatchDropped, Empty}
use Rattle.script_run.specs.Requests.{BodyReading, reads, refuses, IsTakenFor}
use Rattle.script_run.specs.Sending.{SentBatch, spans_of, AreBatches, SendsAll}
use Rattle.script_run.specs.World.{was_sent, ShardTurn, with_entry, Takes, TakesEach, TakesRounds, entry_of}
use Rattle.rate_budget.specs.Grant.{Asking}
use Rattle.script_run.specs.Calm.{is_for_memory, is_refusal, IsUnmarked}
use Rattle.script_run.proofs.Writing.{sends_writes}
use Rattle.script_run.proofs.Calm.{up_before_all, unmarked_entry, rounds_before}

-- ---- lists

-- equal lists whose first parts are as long have equal parts
pub parts_same : {X : Type 0} (xs ys us vs : List X) → length xs ≡ length ys → xs ++ us ≡ ys ++ vs → (xs ≡ ys) × (us ≡ vs)
parts_same [] [] us vs l e = (refl, e)
parts_same [] (y ∷ ys) us vs l e = absurd (omega (arith, l))
parts_same (x ∷ xs) [] us vs l e = absurd (omega (arith, l))
parts_same {X} (x ∷ xs) (y ∷ ys) us vs l e =
    let first : x ≡ y = cc e in
    let others : xs ++ us ≡ ys ++ vs = cc e in
    let r = parts_same xs ys us vs (omega (arith, l)) others in
    (ap (λ (z : X). z ∷ xs) first ∙ ap (λ (z : List X). y ∷ z) r.0, r.1)

-- ---- journals

-- neither holds where one of them does not
no_marks : (e : Bool) (f : Bool) → (e || f) ≡ false → (e ≡ false) × (f ≡ false)
no_marks true f h = absurd (cc h)
no_marks false f h = (refl, h)

-- a shard to which no memory is refused takes its items in one way, and the limiter is asked the same
takes_same : (s : Settings) (items : List Item) (before a b : ShardTurn) → Takes s before items a → Takes s before items b → IsUnmarked a.journal → IsUnmarked b.journal → a ≡ b
takes_same s [] before a b h g u v = h ∙ sym g
takes_same s (item ∷ more) before a b h g u v =
    let m = no_marks h.0 h.1 (unmarked_entry s item more before a h u) in
    let n = no_marks g.0 g.1 (unmarked_entry s item more before b g v) in
    let one : entry_of item g.0 g.1 ≡ entry_of item h.0 h.1 = λ i. record { item = item; refused = (n.0 ∙ sym m.0) i; lost = (n.1 ∙ sym m.1) i; answers = [] } in
    takes_same s more (with_entry s before (entry_of item h.0 h.1)) a b h.3 (subst (λ (e : Entry). Takes s (with_entry s before e) more b) one g.3) u v

-- in a round the shards take and release the same
each_same : (s : Settings) (before : List Journal) (asked : List Asking) (items : List (List Item)) (a b : List Journal) (p q : List Asking) (x y : List Arrival) → TakesEach s before asked items a p x → TakesEach s before asked items b q y
    → AllByRecursion IsUnmarked a → AllByRecursion IsUnmarked b → (a ≡ b) × (x ≡ y) × (p ≡ q)
each_same s [] asked [] [] [] p q x y h g u v = (refl, h.0 ∙ sym g.0, h.1 ∙ sym g.1)
each_same s [] asked [] [] (l ∷ ls) p q x y h g u v = absurd g
each_same s [] asked [] (k ∷ ks) b p q x y h g u v = absurd h
each_same s [] asked (own ∷ others) a b p q x y h g u v = absurd h
each_same s (j ∷ js) asked [] a b p q x y h g u v = absurd h
each_same s (j ∷ js) asked (own ∷ others) [] b p q x y h g u v = absurd h
each_same s (j ∷ js) asked (own ∷ others) (k ∷ ks) [] p q x y h g u v = absurd g
each_same s (j ∷ js) asked (own ∷ others) (k ∷ ks) (l ∷ ls) p q x y h g u v =
    let first = takes_same s own (record { journal = j; askings = asked }) (record { journal = k; askings = h.2 }) (record { journal = l; askings = g.2 }) h.3.0 g.3.0 u.0 v.0 in
    let here : k ≡ l = ap (λ (z : ShardTurn). z.journal) first in
    let lent : h.2 ≡ g.2 = ap (λ (z : ShardTurn). z.askings) first in
    let rest = each_same s js h.2 others ks ls p q h.1 g.1 h.4 (subst (λ (z : List Asking). TakesEach s js z others ls q g.1) (sym lent) g.4) u.1 v.1 in
    let out = parts_same (output s j) (output s j) h.0 g.0 refl (sym h.3.1 ∙ (ap (output s) here ∙ g.3.1)) in (
      ap (λ (z : Journal). z ∷ ks) here ∙ ap (λ (z : List Journal). l ∷ z) rest.0,
      h.5 ∙ (ap (λ (z : List Arrival). z ++ h.1) out.1 ∙ (ap (λ (z : List Arrival). g.0 ++ z) rest.1 ∙ sym g.5)),
      rest.2,
    )

-- the shards take the same and release the same
pub rounds_same : (s : Settings) (before : List Journal) (asked : List Asking) (rounds : List (List (List Item))) (a b : List Journal) (p q : List Asking) (x y : List Arrival) → TakesRounds s before asked rounds a p x → TakesRounds s before asked rounds b q y
    → AllByRecursion IsUnmarked a → AllByRecursion IsUnmarked b → (a ≡ b) × (x ≡ y) × (p ≡ q)
rounds_same s before asked [] a b p q x y h g u v = (h.0 ∙ sym g.0, h.2 ∙ sym g.2, h.1 ∙ sym g.1)
rounds_same s before asked (items ∷ more) a b p q x y h g u v =
    let first = each_same s before asked items h.0 g.0 h.1 g.1 h.2 g.2 h.4 g.4 (rounds_before s h.0 h.1 more a p h.3 h.5 u) (rounds_before s g.0 g.1 more b q g.3 g.5 v) in
    let moved = subst (λ (z : List Journal). TakesRounds s z h.1 more b q g.3) (sym first.0) (subst (λ (z : List Asking). TakesRounds s g.0 z more b q g.3) (sym first.2) g.5) in
    let rest = rounds_same s h.0 h.1 more a b p q h.3 g.3 h.5 moved u v in
    (rest.0, h.6 ∙ (ap (λ (z : List Arrival). z ++ h.3) first.1 ∙ (ap (λ (z : List Arrival). g.2 ++ z) rest.1 ∙ sym g.6)), rest.2)

-- ---- batches

-- the batch was handed over whole
abbrev pub IsHanded : SentBatch → Type 0
IsHanded sent = sent.flushed ≡ Handed (length sent.batch)

-- a batch holds something
size_positive : (size : ℕ) (one : SentBatch) (more : List SentBatch) → AreBatches size (one ∷ more) → 0 < size
size_positive size one [] h = omega (arith, h.0, h.1)
size_positive size one (next ∷ more) h = size_positive size next more h.1

-- the first batch has a span
some_spans : (size : ℕ) (one : SentBatch) (more : List SentBatch) → AreBatches size (one ∷ more) → 0 < length one.batch
some_spans size one [] h = h.0
some_spans size one (next ∷ more) h = omega (arith, h.0, size_positive size one (next ∷ more) h)

-- a batch that was neither given up for want of memory nor failed was handed over
handed_one : (old mid : LineSinkState) (sent : SentBatch) → 0 < length sent.batch → Sends old sent.batch sent.flushed mid → mid.is_down ≡ false → is_for_memory sent.flushed ≡ false → IsHanded sent
handed_one old mid sent some h up calm = go sent.flushed h calm
  where
    gone : (reason : Reason) (n : ℕ) → DropsBatch reason old sent.batch mid → is_for_memory (BatchDropped n reason) ≡ false → BatchDropped n reason ≡ Handed (length sent.batch)
    gone NoMemory n g c = absurd (cc c)
    gone ExporterDown n (inl g) c = absurd (cc (g.2.goes_down, up))
    gone ExporterDown n (inr g) c = let down : mid.is_down ≡ true = ap (λ (z : LineSinkState). z.is_down) g.1 ∙ g.0 in absurd (cc (down, up))
    gone InvalidId n g c = absurd g
    gone QueueFull n g c = absurd g
    gone Evicted n g c = absurd g
    gone NotSampled n g c = absurd g
    gone LateNotSampled n g c = absurd g

    go : (flushed : Flushed) → Sends old sent.batch flushed mid → is_for_memory flushed ≡ false → flushed ≡ Handed (length sent.batch)
    go Empty g c = absurd (omega (arith, some, ap length g.0))
    go (Handed n) g c = ap (λ (n : ℕ). Handed n) g.1
    go (BatchDropped n reason) g c = gone reason n g.2 c

-- the batches after the first
more_batches : (size : ℕ) (one : SentBatch) (more : List SentBatch) → AreBatches size (one ∷ more) → AreBatches size more
more_batches size one [] h = tt
more_batches size one (next ∷ more) h = h.1

-- a calm run hands all its batches over
pub all_handed : (size : ℕ) (old new : LineSinkState) (batches : List SentBatch) → AreBatches size batches → SendsAll old batches new → new.is_down ≡ false
    → AllByRecursion (λ event. is_refusal event ≡ false) (map was_sent batches) → AllByRecursion IsHanded batches
all_handed size old new [] are h up calm = tt
all_handed size old new (one ∷ more) are h up calm = (
  handed_one old h.0 one (some_spans size one more are) h.1 (up_before_all (map was_sent more) h.0 new up (sends_writes more h.0 new h.2)) calm.0,
  all_handed size h.0 new more (more_batches size one more are) h.2 up calm.1,
)

-- batches of the same spans that were handed over are the same
handed_same : (x y : SentBatch) → x.batch ≡ y.batch → IsHanded x → IsHanded y → x ≡ y
handed_same x y e h g =
    let flushed : x.flushed ≡ y.flushed = h ∙ (ap (λ (z : List Arrival). Handed (length z)) e ∙ sym g) in
    λ i. record { batch = e i; flushed = flushed i }

-- spans are cut into batches in one way
pub batches_same : (size : ℕ) (xs ys : List SentBatch) → AreBatches size xs → AreBatches size ys → spans_of xs ≡ spans_of ys → AllByRecursion IsHanded xs → AllByRecursion IsHanded ys → xs ≡ ys
batches_same size [] [] h g e u v = refl
batches_same size [] (y ∷ ys) h g e u v = absurd (omega (arith, ap length e, length-append y.batch (spans_of ys), some_spans size y ys g))
batches_same size (x ∷ xs) [] h g e u v = absurd (omega (arith, ap length e, length-append x.batch (spans_of xs), some_spans size x xs h))
batches_same size (x ∷ []) (y ∷ []) h g e u v =
    let same : x.batch ≡ y.batch = sym (append-nil x.batch) ∙ (e ∙ append-nil y.batch) in
    ap (λ (z : SentBatch). z ∷ []) (handed_same x y same u.0 v.0)
batches_same size (x ∷ []) (y ∷ next ∷ ys) h g e u v =
    absurd (omega (arith, h.1, g.0, some_spans size next ys g.1, ap length e, length-append x.batch [], length-append y.batch (next.batch ++ spans_of ys), length-append next.batch (spans_of ys)))
batches_same size (x ∷ next ∷ xs) (y ∷ []) h g e u v =
    absurd (omega (arith, g.1, h.0, some_spans size next xs h.1, ap length e, length-append y.batch [], length-append x.batch (next.batch ++ spans_of xs), length-append next.batch (spans_of xs)))
batches_same size (x ∷ next ∷ xs) (y ∷ other ∷ ys) h g e u v =
    let p = parts_same x.batch y.batch (spans_of (next ∷ xs)) (spans_of (other ∷ ys)) (h.0 ∙ sym g.0) e in
    ap (λ (z : SentBatch). z ∷ next ∷ xs) (handed_same x y p.0 u.0 v.0)
    ∙ ap (λ (z : List SentBatch). y ∷ z) (batches_same size (next ∷ xs) (other ∷ ys) h.1 g.1 p.1 u.1 v.1)

-- ---- replies

-- a request has one reply
reply_same : (spans invalid full : ℕ) (a b : Reply) → IsReplyTo spans invalid full a → IsReplyTo spans invalid full b → a ≡ b
reply_same spans invalid full (Done n) (Done m) h g = ap (λ (z : ℕ). Done z) (h.0 ∙ sym g.0)
reply_same spans invalid full (Done n) (Partial m i f) h g = absurd (omega (arith, h.1, g.3))
reply_same spans invalid full (Done n) (BadData cause) h g = absurd g
reply_same spans invalid full (Done n) Busy h g = absurd g
reply_same spans invalid full (Partial n i f) (Done m) h g = absurd (omega (arith, g.1, h.3))
reply_same spans invalid full (Partial n i f) (Partial m j k) h g =
    let a : n ≡ m = h.0 ∙ sym g.0 in
    let b : i ≡ j = h.1 ∙ sym g.1 in
    let c : f ≡ k = h.2 ∙ sym g.2 in cc
reply_same spans invalid full (Partial n i f) (BadData cause) h g = absurd g
reply_same spans invalid full (Partial n i f) Busy h g = absurd g
reply_same spans invalid full (BadData cause) b h g = absurd h
reply_same spans invalid full Busy b h g = absurd h

-- the pushes of a request, and its reply, are determined
pub record SamePushes (reply other : Reply) (refused number : ℕ) (new queues : List (QueueState Item)) : Type 0 where
  pub replies : reply ≡ other
  pub numbers : refused ≡ number
  pub holds : new ≡ queues

-- the pushes of a request and its reply are the same
pub pushes_same : (spans : List Arrival) (old : List (QueueState Item)) (reply other : Reply) (new queues : List (QueueState Item)) → (h : IsPushed TakesLast IsFull spans old reply new) → (g : IsPushed TakesLast IsFull spans old other queues)
    → SamePushes reply other h.refused g.refused new queues
pushes_same spans old reply other new queues h g =
    let a = list_pushes_are_determined spans old new h.refused h.pushed in
    let b = list_pushes_are_determined spans old queues g.refused g.pushed in
    let number : h.refused ≡ g.refused = a.0 ∙ sym b.0 in
    let invalid : ℕ = length (filter is_invalid spans) in
    record {
      replies = reply_same (length spans) invalid g.refused reply other (subst (λ (n : ℕ). IsReplyTo (length spans) invalid n reply) number h.replied) g.replied;
      numbers = number;
      holds = a.1 ∙ sym b.1;
    }

-- ---- readings

-- a body is taken for one thing, but for a refusal as busy
pub reading_same : (keeps : Bool) (body : List ℕ) (p q : BodyReading) → IsTakenFor keeps body p → IsTakenFor keeps body q → (p ≡ refuses Busy → ⊥) → (q ≡ refuses Busy → ⊥) → p ≡ q
reading_same keeps body (reads a) (reads b) h g m n = ap (λ (z : Request). reads z) (one_request Json keeps body a b h g)
reading_same keeps body (reads a) (refuses (BadData cause)) h g m n = absurd (not_both Json keeps body a cause h g)
reading_same keeps body (refuses (BadData cause)) (reads b) h g m n = absurd (not_both Json keeps body b cause g h)
reading_same keeps body (refuses (BadData cause)) (refuses (BadData other)) h g m n = ap (λ z. refuses (BadData z)) (one_cause Json keeps body cause other h g)
reading_same keeps body (refuses Busy) q h g m n = absurd (m refl)
reading_same keeps body p (refuses Busy) h g m n = absurd (n refl)
reading_same keeps body (refuses (Done k)) q h g m n = absurd h
reading_same keeps body (refuses (Partial k i f)) q h g m n = absurd h
reading_same keeps body p (refuses (Done k)) h g m n = absurd g
reading_same keeps body p (refuses (Partial k i f)) h g m n = absurd g
