-- What a lane replies to a body follows from the body and from what it says beside.
-- They serve the laws `replies_are_determined`, `pieces_do_not_matter` and `whole_connections`.
use Rattle.std.proofs.Common.{◌≡◌, ℕ, suc, ◌+◌, Bool, true, false, cond, List, [], ◌∷◌, ◌++◌, length, refl, ap, sym, subst, ◌∙◌, arith}
use Rattle.std.specs.Prelude.{filter, is_none}
use Rattle.otlp_encoding.specs.declared.encoding.Encoding.{Encoding}
use Rattle.otlp_request.specs.declared.bad_data.BadData.{BadData as BadCause}
use Rattle.otlp_request.specs.Reads.{Reads as Holds, IsRefusedFor}
use Rattle.otlp_request.proofs.Bodies.{one_request, not_both, one_cause}
use Rattle.otlp_flatten.specs.Flat.{records_of}
use Rattle.otlp_types.specs.declared.request.Request.{Request}
use Rattle.otlp_types.specs.declared.arrival.Record.{Record}
use Rattle.otlp_types.specs.declared.arrival.Arrival.{Arrival}
use Rattle.otlp_types.specs.declared.arrival.Item.{Item}
use Rattle.span_ids.specs.declared.keys.ConnKey.{ConnKey}
use Rattle.lane_seq.specs.declared.reply.Reply.{Reply}
use Rattle.lane_seq.specs.declared.reply.Reply.TheVariants.{Done, Partial, BadData, Busy}
use Rattle.lane_seq.specs.Numbers.{arrival_of, arrivals_from, is_invalid}
use Rattle.lane_seq.specs.Pushes.{LaneState}
use Rattle.lane_seq.specs.Replies.{IsReplyTo, OnReceived}
use Rattle.http_lane.specs.declared.answer.EventFate.{EventFate}
use Rattle.http_lane.specs.Connection.{Cause, submitted, ConnectionEvent, Submission, submission, submission_by, submissions, SubmitsAll, is_counted}
use Rattle.http_lane.specs.Intake.{Intake, Submits}
use Rattle.http_lane.specs.Agreement.{said_by, RepliesAreDetermined}

-- as many arrivals, and as many of them with invalid ids, whatever numbers they get
by_test : (b : Bool) (x y : Arrival) (xs ys : List Arrival) → length xs ≡ length ys → length (cond b (x ∷ xs) xs) ≡ length (cond b (y ∷ ys) ys)
by_test true x y xs ys e = ap suc e
by_test false x y xs ys e = e

invalid_same : (k l : ConnKey) (n m i j : ℕ) (rs : List Record)
    → length (filter is_invalid (arrivals_from k n i rs)) ≡ length (filter is_invalid (arrivals_from l m j rs))
invalid_same k l n m i j [] = refl
invalid_same k l n m i j (r ∷ rs) =
    by_test (is_none r.span.ids) (arrival_of k n i r) (arrival_of l m j r) (filter is_invalid (arrivals_from k (n + 1) i rs))
    (filter is_invalid (arrivals_from l (m + 1) j rs)) (invalid_same k l (n + 1) (m + 1) i j rs)

as_many : (k l : ConnKey) (n m i j : ℕ) (rs : List Record) → length (arrivals_from k n i rs) ≡ length (arrivals_from l m j rs)
as_many k l n m i j [] = refl
as_many k l n m i j (r ∷ rs) = ap suc (as_many k l (n + 1) (m + 1) i j rs)

-- the body was read, and this is a reply to its spans
abbrev Reads : Encoding → Bool → List ℕ → Reply → Type 0
Reads encoding keeps body reply = (request : Request) × Holds encoding keeps body request
    × (k : ConnKey) × (n : ℕ) × (i : ℕ) × (refused : ℕ)
    × IsReplyTo (length (arrivals_from k n i (records_of request))) (length (filter is_invalid (arrivals_from k n i (records_of request)))) refused reply

-- what a reply tells of a body
abbrev Tells : Encoding → Bool → List ℕ → Reply → Type 0
Tells encoding keeps body (Done n) = Reads encoding keeps body (Done n)
Tells encoding keeps body (Partial n i f) = Reads encoding keeps body (Partial n i f)
Tells encoding keeps body (BadData cause) = IsRefusedFor encoding keeps body cause
Tells encoding keeps body Busy = Unit {0}

told : (encoding : Encoding) (keeps : Bool) (body : List ℕ) (reply : Reply) (A : Type 0) → OnReceived reply A → (A → Reads encoding keeps body reply)
    → ((cause : BadCause) → reply ≡ BadData cause → IsRefusedFor encoding keeps body cause) → Tells encoding keeps body reply
told encoding keeps body (Done n) A received f bad = f received
told encoding keeps body (Partial n i k) A received f bad = f received
told encoding keeps body (BadData cause) A received f bad = bad cause refl
told encoding keeps body Busy A received f bad = tt

-- replies to the same spans, of which as many were refused
reply_same : (spans invalid refused others : ℕ) (p q : Reply) → IsReplyTo spans invalid refused p → IsReplyTo spans invalid others q → said_by p ≡ said_by q → p ≡ q
reply_same spans invalid refused others (Done n) (Done m) h g e = let same : n ≡ m = h.0 ∙ sym g.0 in cc
reply_same spans invalid refused others (Done n) (Partial m i f) h g e = let none : 0 ≡ f = cc in absurd (omega arith)
reply_same spans invalid refused others (Partial n i f) (Done m) h g e = let none : f ≡ 0 = cc in absurd (omega arith)
reply_same spans invalid refused others (Partial n i f) (Partial m j k) h g e =
    let a : n ≡ m = h.0 ∙ sym g.0 in let b : i ≡ j = h.1 ∙ sym g.1 in let c : f ≡ k = cc in cc
reply_same spans invalid refused others (BadData cause) q h g e = absurd h
reply_same spans invalid refused others Busy q h g e = absurd h
reply_same spans invalid refused others p (BadData cause) h g e = absurd g
reply_same spans invalid refused others p Busy h g e = absurd g

reads_same : (encoding : Encoding) (keeps : Bool) (body : List ℕ) (p q : Reply) → Reads encoding keeps body p → Reads encoding keeps body q → said_by p ≡ said_by q → p ≡ q
reads_same encoding keeps body p q h g e =
    let same : g.0 ≡ h.0 = one_request encoding keeps body g.0 h.0 g.1 h.1 in
    let spans : ℕ = length (arrivals_from h.2 h.3 h.4 (records_of h.0)) in
    let invalid : ℕ = length (filter is_invalid (arrivals_from h.2 h.3 h.4 (records_of h.0))) in
    let moved : IsReplyTo (length (arrivals_from g.2 g.3 g.4 (records_of h.0))) (length (filter is_invalid (arrivals_from g.2 g.3 g.4 (records_of h.0)))) g.5 q =
    subst (λ (r : Request). IsReplyTo (length (arrivals_from g.2 g.3 g.4 (records_of r))) (length (filter is_invalid (arrivals_from g.2 g.3 g.4 (records_of r)))) g.5 q) same g.6 in
    let other : IsReplyTo spans invalid g.5 q =
    subst (λ n. IsReplyTo n invalid g.5 q) (as_many g.2 h.2 g.3 h.3 g.4 h.4 (records_of h.0))
    (subst (λ n. IsReplyTo (length (arrivals_from g.2 g.3 g.4 (records_of h.0))) n g.5 q) (invalid_same g.2 h.2 g.3 h.3 g.4 h.4 (records_of h.0)) moved) in
    reply_same spans invalid h.5 g.5 p q h.6 other e

tells_same : (encoding : Encoding) (keeps : Bool) (body : List ℕ) (p q : Reply) → Tells encoding keeps body p → Tells encoding keeps body q → said_by p ≡ said_by q → p ≡ q
tells_same w keeps body (Done n) (Done m) h g e = reads_same w keeps body (Done n) (Done m) h g e
tells_same w keeps body (Done n) (Partial m j k) h g e = reads_same w keeps body (Done n) (Partial m j k) h g e
tells_same w keeps body (Partial n i f) (Done m) h g e = reads_same w keeps body (Partial n i f) (Done m) h g e
tells_same w keeps body (Partial n i f) (Partial m j k) h g e = reads_same w keeps body (Partial n i f) (Partial m j k) h g e
tells_same w keeps body (Done n) (BadData cause) h g e = absurd (not_both w keeps body h.0 cause h.1 g)
tells_same w keeps body (Partial n i f) (BadData cause) h g e = absurd (not_both w keeps body h.0 cause h.1 g)
tells_same w keeps body (BadData cause) (Done m) h g e = absurd (not_both w keeps body g.0 cause g.1 h)
tells_same w keeps body (BadData cause) (Partial m j k) h g e = absurd (not_both w keeps body g.0 cause g.1 h)
tells_same w keeps body (BadData cause) (BadData other) h g e = ap BadData (one_cause w keeps body cause other h g)
tells_same w keeps body (Done n) Busy h g e = absurd (cc)
tells_same w keeps body (Partial n i f) Busy h g e = absurd (cc)
tells_same w keeps body (BadData cause) Busy h g e = absurd (cc)
tells_same w keeps body Busy (Done m) h g e = absurd (cc)
tells_same w keeps body Busy (Partial m j k) h g e = absurd (cc)
tells_same w keeps body Busy (BadData cause) h g e = absurd (cc)
tells_same w keeps body Busy Busy h g e = refl

-- equal bodies, of which the lanes say the same beside, have equal replies
abbrev pub RepliesSame : Cause → Cause → Type 0
RepliesSame (submitted x m r k) (submitted y n s l) = x ≡ y → said_by r ≡ said_by s → r ≡ s
RepliesSame _ _ = Unit {0}

pub same_cause : (c : Cause) → RepliesSame c c
same_cause (submitted x m r k) = λ e f. refl
same_cause _ = tt

abbrev pub RepliesSameAsFar : List ConnectionEvent → List ConnectionEvent → Type 0
RepliesSameAsFar [] fs = Unit {0}
RepliesSameAsFar (e ∷ es) [] = Unit {0}
RepliesSameAsFar (e ∷ es) (f ∷ fs) = (e.encoding ≡ f.encoding → RepliesSame e.cause f.cause) × RepliesSameAsFar es fs

parted : {L : Type 0} (submits : L → Submission → L → Type 0) (u v : L) (xs ys : List Submission) → SubmitsAll submits u (xs ++ ys) v
    → (mid : L) × SubmitsAll submits u xs mid × SubmitsAll submits mid ys v
parted submits u v [] ys h = (u, refl, h)
parted submits u v (s ∷ xs) ys h = let more = parted submits h.0 v xs ys h.2 in (more.0, (h.0, h.1, more.1), more.2)

module _ {P : Type 0} (takes : P → Item → P → Type 0) (refuses : P → P → Type 0) where
  submits_tells : (a b : Intake P) (s : Submission) → Submits takes refuses a s b → Tells s.encoding a.lane.keeps_doubles s.body s.reply
  submits_tells a b s h =
      told s.encoding a.lane.keeps_doubles s.body s.reply _ h.received (λ r. (r.0, r.1, a.conn.key, a.conn.next, s.moment, (r.2).refused, (r.2).replied)) h.bad

  -- a lane goes on keeping doubles, or discarding them
  keeps_on : (a : Intake P) (ss : List Submission) (b : Intake P) → SubmitsAll (Submits takes refuses) a ss b → b.lane.keeps_doubles ≡ a.lane.keeps_doubles
  keeps_on a [] b h = ap (λ (i : Intake P). i.lane.keeps_doubles) h
  keeps_on a (s ∷ ss) b h = keeps_on h.0 ss b h.2 ∙ ap (λ (l : LaneState P). l.keeps_doubles) h.1.lane

module _ {P Q : Type 0} (takes : P → Item → P → Type 0) (refuses : P → P → Type 0) (its_takes : Q → Item → Q → Type 0) (its_refuses : Q → Q → Type 0) where
  pub replies_determined : RepliesAreDetermined takes refuses its_takes its_refuses
  replies_determined a b s c d t alike h g written same said =
      tells_same s.encoding a.lane.keeps_doubles s.body s.reply t.reply (submits_tells takes refuses a b s h)
      (subst (λ w. Tells w a.lane.keeps_doubles s.body t.reply) (sym written)
      (subst (λ body. Tells t.encoding a.lane.keeps_doubles body t.reply) (sym same)
      (subst (λ keeps. Tells t.encoding keeps t.body t.reply) (sym alike) (submits_tells its_takes its_refuses c d t g)))) said

  one_reply : (a b : Intake P) (c d : Intake Q) (fate its_fate : EventFate) (v w : Encoding) (p q : Cause) → a.lane.keeps_doubles ≡ c.lane.keeps_doubles → SubmitsAll (Submits takes refuses) a (submission_by fate v p) b
      → SubmitsAll (Submits its_takes its_refuses) c (submission_by its_fate w q) d → v ≡ w → RepliesSame p q
  one_reply a b c d fate its_fate v w (submitted x m r k) (submitted y n s l) alike h g written =
      replies_determined a h.0 (submission v x m r (is_counted fate)) c g.0 (submission w y n s (is_counted its_fate)) alike h.1 g.1 written
  one_reply a b c d fate its_fate v w _ _ alike h g written = tt

  pub replies_as_far : (es fs : List ConnectionEvent) (a b : Intake P) (c d : Intake Q) → a.lane.keeps_doubles ≡ c.lane.keeps_doubles → SubmitsAll (Submits takes refuses) a (submissions es) b
      → SubmitsAll (Submits its_takes its_refuses) c (submissions fs) d → RepliesSameAsFar es fs
  replies_as_far [] fs a b c d alike h g = tt
  replies_as_far (e ∷ es) [] a b c d alike h g = tt
  replies_as_far (e ∷ es) (f ∷ fs) a b c d alike h g =
      let x = parted (Submits takes refuses) a b (submission_by e.fate e.encoding e.cause) (submissions es) h in
      let y = parted (Submits its_takes its_refuses) c d (submission_by f.fate f.encoding f.cause) (submissions fs) g in
      let still : x.0.lane.keeps_doubles ≡ y.0.lane.keeps_doubles =
      keeps_on takes refuses a (submission_by e.fate e.encoding e.cause) x.0 x.1 ∙ (alike ∙ sym (keeps_on its_takes its_refuses c (submission_by f.fate f.encoding f.cause) y.0 y.1)) in
      (one_reply a x.0 c y.0 e.fate f.fate e.encoding f.encoding e.cause f.cause alike x.1 y.1, replies_as_far es fs x.0 b y.0 d still x.2 y.2)
