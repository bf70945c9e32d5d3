-- What senders sent before their End, and lists of threads one by one.
-- For the law of `Worked`.
use Rattle.std.proofs.Common.{◌≡◌, ◌⊎◌, ℕ, zero, suc, ◌+◌, ◌<◌, ◌≤◌, ◌||◌, Bool, true, false, inl, inr, List, [], ◌∷◌, length, map, slice_get, Option, Some, None, refl, sym, ap, subst, ◌∙◌, arith}
use Rattle.std.proofs.lemmas.List.{length-map}
use Rattle.std.specs.List.{list_any}
use native.Mathlib.Decide.{ℕ_discrete}
use Rattle.otlp_types.specs.declared.arrival.Arrival.{Arrival}
use Rattle.otlp_types.specs.declared.arrival.Item.{Item}
use Rattle.otlp_types.specs.declared.arrival.Item.TheVariants.{Span, Tick}
use Rattle.otlp_types.specs.declared.span.Ids.{Ids}
use Rattle.lane_queue.specs.Ends.{EndState, queues}
use Rattle.lane_worker.specs.Serving.{LaneAt}
use Rattle.journal_theory.specs.Journal.{Settings, is_end_of, has_ids}
use Rattle.journal_theory.proofs.ListFacts.{Each}
use Rattle.world_theory.proofs.Steps.{or_both}
use Rattle.world_theory.specs.World.{goes_to}
use Rattle.span_weave.specs.Threads.{Try, pushed, full, pushed_in, span_of}
use Rattle.span_weave.specs.Woven.{sum_below}
use Rattle.run_weave.specs.Jobs.{ShardDid}
use Rattle.run_weave.specs.Workers.{zeros, LaneOut, ShardIn, ShardOut, ShardsDid, LanesDid}
use Rattle.run_weave.proofs.LaneFacts.{mapped}
use Rattle.run_weave.proofs.ShardFacts.{Sends}

-- ---- what senders sent before their End

pub spans_sent : (spans : List Arrival) → Each (λ (a : Arrival). has_ids (Span a) ≡ true) spans → Sends (map (λ a. Span a) spans)
spans_sent spans h = record { no_end = λ sender. none sender spans; taken = all spans h }
  where
    none : (sender : ℕ) (spans : List Arrival) → list_any (is_end_of sender) (map (λ a. Span a) spans) ≡ false
    none sender [] = refl
    none sender (a ∷ spans) = none sender spans

    all : (spans : List Arrival) → Each (λ (a : Arrival). has_ids (Span a) ≡ true) spans → Each (λ (i : Item). has_ids i ≡ true) (map (λ a. Span a) spans)
    all [] h = tt
    all (a ∷ spans) h = (h.0, all spans h.1)

pub ticks_sent : (moments : List ℕ) → Sends (map (λ m. Tick m) moments)
ticks_sent moments = record { no_end = λ sender. none sender moments; taken = all moments }
  where
    none : (sender : ℕ) (moments : List ℕ) → list_any (is_end_of sender) (map (λ m. Tick m) moments) ≡ false
    none sender [] = refl
    none sender (m ∷ moments) = none sender moments

    all : (moments : List ℕ) → Each (λ (i : Item). has_ids i ≡ true) (map (λ m. Tick m) moments)
    all [] = tt
    all (m ∷ moments) = (refl, all moments)

-- a span that goes to a shard has valid ids
pub goes_with_ids : (shards shard : ℕ) (a : Arrival) → goes_to shards shard a ≡ true → has_ids (Span a) ≡ true
goes_with_ids shards shard a e = go a.rec.span.ids refl
  where
    go : (ids : Option Ids) → a.rec.span.ids ≡ ids → has_ids (Span a) ≡ true
    go None is = absurd (cc (e, is))
    go (Some ids) is = cc is

-- what was tried was received for that shard, and so has valid ids
pub pushed_with_ids : (ts : List Try) → Each (λ (a : Arrival). has_ids (Span a) ≡ true) (map span_of ts) → Each (λ (a : Arrival). has_ids (Span a) ≡ true) (pushed_in ts)
pushed_with_ids [] h = tt
pushed_with_ids (pushed a ∷ ts) h = (h.0, pushed_with_ids ts h.1)
pushed_with_ids (full a ∷ ts) h = pushed_with_ids ts h.1

pub same_count : {X : Type 0} (xs ys : List (EndState X)) → queues xs ≡ queues ys → length xs ≡ length ys
same_count xs ys e = sym (length-map xs (λ (e : EndState _). e.queue)) ∙ (ap (λ (z : List _). length z) e ∙ length-map ys (λ (e : EndState _). e.queue))

pub none_and : (n : ℕ) → 0 + n ≡ n
none_and n = omega arith

-- ---- lists of threads, one by one

pub shards_at : {capacity : ℕ} (s : Settings) (number : ℕ) (ins : List ShardIn) (outs : List ShardOut) → ShardsDid capacity s number ins outs → (k : ℕ) (given : ShardIn) (out : ShardOut) → slice_get ins k ≡ Some given → slice_get outs k ≡ Some out
    → ShardDid capacity (number + k) s given.seat given.receiver given.sender zeros out.seat out.receiver out.sender out.counted out.is_full
shards_at {capacity} s number [] outs did k given out e f = absurd (cc e)
shards_at {capacity} s number (g ∷ ins) [] did k given out e f = absurd did
shards_at {capacity} s number (g ∷ ins) (o ∷ outs) did zero given out e f =
    let same_given : g ≡ given = cc e in
    let same_out : o ≡ out = cc f in
    subst (λ n. ShardDid capacity n s given.seat given.receiver given.sender zeros out.seat out.receiver out.sender out.counted out.is_full) (omega arith)
    (subst (λ (x : ShardIn). ShardDid capacity number s x.seat x.receiver x.sender zeros out.seat out.receiver out.sender out.counted out.is_full) same_given
    (subst (λ (x : ShardOut). ShardDid capacity number s g.seat g.receiver g.sender zeros x.seat x.receiver x.sender x.counted x.is_full) same_out did.0))
shards_at {capacity} s number (g ∷ ins) (o ∷ outs) did (suc k) given out e f =
    subst (λ n. ShardDid capacity n s given.seat given.receiver given.sender zeros out.seat out.receiver out.sender out.counted out.is_full) (omega arith) (shards_at s (number + 1) ins outs did.1 k given out e f)

pub same_shards : (capacity : ℕ) (s : Settings) (number : ℕ) (ins : List ShardIn) (outs : List ShardOut) → ShardsDid capacity s number ins outs → length outs ≡ length ins
same_shards capacity s number [] [] did = refl
same_shards capacity s number [] (o ∷ outs) did = absurd did
same_shards capacity s number (g ∷ ins) [] did = absurd did
same_shards capacity s number (g ∷ ins) (o ∷ outs) did = ap suc (same_shards capacity s (number + 1) ins outs did.1)

module _ {F : Type 0} (serves : ℕ → F → LaneAt → F → LaneAt → Bool → Type 0) (keeps_doubles : Bool) (capacity : ℕ) where
  pub same_columns : (number : ℕ) (acceptors : List F) (columns : List (List (EndState Item))) (outs : List LaneOut) → LanesDid serves keeps_doubles capacity number acceptors columns outs → length columns ≡ length acceptors
  same_columns number [] [] outs did = refl
  same_columns number [] (column ∷ columns) [] did = absurd did
  same_columns number [] (column ∷ columns) (out ∷ outs) did = absurd did
  same_columns number (f ∷ acceptors) [] [] did = absurd did
  same_columns number (f ∷ acceptors) [] (out ∷ outs) did = absurd did
  same_columns number (f ∷ acceptors) (column ∷ columns) [] did = absurd did
  same_columns number (f ∷ acceptors) (column ∷ columns) (out ∷ outs) did = ap suc (same_columns (number + 1) acceptors columns outs did.1)

-- where no element passes the test, each fails it; where some does, it stands at a place
pub none_at : {X : Type 0} (test : X → Bool) (xs : List X) → list_any test xs ≡ false → (k : ℕ) (x : X) → slice_get xs k ≡ Some x → test x ≡ false
none_at test [] e k x at = absurd (cc at)
none_at test (y ∷ xs) e zero x at = let same : y ≡ x = cc at in ap test (sym same) ∙ (or_both (test y) (list_any test xs) e).0
none_at test (y ∷ xs) e (suc k) x at = none_at test xs (or_both (test y) (list_any test xs) e).1 k x at

pub some_at : {X : Type 0} (test : X → Bool) (xs : List X) → list_any test xs ≡ true → (k : ℕ) × (x : X) × (slice_get xs k ≡ Some x) × (test x ≡ true)
some_at test [] e = absurd (cc e)
some_at {X} test (y ∷ xs) e = go (test y) refl (λ rest. some_at test xs rest)
  where
    go : (b : Bool) → test y ≡ b → (list_any test xs ≡ true → (k : ℕ) × (x : X) × (slice_get xs k ≡ Some x) × (test x ≡ true)) → (k : ℕ) × (x : X) × (slice_get (y ∷ xs) k ≡ Some x) × (test x ≡ true)
    go true is more_of = (0, y, refl, is)
    go false is more_of = let more = more_of (sym (ap (λ (b : Bool). b || list_any test xs) is) ∙ e) in (suc more.0, more.1, more.2, more.3)

pub or_cases : (a b : Bool) → (a || b) ≡ true → (a ≡ true) ⊎ (b ≡ true)
or_cases true b e = inl refl
or_cases false b e = inr e

-- a sum is no less than one of its numbers
pub at_least : (n k : ℕ) (f : ℕ → ℕ) → k < n → f k ≤ sum_below n f
at_least zero k f below = absurd (omega (arith, below))
at_least (suc n) k f below = go (ℕ_discrete k n) (λ l. at_least n k f l)
  where
    go : Dec (k ≡ n) → (k < n → f k ≤ sum_below n f) → f k ≤ f n + sum_below n f
    go (yes e) rest = omega (arith, ap f e)
    go (no apart) rest = omega (arith, rest (omega (arith, below, apart)))

-- whether a lane that is there stopped counting
abbrev pub full_of : Option LaneOut → Bool
full_of None = false
full_of (Some out) = out.is_full

-- what a mapped list has at a place
pub at_map : {X Y : Type 0} (v : X → Y) (xs : List X) (k : ℕ) (x : X) (y : Y) → slice_get xs k ≡ Some x → slice_get (map v xs) k ≡ Some y → y ≡ v x
at_map v xs k x y e f = let m = mapped v xs k y f in let same : m.0 ≡ x = cc (sym m.1 ∙ e) in m.2 ∙ ap v same
