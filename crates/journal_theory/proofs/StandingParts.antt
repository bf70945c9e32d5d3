-- The parts of a standing: an episode one entry later, the lists that it is made of, and what the caches hold and
-- become. For `keeps_standing` of `laws`.
use Rattle.std.proofs.Common.{le-leb, ◌≡◌, ℕ, zero, suc, ◌-◌, ◌≤◌, nat_le, Bool, true, false, not, ◌&&◌, ◌||◌, cond, ◌==◌, List, [], ◌∷◌, ◌++◌, map, length, take, find, slice_get, Option, Some, None, option_map, option_to_list, refl, ap, sym, ◌∙◌, arith, append-nil, ne_eqb, eq-eqb}
use Rattle.std.specs.List.{list_any}
use Rattle.span_ids.proofs.SameTraces.{same_trace-refl}
use Rattle.span_ids.specs.Same.{same_trace}
use Rattle.span_ids.specs.declared.ids.TraceId.{TraceId}
use Rattle.span_ids.specs.declared.outcome.Verdict.{Verdict}
use Rattle.span_ids.specs.declared.outcome.Verdict.TheVariants.{Sampled, NotSampled}
use Rattle.otlp_types.specs.declared.span.Ids.{Ids}
use Rattle.otlp_types.specs.declared.arrival.Arrival.{Arrival}
use Rattle.otlp_types.specs.declared.arrival.Item.TheVariants.{Span}
use Rattle.trace_buffer.specs.Buffer.{Episode}
use Rattle.decision_cache.specs.Lists.{CacheLists, TraceList, is_held, asked, after_asking, after_put, list_after_put, puts, renews, PutAs, Remembers}
use Rattle.decision_cache.specs.Touches.{StandsFor, is_lost}
use Rattle.decision_cache.specs.declared.traces.Remembered.{Remembered}
use Rattle.decision_cache.specs.declared.traces.Remembered.TheVariants.{Kept, Off}
use Rattle.journal_theory.specs.Journal.{Entry, Settings, Journal, Opening, Notes, clock, in_buffer, is_in_buffer, decided_as, latest_episode, spans_since, item_spans, is_of_trace, ids_have_trace}
use Rattle.journal_theory.specs.Standing.{Standing, episode, episodes, cache, root_among, first_root_since, root_left, spans_left, mark, ends}
use Rattle.journal_theory.specs.Keeping.{caches}
use Rattle.journal_theory.specs.Laws.{state_cached}
use Rattle.journal_theory.proofs.ListFacts.{Each, Split}
use Rattle.journal_theory.proofs.Find.{found, find_front, any_split}
use Rattle.journal_theory.proofs.Notes.{buffer_front, none_own}
use Rattle.journal_theory.proofs.CacheFacts.{Remembering, in_cache}

-- ---- an episode, one entry later

-- a span that is refused, or of another trace, joins no episode
pub joins_none : (a : Arrival) (ids : Ids) (refused : Bool) (past : Journal) (o : Opening) → a.rec.span.ids ≡ Some ids → (same_trace o.trace ids.trace && not refused) ≡ false → item_spans o (length past) refused (Span a) ≡ []
joins_none a ids refused past o i h = go (nat_le o.at (length past))
  where
    off : (is_of_trace o.trace a && not refused) ≡ false
    off = ap (λ (x : Option Ids). ids_have_trace o.trace x && not refused) i ∙ h

    go : (b : Bool) → cond (b && is_of_trace o.trace a && not refused) (a ∷ []) [] ≡ []
    go true = rw off refl
    go false = refl

-- a span of the trace that is kept joins its episode
pub joins_own : (a : Arrival) (ids : Ids) (past : Journal) (o : Opening) → a.rec.span.ids ≡ Some ids → o.at ≤ length past → same_trace o.trace ids.trace ≡ true → item_spans o (length past) false (Span a) ≡ a ∷ []
joins_own a ids past o i l h = rw (le-leb o.at (length past) l, on) refl
  where
    on : is_of_trace o.trace a ≡ true
    on = ap (λ (x : Option Ids). ids_have_trace o.trace x) i ∙ h

-- a span before the opening is none of the episode
pub roots_before : (past : Journal) (o : Opening) → length past ≤ o.at → first_root_since past o ≡ None
roots_before [] o l = refl
roots_before (e ∷ past) o l = ap (λ (xs : List Arrival). root_among (first_root_since past o) (clock (e ∷ past)) xs) (none_own o (length past) e.refused e.item (omega arith)) ∙ roots_before past o (omega arith)

pub map_same : (f g : Opening → Episode) (os : List Opening) → Each (λ o. f o ≡ g o) os → map f os ≡ map g os
map_same f g [] h = refl
map_same f g (o ∷ os) h = rw (h.0) (ap (λ (es : List Episode). g o ∷ es) (map_same f g os h.1))

-- an entry that joins no episode changes none
pub episode_same : (s : Settings) (e : Entry) (past : Journal) (noted : Notes) (o : Opening) → item_spans o (length past) e.refused e.item ≡ [] → episode s (e ∷ past) noted o ≡ episode s past noted o
episode_same s e past noted o none =
    ap (λ (xs : List Arrival). record { trace = o.trace; moment = o.moment; maximum = s.maximum_trace_size; first_root = root_left (root_among (first_root_since past o) (clock (e ∷ past)) xs) (decided_as noted o.at); spans = spans_left (spans_since past o ++ xs) (decided_as noted o.at); verdict = decided_as noted o.at }) none
    ∙ ap (λ (spans : List Arrival). record { trace = o.trace; moment = o.moment; maximum = s.maximum_trace_size; first_root = root_left (first_root_since past o) (decided_as noted o.at); spans = spans_left spans (decided_as noted o.at); verdict = decided_as noted o.at }) (append-nil (spans_since past o))

-- a decided episode holds no spans
pub episode_decided : (s : Settings) (later past : Journal) (noted : Notes) (o : Opening) (v : Verdict) → decided_as noted o.at ≡ Some v → episode s later noted o ≡ episode s past noted o
episode_decided s later past noted o v d = rw d refl

-- ---- a standing by its parts

abbrev pub standing_by : Settings → Journal → Notes → Standing
standing_by s past noted = record { episodes = episodes s past noted; sampled = cache s noted Sampled; non_sampled = cache s noted NotSampled; clock = clock past; mark = mark past; ends = ends past s.senders }

abbrev pub standing_of : Settings → Notes → (es : List Episode) → (sampled non_sampled : List TraceId) → (clock mark : ℕ) → (ended : List Bool) → Standing
standing_of s noted es sampled non_sampled c k ended = record { episodes = es; sampled = sampled; non_sampled = non_sampled; clock = c; mark = k; ends = ended }

pub same_parts : (s : Settings) (noted : Notes) (es fs : List Episode) (a b c d : List TraceId) (k n : ℕ) (xs ys : List Bool) → es ≡ fs → a ≡ b → c ≡ d → xs ≡ ys → standing_of s noted es a c k n xs ≡ standing_of s noted fs b d k n ys
same_parts s noted es fs a b c d k n xs ys e f g h = rw (e, f, g, h) refl

-- ---- lists

pub less-one : (n : ℕ) → suc n - 1 ≡ n
less-one n = omega arith

pub taken_full : {X : Type 0} (m : ℕ) (xs : List X) (x : X) → slice_get xs m ≡ Some x → length (take m xs) ≡ m
taken_full m [] x e = absurd (cc e)
taken_full zero (y ∷ xs) x e = refl
taken_full (suc m) (y ∷ xs) x e = ap suc (taken_full m xs x e)

pub taken_short : {X : Type 0} (m : ℕ) (xs : List X) → slice_get xs m ≡ None → length (take m xs) ≡ length xs
taken_short zero [] e = refl
taken_short (suc m) [] e = refl
taken_short zero (y ∷ xs) e = absurd (cc e)
taken_short (suc m) (y ∷ xs) e = ap suc (taken_short m xs e)

pub short : {X : Type 0} (m : ℕ) (xs : List X) → slice_get xs m ≡ None → length xs ≤ m
short m [] e = omega arith
short zero (y ∷ xs) e = absurd (cc e)
short (suc m) (y ∷ xs) e = let k = short m xs e in omega (arith, k)

pub taken_next : {X : Type 0} (m : ℕ) (xs : List X) → take (suc m) xs ≡ take m xs ++ option_to_list (slice_get xs m)
taken_next zero [] = refl
taken_next zero (x ∷ xs) = refl
taken_next (suc m) [] = refl
taken_next {X} (suc m) (x ∷ xs) = ap (λ (z : List X). x ∷ z) (taken_next m xs)

-- ---- what the caches hold

-- the caches of what stands for a journal are what the touches made of them
pub stands_for : (s : Settings) (past : Journal) (noted : Notes) (n : ℕ) → Remembering s noted n → StandsFor (caches s (standing_by s past noted)) noted.touches
stands_for s past noted n w = (
  (refl, λ t h. w.last Sampled t (w.held Sampled t h)),
  (refl, λ t h. w.last NotSampled t (w.held NotSampled t h)),
)

some_found : {X : Type 0} (q : X → Bool) (xs : List X) → list_any q xs ≡ true → (x : X) × (find q xs ≡ Some x)
some_found q [] e = absurd (cc e)
some_found {X} q (x ∷ xs) e = go (q x) e (some_found q xs)
  where
    go : (b : Bool) → (b || list_any q xs) ≡ true → (list_any q xs ≡ true → (y : X) × (find q xs ≡ Some y)) → (y : X) × (cond b (Some x) (find q xs) ≡ Some y)
    go true h f = (x, refl)
    go false h f = f h

-- no cache holds a trace of the buffer
pub buffered_not_cached : (s : Settings) (noted : Notes) (n : ℕ) → Remembering s noted n → (p : Opening) → Split p (in_buffer s noted) → (v : Verdict) (b : Bool) → in_cache s noted v p.trace ≡ b → b ≡ false
buffered_not_cached s noted n w p k v false e = refl
buffered_not_cached s noted n w p k v true e =
    let own = λ (o : Opening). same_trace o.trace p.trace in
    let old = w.held v p.trace e in
    let q = some_found own (in_buffer s noted) (ap (list_any own) k.is ∙ any_split own k.front k.back p (same_trace-refl p.trace)) in
    let front = buffer_front s.num_traces noted.openings in
    let l : latest_episode noted p.trace ≡ Some q.0 = ap (find own) front.1 ∙ find_front own (in_buffer s noted) front.0 q.0 q.1 in
    let is : q.0 ≡ old.opening = cc (l, old.latest) in
    let at = found own (in_buffer s noted) q.0 q.1 in
    let inside : is_in_buffer s noted q.0.at ≡ true = ap (list_any (λ (x : Opening). x.at == q.0.at)) at.is ∙ any_split (λ (x : Opening). x.at == q.0.at) at.front at.back q.0 (eq-eqb q.0.at q.0.at refl) in
    sym inside ∙ ap (λ (o : Opening). is_in_buffer s noted o.at) is ∙ old.out

-- ---- what the caches become

pub sizes_asked : (t : TraceId) (c : CacheLists) → ((after_asking t c).sampled.size ≡ c.sampled.size) × ((after_asking t c).not_sampled.size ≡ c.not_sampled.size)
sizes_asked t c = go (is_held t c.sampled.traces)
  where
    go : (b : Bool) → let x = cond b (record c { sampled = renews t c.sampled }) (record c { not_sampled = renews t c.not_sampled }) in (x.sampled.size ≡ c.sampled.size) × (x.not_sampled.size ≡ c.not_sampled.size)
    go true = (refl, refl)
    go false = (refl, refl)

-- a put that found memory
put_as : (t : TraceId) (traces : List TraceId) (size : ℕ) → let l : TraceList = record { traces = traces; size = size } in (r : Remembered) × PutAs t l r (list_after_put t l) × (is_lost r ≡ false)
put_as t traces zero = (Off, (refl, refl), refl)
put_as t traces (suc n) = (Kept, (omega arith, rw (ne_eqb (suc n) 0 (λ e. omega (arith, e))) refl), refl)

pub put_remembers : (t : TraceId) (v : Verdict) (c : CacheLists) → (r : Remembered) × Remembers t v c r (after_put t v c) × (is_lost r ≡ false)
put_remembers t Sampled c = let w = put_as t c.sampled.traces c.sampled.size in (w.0, (w.1, refl), w.2)
put_remembers t NotSampled c = let w = put_as t c.not_sampled.traces c.not_sampled.size in (w.0, (w.1, refl), w.2)

size_put : (t : TraceId) (l : TraceList) (b : Bool) → (cond b l (puts t l)).size ≡ l.size
size_put t l true = refl
size_put t l false = refl

pub sizes_put : (t : TraceId) (v : Verdict) (c : CacheLists) → ((after_put t v c).sampled.size ≡ c.sampled.size) × ((after_put t v c).not_sampled.size ≡ c.not_sampled.size)
sizes_put t Sampled c = (size_put t c.sampled (c.sampled.size == 0), refl)
sizes_put t NotSampled c = (refl, size_put t c.not_sampled (c.not_sampled.size == 0))

-- ---- a span of this trace

-- the caches' answer, by how the trace stands in them
pub state_asked : (t : TraceId) (c : CacheLists) → state_cached c.sampled.traces c.not_sampled.traces t ≡ option_map (λ (v : Verdict). Some v) (asked t c)
state_asked t c = go (is_held t c.sampled.traces) (is_held t c.not_sampled.traces)
  where
    go : (a b : Bool) → cond a (Some (Some Sampled)) (cond b (Some (Some NotSampled)) None) ≡ option_map (λ (v : Verdict). Some v) (cond a (Some Sampled) (cond b (Some NotSampled) None))
    go true b = refl
    go false true = refl
    go false false = refl

pub asked_from : (r : Option Verdict) (v : Verdict) → option_map (λ (x : Verdict). Some x) r ≡ Some (Some v) → r ≡ Some v
asked_from None v e = absurd (cc e)
asked_from (Some x) v e = cc e

pub asked_none : (r : Option Verdict) → option_map (λ (x : Verdict). Some x) r ≡ None → r ≡ None
asked_none None e = refl
asked_none (Some x) e = absurd (cc e)
