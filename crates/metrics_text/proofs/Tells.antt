-- The text tells each number.
-- For the clause of `tells_all`.
use Rattle.std.proofs.Common.{◌≡◌, ◌≢◌, ◌+◌, suc, ◌^◌, ◌<◌, ◌%◌, ◌++◌, ◌∷◌, ℕ, List, [], ap, sym, ◌∙◌, append_assoc, append-nil, arith, drop, length, refl}
use Rattle.std.specs.Prelude.{codes, decimal, map, Option}
use Rattle.std.specs.List.{AllByRecursion, concat}
use Rattle.std.proofs.Math.Seq.{drop-append_seam}
use Rattle.std.proofs.lemmas.Fmt.{decimal_by_steps, decimal_injective}
use Rattle.span_ids.specs.declared.outcome.Reason.{Reason}
use Rattle.span_ids.specs.declared.outcome.Reason.TheVariants.{InvalidId, QueueFull, NoMemory, Evicted, NotSampled, LateNotSampled, ExporterDown}
use Rattle.drop_ledger.specs.Sums.{Fits}
use Rattle.drop_ledger.specs.declared.count.Count.{Count}
use Rattle.drop_ledger.specs.declared.count.Count.TheVariants.{Received, Handed, Dropped}
use Rattle.metrics_text.specs.declared.kind.FamilyKind.{FamilyKind}
use Rattle.metrics_text.specs.declared.kind.FamilyKind.TheVariants.{Counter, Gauge}
use Rattle.metrics_text.specs.declared.metrics.Metrics.{Metrics}
use Rattle.metrics_text.specs.declared.figure.Figure.{Figure}
use Rattle.metrics_text.specs.declared.figure.Figure.TheVariants.{SpansWaiting, ReceivedBytes, SentBytes, Lines, OutputBytes, Memory, Answered200, Answered400, Answered404, Answered405, Answered408, Answered413, Answered415, Answered431, Answered503, LateSampled, LateNotSampled, Rejected, AttemptsTaken, AttemptsRefused, AttemptsUnanswered, OutputStalled, OldestWaiting, LogWarnings, LogErrors, ClockJumps, ClosedIdle, Incomplete}
use Rattle.metrics_text.specs.Figures.{all_figures, figure_row, figure_text, figure_value, figures_text, head_of}
use Rattle.metrics_text.specs.declared.metrics.ShardNumbers.{ShardNumbers}
use Rattle.metrics_text.specs.declared.figure.ShardFigure.{ShardFigure}
use Rattle.metrics_text.specs.declared.figure.ShardFigure.TheVariants.{Queued, Traces, Spans}
use Rattle.metrics_text.specs.Shards.{shard_line, shard_lines, shard_row, shard_text, shard_value, shards_text}
use Rattle.metrics_text.specs.declared.metrics.PolicyNumbers.{PolicyNumbers}
use Rattle.metrics_text.specs.Deciders.{decided_labels, decided_line, decided_lines, decided_name, escaped, place_label, policies_text, value_of}
use Rattle.metrics_text.specs.Text.{OfPolicy, OfShard, TellsAll, names, places}
use Rattle.metrics_text.specs.Families.{build, connections, dropped, dropped_sample, families, family, family_text, handed, head_lines, labelled, number_of, reason_word, reasons, received, sample, sample_line, uptime, word_of}

-- ---- a number, and a line feed behind it

-- no byte is a line feed
abbrev NoFeed : List ℕ → Type 0
NoFeed [] = Unit {0}
NoFeed (b ∷ bytes) = (b ≢ 10) × NoFeed bytes

no_feed_more : (xs : List ℕ) (b : ℕ) → NoFeed xs → b ≢ 10 → NoFeed (xs ++ (b ∷ []))
no_feed_more [] b h n = (n, tt)
no_feed_more (x ∷ xs) b h n = (h.0, no_feed_more xs b h.1 n)

no_feed : (n : ℕ) → n < 2 ^ 64 → NoFeed (decimal n)
no_feed n small =
    decimal_by_steps (λ n ds. NoFeed ds) (λ n le. (omega arith, tt)) (λ n ds le h. no_feed_more ds (48 + n % 10) h (omega arith)) n small

-- two texts up to their first line feeds
cut_at_feed : (xs ys us vs : List ℕ) → NoFeed xs → NoFeed ys → xs ++ (10 ∷ us) ≡ ys ++ (10 ∷ vs) → (xs ≡ ys) × (us ≡ vs)
cut_at_feed [] [] us vs h k e = (refl, ap (drop 1) e)
cut_at_feed [] (y ∷ ys) us vs h k e = let same : y ≡ 10 = cc in absurd (k.0 same)
cut_at_feed (x ∷ xs) [] us vs h k e = let same : x ≡ 10 = cc in absurd (h.0 same)
cut_at_feed (x ∷ xs) (y ∷ ys) us vs h k e =
    let first : x ≡ y = cc in
    let rest = cut_at_feed xs ys us vs h.1 k.1 (ap (drop 1) e) in
    let tail : xs ≡ ys = rest.0 in (cc, rest.1)

-- the number that stands in front of a line feed
number_told : (m n : ℕ) (us vs : List ℕ) → m < 2 ^ 64 → n < 2 ^ 64 → decimal m ++ (10 ∷ us) ≡ decimal n ++ (10 ∷ vs) → (m ≡ n) × (us ≡ vs)
number_told m n us vs a b e =
    let cut = cut_at_feed (decimal m) (decimal n) us vs (no_feed m a) (no_feed n b) e in (decimal_injective m n a b cut.0, cut.1)

-- the same text in front
strip : (front us vs : List ℕ) → front ++ us ≡ front ++ vs → us ≡ vs
strip front us vs e = sym (drop-append_seam front us) ∙ ap (drop (length front)) e ∙ drop-append_seam front vs

-- ---- samples and families

line_is : (name labels : List ℕ) (n : ℕ) (rest : List ℕ) → sample_line name (sample labels n) ++ rest ≡ (name ++ (labels ++ codes " ")) ++ (decimal n ++ (10 ∷ rest))
line_is name labels n rest = simp append_assoc

line_told : (name labels : List ℕ) (m n : ℕ) (us vs : List ℕ) → m < 2 ^ 64 → n < 2 ^ 64
    → sample_line name (sample labels m) ++ us ≡ sample_line name (sample labels n) ++ vs → (m ≡ n) × (us ≡ vs)
line_told name labels m n us vs a b e =
    number_told m n us vs a b (strip (name ++ (labels ++ codes " ")) _ _ (sym (line_is name labels m us) ∙ e ∙ line_is name labels n vs))

single_is : (head line rest : List ℕ) → (head ++ (line ++ [])) ++ rest ≡ head ++ (line ++ rest)
single_is head line rest = simp (append_assoc, append-nil)

single_told : (name help labels : List ℕ) (kind : FamilyKind) (m n : ℕ) (us vs : List ℕ) → m < 2 ^ 64 → n < 2 ^ 64
    → family_text (family name help kind (sample labels m ∷ [])) ++ us ≡ family_text (family name help kind (sample labels n ∷ [])) ++ vs → (m ≡ n) × (us ≡ vs)
single_told name help labels kind m n us vs a b e =
    let head : List ℕ = head_lines name help (word_of kind) in
    line_told name labels m n us vs a b (strip head _ _ (sym (single_is head (sample_line name (sample labels m)) us) ∙ e ∙ single_is head (sample_line name (sample labels n)) vs))

-- the numbers of these reasons are the same
abbrev SameFor : List Reason → (a b : List ℕ) → Type 0
SameFor [] a b = Unit {0}
SameFor (reason ∷ rest) a b = (number_of a (Dropped reason) ≡ number_of b (Dropped reason)) × SameFor rest a b

abbrev lines_for : (name report : List ℕ) → List Reason → List ℕ
lines_for name report rs = concat (map (sample_line name) (map (dropped_sample report) rs))

lines_told : (name a b : List ℕ) (rs : List Reason) (us vs : List ℕ) → Fits a → Fits b
    → lines_for name a rs ++ us ≡ lines_for name b rs ++ vs → SameFor rs a b × (us ≡ vs)
lines_told name a b [] us vs f g e = (tt, e)
lines_told name a b (reason ∷ rest) us vs f g e =
    let lines : List ℕ = sample_line name (dropped_sample a reason) in
    let others : List ℕ = sample_line name (dropped_sample b reason) in
    let one = line_told name (labelled (codes "reason") (reason_word reason)) (number_of a (Dropped reason)) (number_of b (Dropped reason)) (lines_for name a rest ++ us) (lines_for name b rest ++ vs)
    (f (Dropped reason)) (g (Dropped reason)) (sym (append_assoc lines (lines_for name a rest) us) ∙ e ∙ append_assoc others (lines_for name b rest) vs) in
    let more = lines_told name a b rest us vs f g one.1 in ((one.0, more.0), more.1)

dropped_told : (a b us vs : List ℕ) → Fits a → Fits b → family_text (dropped a) ++ us ≡ family_text (dropped b) ++ vs → SameFor reasons a b × (us ≡ vs)
dropped_told a b us vs f g e =
    let name : List ℕ = codes "tsc_spans_dropped_total" in
    let head : List ℕ = head_lines name (codes "Spans that were given up, by the reason.") (codes "counter") in
    lines_told name a b reasons us vs f g (strip head _ _ (sym (append_assoc head (lines_for name a reasons) us) ∙ e ∙ append_assoc head (lines_for name b reasons) vs))

same_for : (a b : List ℕ) → SameFor reasons a b → (reason : Reason) → number_of a (Dropped reason) ≡ number_of b (Dropped reason)
same_for a b s InvalidId = s.0
same_for a b s QueueFull = s.1.0
same_for a b s NoMemory = s.1.1.0
same_for a b s Evicted = s.1.1.1.0
same_for a b s NotSampled = s.1.1.1.1.0
same_for a b s LateNotSampled = s.1.1.1.1.1.0
same_for a b s ExporterDown = s.1.1.1.1.1.1.0

same_counts : (a b : List ℕ) → number_of a Received ≡ number_of b Received → number_of a Handed ≡ number_of b Handed → SameFor reasons a b → (count : Count) → number_of a count ≡ number_of b count
same_counts a b r h s Received = r
same_counts a b r h s Handed = h
same_counts a b r h s (Dropped reason) = same_for a b s reason

-- the values of these figures are the same
abbrev SameValues : List Figure → (a b : Metrics) → Type 0
SameValues [] a b = Unit {0}
SameValues (f ∷ rest) a b = (figure_value a f ≡ figure_value b f) × SameValues rest a b

abbrev texts_of : Metrics → List Figure → List ℕ
texts_of m fs = concat (map (figure_text m) fs)

figure_is : (head line rest us : List ℕ) → ((head ++ line) ++ rest) ++ us ≡ head ++ (line ++ (rest ++ us))
figure_is head line rest us = simp append_assoc

figures_told : (a b : Metrics) (fs : List Figure) (us vs : List ℕ) → ((f : Figure) → figure_value a f < 2 ^ 64) → ((f : Figure) → figure_value b f < 2 ^ 64) → texts_of a fs ++ us ≡ texts_of b fs ++ vs → SameValues fs a b × (us ≡ vs)
figures_told a b [] us vs x y e = (tt, e)
figures_told a b (f ∷ rest) us vs x y e =
    let head : List ℕ = head_of (figure_row f) in
    let line : List ℕ = sample_line (figure_row f).name (sample (figure_row f).labels (figure_value a f)) in
    let other : List ℕ = sample_line (figure_row f).name (sample (figure_row f).labels (figure_value b f)) in
    let one = line_told (figure_row f).name (figure_row f).labels (figure_value a f) (figure_value b f) (texts_of a rest ++ us) (texts_of b rest ++ vs) (x f) (y f)
    (strip head _ _ (sym (figure_is head line (texts_of a rest) us) ∙ e ∙ figure_is head other (texts_of b rest) vs)) in
    let more = figures_told a b rest us vs x y one.1 in ((one.0, more.0), more.1)

same_values : (a b : Metrics) → SameValues all_figures a b → (f : Figure) → figure_value a f ≡ figure_value b f
same_values a b s SpansWaiting = s.0
same_values a b s ReceivedBytes = s.1.0
same_values a b s SentBytes = s.1.1.0
same_values a b s Lines = s.1.1.1.0
same_values a b s OutputBytes = s.1.1.1.1.0
same_values a b s Memory = s.1.1.1.1.1.0
same_values a b s Answered200 = s.1.1.1.1.1.1.0
same_values a b s Answered400 = s.1.1.1.1.1.1.1.0
same_values a b s Answered404 = s.1.1.1.1.1.1.1.1.0
same_values a b s Answered405 = s.1.1.1.1.1.1.1.1.1.0
same_values a b s Answered408 = s.1.1.1.1.1.1.1.1.1.1.0
same_values a b s Answered413 = s.1.1.1.1.1.1.1.1.1.1.1.0
same_values a b s Answered415 = s.1.1.1.1.1.1.1.1.1.1.1.1.0
same_values a b s Answered431 = s.1.1.1.1.1.1.1.1.1.1.1.1.1.0
same_values a b s Answered503 = s.1.1.1.1.1.1.1.1.1.1.1.1.1.1.0
same_values a b s LateSampled = s.1.1.1.1.1.1.1.1.1.1.1.1.1.1.1.0
same_values a b s LateNotSampled = s.1.1.1.1.1.1.1.1.1.1.1.1.1.1.1.1.0
same_values a b s Rejected = s.1.1.1.1.1.1.1.1.1.1.1.1.1.1.1.1.1.0
same_values a b s AttemptsTaken = s.1.1.1.1.1.1.1.1.1.1.1.1.1.1.1.1.1.1.0
same_values a b s AttemptsRefused = s.1.1.1.1.1.1.1.1.1.1.1.1.1.1.1.1.1.1.1.0
same_values a b s AttemptsUnanswered = s.1.1.1.1.1.1.1.1.1.1.1.1.1.1.1.1.1.1.1.1.0
same_values a b s OutputStalled = s.1.1.1.1.1.1.1.1.1.1.1.1.1.1.1.1.1.1.1.1.1.0
same_values a b s OldestWaiting = s.1.1.1.1.1.1.1.1.1.1.1.1.1.1.1.1.1.1.1.1.1.1.0
same_values a b s LogWarnings = s.1.1.1.1.1.1.1.1.1.1.1.1.1.1.1.1.1.1.1.1.1.1.1.0
same_values a b s LogErrors = s.1.1.1.1.1.1.1.1.1.1.1.1.1.1.1.1.1.1.1.1.1.1.1.1.0
same_values a b s ClockJumps = s.1.1.1.1.1.1.1.1.1.1.1.1.1.1.1.1.1.1.1.1.1.1.1.1.1.0
same_values a b s ClosedIdle = s.1.1.1.1.1.1.1.1.1.1.1.1.1.1.1.1.1.1.1.1.1.1.1.1.1.1.0
same_values a b s Incomplete = s.1.1.1.1.1.1.1.1.1.1.1.1.1.1.1.1.1.1.1.1.1.1.1.1.1.1.1.0

-- ---- shards

shards_is : (line rest us : List ℕ) → (line ++ rest) ++ us ≡ line ++ (rest ++ us)
shards_is line rest us = append_assoc line rest us

-- the values of a number are the same for all shards
abbrev SameShards : ShardFigure → (xs ys : List ShardNumbers) → Type 0
SameShards f [] ys = Unit {0}
SameShards f (x ∷ xs) [] = Unit {0}
SameShards f (x ∷ xs) (y ∷ ys) = (shard_value x f ≡ shard_value y f) × SameShards f xs ys

shards_told : (f : ShardFigure) (n : ℕ) (xs ys : List ShardNumbers) (us vs : List ℕ) → AllByRecursion OfShard xs → AllByRecursion OfShard ys → length xs ≡ length ys
    → shard_lines f n xs ++ us ≡ shard_lines f n ys ++ vs → SameShards f xs ys × (us ≡ vs)
shards_told f n [] [] us vs h k same e = (tt, e)
shards_told f n [] (y ∷ ys) us vs h k same e = absurd (omega (arith, same))
shards_told f n (x ∷ xs) [] us vs h k same e = absurd (omega (arith, same))
shards_told f n (x ∷ xs) (y ∷ ys) us vs h k same e =
    let one = line_told (shard_row f).name (labelled (codes "shard") (decimal n)) (shard_value x f) (shard_value y f) (shard_lines f (suc n) xs ++ us) (shard_lines f (suc n) ys ++ vs)
    (h.0 f) (k.0 f) (sym (shards_is (shard_line f n x) (shard_lines f (suc n) xs) us) ∙ e ∙ shards_is (shard_line f n y) (shard_lines f (suc n) ys) vs) in
    let more = shards_told f (suc n) xs ys us vs h.1 k.1 (omega (arith, same)) one.1 in ((one.0, more.0), more.1)

family_told : (f : ShardFigure) (xs ys : List ShardNumbers) (us vs : List ℕ) → AllByRecursion OfShard xs → AllByRecursion OfShard ys → length xs ≡ length ys
    → shard_text xs f ++ us ≡ shard_text ys f ++ vs → SameShards f xs ys × (us ≡ vs)
family_told f xs ys us vs h k same e =
    let head : List ℕ = head_lines (shard_row f).name (shard_row f).help (word_of Gauge) in
    shards_told f 0 xs ys us vs h k same (strip head _ _ (sym (append_assoc head (shard_lines f 0 xs) us) ∙ e ∙ append_assoc head (shard_lines f 0 ys) vs))

same_shards : (xs ys : List ShardNumbers) → length xs ≡ length ys → SameShards Queued xs ys → SameShards Traces xs ys → SameShards Spans xs ys → xs ≡ ys
same_shards [] [] same q t s = refl
same_shards [] (y ∷ ys) same q t s = absurd (omega (arith, same))
same_shards (x ∷ xs) [] same q t s = absurd (omega (arith, same))
same_shards (x ∷ xs) (y ∷ ys) same q t s =
    let rest : xs ≡ ys = same_shards xs ys (omega (arith, same)) q.1 t.1 s.1 in
    let first : x ≡ y = same_one x y q.0 t.0 s.0 in
    rw (first, rest) refl
  where
    same_one : (x y : ShardNumbers) → x.queued ≡ y.queued → x.traces ≡ y.traces → x.spans ≡ y.spans → x ≡ y
    same_one x y q t s =
        let of : ℕ → ℕ → ℕ → ShardNumbers = λ queued traces spans. record { queued = queued; traces = traces; spans = spans } in
        ap (λ n. of n x.traces x.spans) q ∙ ap (λ n. of y.queued n x.spans) t ∙ ap (λ n. of y.queued y.traces n) s

all_shards_told : (xs ys : List ShardNumbers) → AllByRecursion OfShard xs → AllByRecursion OfShard ys → length xs ≡ length ys → shards_text xs ≡ shards_text ys → xs ≡ ys
all_shards_told xs ys h k same e =
    let q = family_told Queued xs ys (shard_text xs Traces ++ (shard_text xs Spans ++ [])) (shard_text ys Traces ++ (shard_text ys Spans ++ [])) h k same e in
    let t = family_told Traces xs ys (shard_text xs Spans ++ []) (shard_text ys Spans ++ []) h k same q.1 in
    let s = family_told Spans xs ys [] [] h k same t.1 in
    same_shards xs ys same q.0 t.0 s.0

-- ---- policies

two_is : (one other rest us : List ℕ) → ((one ++ other) ++ rest) ++ us ≡ one ++ (other ++ (rest ++ us))
two_is one other rest us = simp append_assoc

-- the lines of a policy for which this value stands, and what is behind them
abbrev both_lines : (value : List ℕ) → (sampled not_sampled : ℕ) → (rest : List ℕ) → List ℕ
both_lines value sampled not_sampled rest = decided_line value (codes "sampled") sampled ++ (decided_line value (codes "not_sampled") not_sampled ++ rest)

abbrev lines_of : List PolicyNumbers → List ℕ
lines_of ps = concat (map decided_lines ps)

same_policy : (p q : PolicyNumbers) → p.name ≡ q.name → p.place ≡ q.place → p.sampled ≡ q.sampled → p.not_sampled ≡ q.not_sampled → p ≡ q
same_policy p q name place sampled not_sampled =
    let of : List ℕ → Option ℕ → ℕ → ℕ → PolicyNumbers = λ name place sampled not_sampled. record { name = name; place = place; sampled = sampled; not_sampled = not_sampled } in
    ap (λ n. of n p.place p.sampled p.not_sampled) name ∙ ap (λ n. of q.name n p.sampled p.not_sampled) place ∙ ap (λ n. of q.name q.place n p.not_sampled) sampled ∙ ap (λ n. of q.name q.place q.sampled n) not_sampled

policies_told : (ps qs : List PolicyNumbers) (us vs : List ℕ) → AllByRecursion OfPolicy ps → AllByRecursion OfPolicy qs → names ps ≡ names qs → places ps ≡ places qs → lines_of ps ++ us ≡ lines_of qs ++ vs → (ps ≡ qs) × (us ≡ vs)
policies_told [] [] us vs h k same at e = (refl, e)
policies_told [] (q ∷ qs) us vs h k same at e = absurd (cc same)
policies_told (p ∷ ps) [] us vs h k same at e = absurd (cc same)
policies_told (p ∷ ps) (q ∷ qs) us vs h k same at e =
    let name : p.name ≡ q.name = cc same in
    let place : p.place ≡ q.place = cc at in
    let value : value_of p ≡ value_of q = ap (λ n. escaped n ++ place_label p.place) name ∙ ap (λ o. escaped q.name ++ place_label o) place in
    let others : names ps ≡ names qs = ap (drop 1) same in
    let other_places : places ps ≡ places qs = ap (drop 1) at in
    let lines : both_lines (value_of p) p.sampled p.not_sampled (lines_of ps ++ us) ≡ both_lines (value_of p) q.sampled q.not_sampled (lines_of qs ++ vs)
    = sym (two_is (decided_line (value_of p) (codes "sampled") p.sampled) (decided_line (value_of p) (codes "not_sampled") p.not_sampled) (lines_of ps) us)
    ∙ e
    ∙ two_is (decided_line (value_of q) (codes "sampled") q.sampled) (decided_line (value_of q) (codes "not_sampled") q.not_sampled) (lines_of qs) vs
    ∙ ap (λ n. both_lines n q.sampled q.not_sampled (lines_of qs ++ vs)) (sym value) in
    let one = line_told decided_name (decided_labels (value_of p) (codes "sampled")) p.sampled q.sampled (decided_line (value_of p) (codes "not_sampled") p.not_sampled ++ (lines_of ps ++ us)) (decided_line (value_of p) (codes "not_sampled") q.not_sampled ++ (lines_of qs ++ vs)) h.0.0 k.0.0 lines in
    let two = line_told decided_name (decided_labels (value_of p) (codes "not_sampled")) p.not_sampled q.not_sampled (lines_of ps ++ us) (lines_of qs ++ vs) h.0.1 k.0.1 one.1 in
    let more = policies_told ps qs us vs h.1 k.1 others other_places two.1 in
    let first : p ≡ q = same_policy p q name place one.0 two.0 in
    let rest : ps ≡ qs = more.0 in (rw (first, rest) refl, more.1)

decided_told : (ps qs : List PolicyNumbers) (us vs : List ℕ) → AllByRecursion OfPolicy ps → AllByRecursion OfPolicy qs → names ps ≡ names qs → places ps ≡ places qs → policies_text ps ++ us ≡ policies_text qs ++ vs → (ps ≡ qs) × (us ≡ vs)
decided_told ps qs us vs h k same at e =
    let head : List ℕ = head_lines decided_name (codes "Traces that were decided, by the policy that decided.") (word_of Counter) in
    policies_told ps qs us vs h k same at (strip head _ _ (sym (append_assoc head (lines_of ps) us) ∙ e ∙ append_assoc head (lines_of qs) vs))

-- what stands behind the family of the spans that were given up, and behind that of the connections
abbrev from_uptime : Metrics → List PolicyNumbers → List ShardNumbers → List ℕ
from_uptime m ps xs = family_text (uptime m) ++ (family_text build ++ (figures_text m ++ (policies_text ps ++ shards_text xs)))

abbrev from_connections : Metrics → List PolicyNumbers → List ShardNumbers → List ℕ
from_connections m ps xs = family_text (connections m) ++ from_uptime m ps xs

six_then : (r h d c u b f : List ℕ) → (r ++ (h ++ (d ++ (c ++ (u ++ (b ++ [])))))) ++ f ≡ r ++ (h ++ (d ++ (c ++ (u ++ (b ++ f)))))
six_then r h d c u b f = simp (append_assoc, append-nil)

whole_is : (m : Metrics) (ps : List PolicyNumbers) (xs : List ShardNumbers) → concat (map family_text (families m)) ++ (figures_text m ++ (policies_text ps ++ shards_text xs))
    ≡ family_text (received m.report) ++ (family_text (handed m.report) ++ (family_text (dropped m.report) ++ from_connections m ps xs))
whole_is m ps xs =
    six_then (family_text (received m.report)) (family_text (handed m.report)) (family_text (dropped m.report)) (family_text (connections m)) (family_text (uptime m)) (family_text build) (figures_text m ++ (policies_text ps ++ shards_text xs))

pub all_told : TellsAll
all_told a b ps qs xs ys x y hp hq called at hx hy same e =
    let r = single_told (codes "tsc_spans_received_total") (codes "Spans of requests that were read.") [] Counter (number_of a.report Received) (number_of b.report Received)
    (family_text (handed a.report) ++ (family_text (dropped a.report) ++ from_connections a ps xs)) (family_text (handed b.report) ++ (family_text (dropped b.report) ++ from_connections b qs ys))
    (x.counts Received) (y.counts Received) (sym (whole_is a ps xs) ∙ e ∙ whole_is b qs ys) in
    let h = single_told (codes "tsc_spans_handed_total") (codes "Spans whose line the sink took whole.") [] Counter (number_of a.report Handed) (number_of b.report Handed)
    (family_text (dropped a.report) ++ from_connections a ps xs) (family_text (dropped b.report) ++ from_connections b qs ys) (x.counts Handed) (y.counts Handed) r.1 in
    let d = dropped_told a.report b.report (from_connections a ps xs) (from_connections b qs ys) x.counts y.counts h.1 in
    let o = single_told (codes "tsc_connections_open") (codes "Connections that are open.") [] Gauge a.open_connections b.open_connections (from_uptime a ps xs) (from_uptime b qs ys) x.open_connections y.open_connections d.1 in
    let u = single_told (codes "tsc_uptime_seconds") (codes "Seconds since the collector began.") [] Gauge a.uptime_seconds b.uptime_seconds (family_text build ++ (figures_text a ++ (policies_text ps ++ shards_text xs))) (family_text build ++ (figures_text b ++ (policies_text qs ++ shards_text ys))) x.uptime_seconds y.uptime_seconds o.1 in
    let f = figures_told a b all_figures (policies_text ps ++ shards_text xs) (policies_text qs ++ shards_text ys) x.figures y.figures (strip (family_text build) (figures_text a ++ (policies_text ps ++ shards_text xs)) (figures_text b ++ (policies_text qs ++ shards_text ys)) u.1) in
    let p = decided_told ps qs (shards_text xs) (shards_text ys) hp hq called at f.1 in
    let s = all_shards_told xs ys hx hy same p.1 in
    (record { counts = same_counts a.report b.report r.0 h.0 d.0; open_connections = o.0; uptime_seconds = u.0; figures = same_values a b f.0 }, p.0, s)
