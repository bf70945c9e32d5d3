-- Several shards take items in turn, and what that releases is pulled.
-- For the contracts of `close`, `drain`, `end_all`, `take_queued` and others.
use Rattle.std.proofs.Common.{add-one, ◌≡◌, ℕ, zero, suc, ◌+◌, Bool, true, false, List, [], ◌∷◌, ◌++◌, length, replicate, refl, sym, ap, subst, ◌∙◌, append_assoc, append-nil, arith}
use Rattle.std.specs.List.{list_all, slice_set}
use Rattle.std.proofs.lemmas.List.Sums.{sum_by-cons}
use Rattle.std.proofs.lemmas.Bool.{and_parts}
use Rattle.otlp_types.specs.declared.arrival.Arrival.{Arrival}
use Rattle.otlp_types.specs.declared.arrival.Item.{Item}
use Rattle.otlp_types.specs.declared.arrival.Item.TheVariants.{Span, Tick, End}
use Rattle.rate_budget.specs.Grant.{Asking}
use Rattle.rate_budget.specs.Budget.{limiter_counts}
use Rattle.journal_theory.specs.Journal.{Settings, Journal}
use Rattle.shard_core.specs.Held.{Held, settings, has_due}
use Rattle.shard_core.specs.Taking.{ends_after}
use Rattle.span_ids.specs.declared.outcome.Reason.{Reason}
use Rattle.script_run.specs.World.{ShardTurn, TakesFor, TakesEach, TakesRounds, to_each, ends_from}
use Rattle.script_run.specs.Counts.{dropped_by_journal}
use Rattle.script_session.specs.Pulling.{Export, Counts, TakesItems, HaveSettings, AreQuiet, HaveReleased, dropped_by_all, Taking, EachTakes, RoundsTaken, is_queued}
use Rattle.script_session.proofs.Adds.{none-dropped, plus-none, plus-two}
use Rattle.script_session.proofs.Pulls.{PullsAll-append}
use Rattle.script_session.specs.Staying.{PullsAll-none}

-- ---- what a queue holds

pub first-queued : (item : Item) (items all : List Item) → all ≡ item ∷ items → list_all is_queued all ≡ true → is_queued item ≡ true
first-queued item items all e h = let P = λ (xs : List Item). list_all is_queued xs ≡ true in (and_parts (is_queued item) (list_all is_queued items) (subst P e h)).0

pub rest-queued : (item : Item) (items all : List Item) → all ≡ item ∷ items → list_all is_queued all ≡ true → list_all is_queued items ≡ true
rest-queued item items all e h = let P = λ (xs : List Item). list_all is_queued xs ≡ true in (and_parts (is_queued item) (list_all is_queued items) (subst P e h)).1

pub queued-keeps_ends : (item : Item) (ends : List Bool) → is_queued item ≡ true → ends_after item ends ≡ ends
queued-keeps_ends (Span a) ends h = refl
queued-keeps_ends (Tick m) ends h = absurd (cc h)
queued-keeps_ends (End sender) ends h = absurd (cc h)

-- ---- the first shard, and the others

pub EachTakes-none : (limiter : Counts) (e : Export) → EachTakes [] limiter e [] [] limiter e
EachTakes-none limiter e = record { takes = λ s pasts asked alike has is. by_pasts s pasts asked has is }
  where
    by_pasts : (s : Settings) (pasts : List Journal) (asked : List Asking) → HaveReleased [] pasts → limiter ≡ limiter_counts s.policies asked → Taking (TakesEach s pasts asked []) s pasts e [] limiter e
    by_pasts s [] asked has is = record {
      nows = [];
      asked_now = asked;
      released = [];
      dropped = λ reason. 0;
      have_released = tt;
      limiter_is = is;
      takes = (refl, refl);
      drops = λ reason. plus-none (dropped_by_all s reason []);
      pulls = PullsAll-none e _ none-dropped;
    }
    by_pasts s (p ∷ ps) asked has is = absurd has

-- there is no shard
pub EachTakes-empty : (shards : List Held) (items : List (List Item)) (limiter : Counts) (e : Export) → length shards ≡ 0 → length items ≡ length shards → EachTakes shards limiter e items shards limiter e
EachTakes-empty [] [] limiter e none same = EachTakes-none limiter e
EachTakes-empty [] (i ∷ is) limiter e none same = absurd (omega (arith, same))
EachTakes-empty (h ∷ hs) items limiter e none same = absurd (omega (arith, none))

-- of the first and of the others
plus-each : (all first rest before one others x y : ℕ) → all ≡ first + rest → before ≡ one + others → first ≡ one + x → rest ≡ others + y → all ≡ before + (x + y)
plus-each all first rest before one others x y a b c d = omega arith

pub EachTakes-cons : (old new : Held) (olds news : List Held) (start lent last : Counts) (own : List Item) (others : List (List Item)) (before between after : Export) → settings new ≡ settings old
    → TakesItems old start before own new lent between → EachTakes olds lent between others news last after → EachTakes (old ∷ olds) start before (own ∷ others) (new ∷ news) last after
EachTakes-cons old new olds news start lent last own others before between after same t e = record { takes = λ s pasts asked alike has is. by_pasts s pasts asked alike has is }
  where
    by_pasts : (s : Settings) (pasts : List Journal) (asked : List Asking) → HaveSettings s (old ∷ olds) → HaveReleased (old ∷ olds) pasts → start ≡ limiter_counts s.policies asked
        → Taking (TakesEach s pasts asked (own ∷ others)) s pasts before (new ∷ news) last after
    by_pasts s [] asked alike has is = absurd has
    by_pasts s (p ∷ ps) asked alike has is =
        let past : ShardTurn = record { journal = p; askings = asked } in
        let L = λ (x : Settings). start ≡ limiter_counts x.policies asked in
        let first = t.takes past (record { released_all = has.0; limiter_is = subst L (sym alike.0) is }) in
        let now = first.0 in
        let one = first.2 in
        let M = λ (x : Settings). lent ≡ limiter_counts x.policies now.askings in
        let rest = e.takes s ps now.askings alike.1 has.1 (subst M (same ∙ alike.0) first.1.limiter_is) in
        let P = λ (x : Settings). TakesFor x past own now one.released in
        let Q = λ (x : Settings). (reason : Reason) → dropped_by_journal x reason now.journal ≡ dropped_by_journal x reason p + one.dropped reason in
        let drops : Q s = subst Q alike.0 one.drops in
        record {
          nows = now.journal ∷ rest.nows;
          asked_now = rest.asked_now;
          released = one.released ++ rest.released;
          dropped = λ reason. one.dropped reason + rest.dropped reason;
          have_released = (first.1.released_all, rest.have_released);
          limiter_is = rest.limiter_is;
          takes = (one.released, rest.released, now.askings, subst P alike.0 one.takes, rest.takes, refl);
          drops = λ reason. plus-each (dropped_by_all s reason (now.journal ∷ rest.nows)) (dropped_by_journal s reason now.journal) (dropped_by_all s reason rest.nows)
              (dropped_by_all s reason (p ∷ ps)) (dropped_by_journal s reason p) (dropped_by_all s reason ps) (one.dropped reason) (rest.dropped reason)
              (sum_by-cons (dropped_by_journal s reason) now.journal rest.nows) (sum_by-cons (dropped_by_journal s reason) p ps) (drops reason) (rest.drops reason);
          pulls = PullsAll-append before between after one.released rest.released one.dropped rest.dropped one.pulls rest.pulls;
        }

-- what is kept of the first shard and of the others is kept of all
pub AreQuiet-cons : (item : Item) (old new : Held) (olds news : List Held) → new.standing.ends ≡ ends_after item old.standing.ends → has_due new ≡ false
    → ((ends : List Bool) → AreQuiet ends olds → AreQuiet (ends_after item ends) news) → (ends : List Bool) → AreQuiet ends (old ∷ olds) → AreQuiet (ends_after item ends) (new ∷ news)
AreQuiet-cons item old new olds news ends_is quiet rest ends q = ((ends_is ∙ ap (ends_after item) q.0.0, quiet), rest ends q.1)

-- ---- rounds

pub RoundsTaken-none : (shards : List Held) (limiter : Counts) (e : Export) → RoundsTaken shards limiter e [] shards limiter e
RoundsTaken-none shards limiter e = record {
  takes = λ s pasts asked alike has is.
      record {
        nows = pasts;
        asked_now = asked;
        released = [];
        dropped = λ reason. 0;
        have_released = has;
        limiter_is = is;
        takes = (refl, refl, refl);
        drops = λ reason. plus-none (dropped_by_all s reason pasts);
        pulls = PullsAll-none e _ none-dropped;
      };
}

TakesRounds-push : (s : Settings) (a b c : List Journal) (asked lent last_asked : List Asking) (rounds : List (List (List Item))) (last : List (List Item)) (xs ys : List Arrival)
    → TakesRounds s a asked rounds b lent xs → TakesEach s b lent last c last_asked ys → TakesRounds s a asked (rounds ++ last ∷ []) c last_asked (xs ++ ys)
TakesRounds-push s a b c asked lent last_asked [] last xs ys t e =
    let P = λ (j : List Journal). TakesEach s j lent last c last_asked ys in
    let Q = λ (x : List Asking). TakesEach s a x last c last_asked ys in
    (c, last_asked, ys, [], subst Q t.1 (subst P t.0 e), (refl, refl, refl), ap (λ (zs : List Arrival). zs ++ ys) t.2 ∙ sym (append-nil ys))
TakesRounds-push s a b c asked lent last_asked (round ∷ rounds) last xs ys t e = (
  t.0,
  t.1,
  t.2,
  t.3 ++ ys,
  t.4,
  TakesRounds-push s t.0 b c t.1 lent last_asked rounds last t.3 ys t.5 e,
  ap (λ (zs : List Arrival). zs ++ ys) t.6 ∙ append_assoc t.2 t.3 ys,
)

-- one more round
pub RoundsTaken-push : (old mid new : List Held) (start lent end : Counts) (rounds : List (List (List Item))) (last : List (List Item)) (before between after : Export)
    → ((s : Settings) → HaveSettings s old → HaveSettings s mid)
    → RoundsTaken old start before rounds mid lent between → EachTakes mid lent between last new end after → RoundsTaken old start before (rounds ++ last ∷ []) new end after
RoundsTaken-push old mid new start lent end rounds last before between after keeps r e = record {
  takes = λ s pasts asked alike has is.
      let so_far = r.takes s pasts asked alike has is in
      let step = e.takes s so_far.nows so_far.asked_now (keeps s alike) so_far.have_released so_far.limiter_is in
      record {
        nows = step.nows;
        asked_now = step.asked_now;
        released = so_far.released ++ step.released;
        dropped = λ reason. so_far.dropped reason + step.dropped reason;
        have_released = step.have_released;
        limiter_is = step.limiter_is;
        takes = TakesRounds-push s pasts so_far.nows step.nows asked so_far.asked_now step.asked_now rounds last so_far.released step.released so_far.takes step.takes;
        drops = λ reason. plus-two (dropped_by_all s reason step.nows) (dropped_by_all s reason so_far.nows) (dropped_by_all s reason pasts) (so_far.dropped reason) (step.dropped reason) (step.drops reason) (so_far.drops reason);
        pulls = PullsAll-append before between after so_far.released step.released so_far.dropped step.dropped so_far.pulls step.pulls;
      };
}

-- ---- the Ends in turn

ends_from-more : {X : Type 0} (first count : ℕ) (each : List X) → ends_from first (suc count) each ≡ ends_from first count each ++ to_each (End (first + count)) each ∷ []
ends_from-more first zero each = ap (λ (n : ℕ). to_each (End n) each ∷ []) (let e : first ≡ first + 0 = omega arith in e)
ends_from-more first (suc count) each =
    ap (λ rounds. to_each (End first) each ∷ rounds) (ends_from-more (first + 1) count each ∙ ap (λ (n : ℕ). ends_from (first + 1) count each ++ to_each (End n) each ∷ []) (let e : first + 1 + count ≡ first + suc count = omega arith in e))

pub ends_from-next : {X : Type 0} (count : ℕ) (each : List X) → ends_from 0 (count + 1) each ≡ ends_from 0 count each ++ to_each (End count) each ∷ []
ends_from-next {X} count each = ap (λ (n : ℕ). ends_from 0 n each) (add-one count) ∙ ends_from-more 0 count each ∙ ap (λ (n : ℕ). ends_from 0 count each ++ to_each (End n) each ∷ []) (let e : 0 + count ≡ count = omega arith in e)

pub to_each-same : {X Y : Type 0} (item : Item) (xs : List X) (ys : List Y) → length xs ≡ length ys → to_each item xs ≡ to_each item ys
to_each-same item [] [] e = refl
to_each-same item [] (y ∷ ys) e = absurd (omega (arith, e))
to_each-same item (x ∷ xs) [] e = absurd (omega (arith, e))
to_each-same item (x ∷ xs) (y ∷ ys) e = ap (λ rest. (item ∷ []) ∷ rest) (to_each-same item xs ys (omega (arith, e)))

pub ends_from-same : {X Y : Type 0} (first count : ℕ) (xs : List X) (ys : List Y) → length xs ≡ length ys → ends_from first count xs ≡ ends_from first count ys
ends_from-same first zero xs ys e = refl
ends_from-same first (suc count) xs ys e = let one = to_each-same (End first) xs ys e in let rest = ends_from-same (first + 1) count xs ys e in cc (one, rest)

-- the first so many senders have ended, and so many haven't
abbrev pub ended : (ended left : ℕ) → List Bool
ended n m = replicate n true ++ replicate m false

pub ended-next : (n m : ℕ) → slice_set (ended n (suc m)) n true ≡ ended (suc n) m
ended-next zero m = refl
ended-next (suc n) m = ap (λ bs. true ∷ bs) (ended-next n m)

pub ended-open : (n m : ℕ) → list_all (λ b. b) (ended n (suc m)) ≡ false
ended-open zero m = refl
ended-open (suc n) m = ended-open n m

pub ended-all : (n : ℕ) → ended n 0 ≡ replicate n true
ended-all n = append-nil (replicate n true)
