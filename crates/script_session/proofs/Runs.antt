-- The shard takes items and decides, and what that releases is pulled.
-- For the clauses `takes` of `take_item` and `drain`.
use Rattle.std.proofs.Common.{◌≡◌, ℕ, ◌+◌, true, List, [], ◌∷◌, ◌++◌, length, refl, sym, ap, subst, ◌∙◌, append_assoc, append-nil, arith}
use Rattle.otlp_types.specs.declared.arrival.Item.{Item}
use Rattle.rate_budget.specs.Budget.{limiter_counts}
use Rattle.journal_theory.specs.Journal.{Settings, Journal}
use Rattle.span_ids.specs.declared.outcome.Reason.{Reason}
use Rattle.journal_theory.specs.Fate.{Effect, under, effect, output, effect_dealt, released_dealt, dropped_dealt}
use Rattle.shard_core.specs.Held.{Held, settings}
use Rattle.shard_core.specs.Taking.{entry, is_refusal, is_loss, released_by, dropped_by}
use Rattle.journal_theory.specs.Marked.{marks_apply}
use Rattle.shard_core.specs.declared.answer.Taken.{Taken}
use Rattle.script_run.specs.World.{ShardTurn, entry_of, with_entry, Takes}
use Rattle.script_run.specs.Counts.{dropped_by_journal}
use Rattle.script_session.specs.Pulling.{Export, Counts, PullsAll, HasTaken, TakesAndPulls, TakesItems, DecidesAll}
use Rattle.script_session.proofs.Adds.{none-dropped, plus-none, plus-two}
use Rattle.script_session.proofs.Pulls.{PullsAll-append}
use Rattle.script_session.specs.Staying.{PullsAll-none}

pub Takes-append : (s : Settings) (a b c : ShardTurn) (xs ys : List Item) → Takes s a xs b → Takes s b ys c → Takes s a (xs ++ ys) c
Takes-append s a b c [] ys p q = let P = λ (t : ShardTurn). Takes s t ys c in subst P p q
Takes-append s a b c (x ∷ xs) ys p q = (p.0, p.1, p.2, Takes-append s (with_entry s a (entry_of x p.0 p.1)) b c xs ys p.3 q)

pub TakesAndPulls-none : (s : Settings) (past : ShardTurn) (e : Export) → TakesAndPulls s past [] e past e
TakesAndPulls-none s past e = record {
  released = [];
  dropped = λ reason. 0;
  takes = (refl, sym (append-nil (output s past.journal)));
  drops = λ reason. plus-none (dropped_by_journal s reason past.journal);
  pulls = PullsAll-none e _ none-dropped;
}

pub TakesAndPulls-append : (s : Settings) (a b c : ShardTurn) (xs ys : List Item) (d e f : Export) → TakesAndPulls s a xs d b e → TakesAndPulls s b ys e c f
    → TakesAndPulls s a (xs ++ ys) d c f
TakesAndPulls-append s a b c xs ys d e f p q = record {
  released = p.released ++ q.released;
  dropped = λ reason. p.dropped reason + q.dropped reason;
  takes = (Takes-append s a b c xs ys p.takes.0 q.takes.0, q.takes.1 ∙ ap (λ zs. zs ++ q.released) p.takes.1 ∙ append_assoc (output s a.journal) p.released q.released);
  drops = λ reason. plus-two (dropped_by_journal s reason c.journal) (dropped_by_journal s reason b.journal) (dropped_by_journal s reason a.journal) (p.dropped reason) (q.dropped reason) (q.drops reason) (p.drops reason);
  pulls = PullsAll-append d e f p.released q.released p.dropped q.dropped p.pulls q.pulls;
}

-- ---- taking an item

-- what was released, and what was counted, is told by the whole effect
all-released : (s : Settings) (past : Journal) (dealt : ℕ) → effect_dealt s past dealt ≡ effect s past → released_dealt s past dealt ≡ output s past
all-released s past dealt e = ap (λ (f : Effect). f.released) e

all-dropped : (s : Settings) (past : Journal) (dealt : ℕ) (reason : Reason) → effect_dealt s past dealt ≡ effect s past → dropped_dealt s past dealt reason ≡ dropped_by_journal s reason past
all-dropped s past dealt reason e = ap (λ (f : Effect). length (under reason f.counted)) e

plus-steps : (n m k l p x y : ℕ) → m ≡ n → m ≡ k + y → k ≡ l + x → l ≡ p → n ≡ p + (x + y)
plus-steps n m k l p x y a b c d = omega arith

pub takes-one : (old mid new : Held) (first last : Counts) (past : ShardTurn) (item : Item) (taken : Taken) (before between after : Export)
    → marks_apply (settings old) (entry item taken) past.journal ≡ true → settings mid ≡ settings old → settings new ≡ settings mid
    → (has : HasTaken old first past)
    → released_dealt (settings old) (entry item taken ∷ past.journal) 0 ≡ released_dealt (settings old) past.journal has.released_all.dealt ++ released_by taken
    → ((reason : Reason) → dropped_dealt (settings old) (entry item taken ∷ past.journal) 0 reason ≡ dropped_dealt (settings old) past.journal has.released_all.dealt reason + dropped_by reason taken)
    → PullsAll before (released_by taken) (λ reason. dropped_by reason taken) between
    → DecidesAll (settings old) (entry item taken) past between new last after
    → (now : ShardTurn) × HasTaken new last now × TakesAndPulls (settings old) past (item ∷ []) before now after
takes-one old mid new first last past item taken before between after marks to_mid to_new has releases drops pulls decides =
    let s = settings old in
    let all = has.released_all in
    let now = with_entry s past (entry item taken) in
    let same : settings new ≡ s = to_new ∙ to_mid in
    let P = λ (x : Settings). effect_dealt x now.journal decides.dealt ≡ effect x now.journal in
    let L = λ (x : Settings). last ≡ limiter_counts x.policies now.askings in (
      now,
      record {
        released_all = record { dealt = decides.dealt; stands = decides.stands; all_dealt = subst P (sym same) decides.all_dealt };
        limiter_is = subst L (sym same) decides.limiter_is;
      },
      record {
        released = released_by taken ++ decides.released;
        dropped = λ reason. dropped_by reason taken + decides.dropped reason;
        takes = (
          (is_refusal taken, is_loss taken, marks, refl),
          sym (all-released s now.journal decides.dealt decides.all_dealt) ∙ decides.releases
              ∙ ap (λ zs. zs ++ decides.released) (releases ∙ ap (λ zs. zs ++ released_by taken) (all-released s past.journal all.dealt all.all_dealt))
              ∙ append_assoc (output s past.journal) (released_by taken) decides.released,
        );
        drops = λ reason. plus-steps (dropped_by_journal s reason now.journal) (dropped_dealt s now.journal decides.dealt reason) (dropped_dealt s (entry item taken ∷ past.journal) 0 reason)
            (dropped_dealt s past.journal all.dealt reason) (dropped_by_journal s reason past.journal) (dropped_by reason taken) (decides.dropped reason)
            (all-dropped s now.journal decides.dealt reason decides.all_dealt) (decides.drops reason) (drops reason) (all-dropped s past.journal all.dealt reason all.all_dealt);
        pulls = PullsAll-append before between after (released_by taken) decides.released (λ reason. dropped_by reason taken) decides.dropped pulls decides.pulls;
      },
    )

-- ---- several items

pub TakesItems-none : (h : Held) (limiter : Counts) (e : Export) → TakesItems h limiter e [] h limiter e
TakesItems-none h limiter e = record { takes = λ past has. (past, has, TakesAndPulls-none (settings h) past e) }

-- further items were taken
pub TakesItems-append : (old mid new : Held) (first lent last : Counts) (xs ys : List Item) (before between after : Export) → settings mid ≡ settings old
    → TakesItems old first before xs mid lent between → TakesItems mid lent between ys new last after → TakesItems old first before (xs ++ ys) new last after
TakesItems-append old mid new first lent last xs ys before between after same p q = record {
  takes = λ past has.
      let so_far = p.takes past has in
      let step = q.takes so_far.0 so_far.1 in
      let P = λ (s : Settings). TakesAndPulls s so_far.0 ys between step.0 after in
      (step.0, step.1, TakesAndPulls-append (settings old) past so_far.0 step.0 xs ys before between after so_far.2 (subst P same step.2));
}
