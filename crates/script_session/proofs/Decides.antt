-- What is due at an entry is decided, one after the other, by the one limiter.
-- For the clause `decides` of `decide_all`.
use Rattle.std.proofs.Common.{◌≡◌, ℕ, zero, suc, ◌+◌, ◌/◌, Bool, true, false, cond, List, [], ◌∷◌, ◌++◌, map, reverse, drop, refl, sym, ap, subst, ◌∙◌, append_assoc, append-nil, add-one}
use Rattle.otlp_types.specs.declared.arrival.Arrival.{Arrival}
use Rattle.policy_tree.specs.Tree.{Policies, no_more}
use Rattle.trace_buffer.specs.Buffer.{is_too_big}
use Rattle.policy_eval.specs.Policies.{asked_nodes}
use Rattle.policy_eval.specs.Given.{asked_given, Asked}
use Rattle.policy_eval.specs.Amounts.{amount_at, granted_on}
use Rattle.policy_eval.specs.AskingLaws.{askings_by, decides_by_counts}
use Rattle.rate_budget.specs.Grant.{Asking}
use Rattle.rate_budget.specs.Budget.{limiter_counts, AsksBudgets}
use Rattle.journal_theory.specs.Journal.{Entry, Settings, Journal, Opening, clock, due_now, policies_for, spans_since}
use Rattle.journal_theory.specs.Fate.{effect, effect_dealt, released_dealt, dropped_dealt}
use Rattle.shard_core.specs.Held.{Held, StandsFor, settings}
use Rattle.shard_core.specs.Taking.{released_in, dropped_in, dealt_after, journal_after, DecidesFirst, AddsDecision, Decides}
use Rattle.shard_core.specs.declared.answer.Decided.{Decided}
use Rattle.shard_core.specs.declared.answer.Decided.TheVariants.{Release, Nothing, Dropped}
use Rattle.journal_theory.proofs.Answering.{due-same}
use Rattle.span_ids.specs.declared.outcome.Reason.{Reason}
use Rattle.script_run.specs.Limiting.{answers_to, asked_more, answers_in_turn, asked_in_turn, with_answers, askings_after}
use Rattle.script_run.specs.World.{ShardTurn}
use Rattle.script_session.specs.Pulling.{Export, Counts, PullsAll, DecidesAll}
use Rattle.script_session.proofs.Adds.{none-dropped, plus-none, plus-two}
use Rattle.script_session.proofs.Pulls.{PullsAll-append}
use Rattle.script_session.specs.Staying.{PullsAll-none}

-- the journal with the entry, where the first decisions at it were given these answers
abbrev pub given_to : Entry → ShardTurn → (answers : List (List Bool)) → Journal
given_to e past answers = record e { answers = answers } ∷ past.journal

-- what is due at the entry, behind so many
abbrev pub due_behind : Settings → Entry → ShardTurn → (dealt : ℕ) → List Opening
due_behind s e past dealt = drop dealt (due_now s (e ∷ past.journal))

-- some of what is due was decided: the answers so far, and those that are still to be given, are all that the limiter
-- gives
pub record DecidesSome (s : Settings) (e : Entry) (past : ShardTurn) (before : Export) (new : Held) (last : Counts) (after : Export) : Type 0 where
  pub dealt : ℕ
  pub given : List (List Bool)
  pub asked : List Asking
  pub stands : StandsFor new (given_to e past given) dealt
  pub answers_are : given ++ answers_in_turn s (e ∷ past.journal) (due_behind s e past dealt) asked ≡ (with_answers s past.journal past.askings e).answers
  pub askings_are : asked_in_turn s (e ∷ past.journal) (due_behind s e past dealt) asked ≡ askings_after s past.journal past.askings e
  pub limiter_is : last ≡ limiter_counts s.policies asked
  pub released : List Arrival
  pub dropped : Reason → ℕ
  pub releases : released_dealt s (given_to e past given) dealt ≡ released_dealt s (e ∷ past.journal) 0 ++ released
  pub drops : (reason : Reason) → dropped_dealt s (given_to e past given) dealt reason ≡ dropped_dealt s (e ∷ past.journal) 0 reason + dropped reason
  pub pulls : PullsAll before released dropped after

-- none was decided yet
pub DecidesSome-none : (s : Settings) (e : Entry) (past : ShardTurn) (h : Held) (limiter : Counts) (export : Export) → e.answers ≡ [] → StandsFor h (e ∷ past.journal) 0 → limiter ≡ limiter_counts s.policies past.askings
    → DecidesSome s e past export h limiter export
DecidesSome-none s e past h limiter export none stands is = record {
  dealt = 0;
  given = e.answers;
  asked = past.askings;
  stands = stands;
  answers_are = ap (λ (given : List (List Bool)). given ++ answers_in_turn s (e ∷ past.journal) (due_now s (e ∷ past.journal)) past.askings) none;
  askings_are = refl;
  limiter_is = is;
  released = [];
  dropped = λ reason. 0;
  releases = sym (append-nil (released_dealt s (e ∷ past.journal) 0));
  drops = λ reason. plus-none (dropped_dealt s (e ∷ past.journal) 0 reason);
  pulls = PullsAll-none export _ none-dropped;
}

-- ---- one more decision

-- what is behind one more
drop-next : {X : Type 0} (k : ℕ) (xs : List X) (x : X) (rest : List X) → drop k xs ≡ x ∷ rest → drop (suc k) xs ≡ rest
drop-next zero [] x rest e = absurd (cc e)
drop-next zero (y ∷ xs) x rest e = cc e
drop-next (suc k) [] x rest e = absurd (cc e)
drop-next (suc k) (y ∷ xs) x rest e = drop-next k xs x rest e

-- a decision that was asked for
answered-journal : (answer : Decided) (e : Entry) (past : ShardTurn) (given : List (List Bool)) (answers : List Bool) → (answer ≡ Nothing → ⊥) → journal_after answer (given_to e past given) answers ≡ given_to e past (given ++ answers ∷ [])
answered-journal Nothing e past given answers some = absurd (some refl)
answered-journal (Release v) e past given answers some = refl
answered-journal (Dropped n) e past given answers some = refl

one-dealt : (answer : Decided) (dealt : ℕ) → (answer ≡ Nothing → ⊥) → dealt_after answer dealt ≡ suc dealt
one-dealt Nothing dealt some = absurd (some refl)
one-dealt (Release v) dealt some = add-one dealt
one-dealt (Dropped n) dealt some = add-one dealt

-- the limiter gives a decision the answers that the askings so far say, and then has its askings, too
pub record Answers (s : Settings) (past : Journal) (asked : List Asking) (o : Opening) (answers : List Bool) (after : Counts) : Type 0 where
  pub answers_are : answers ≡ answers_to s asked (clock past / 1000) (spans_since past o)
  pub limiter_is : after ≡ limiter_counts s.policies (asked_more s asked (clock past / 1000) (spans_since past o))

-- the same of the policies that decide on these spans: none where they are too big, which asks nothing
answers-for : (policies : Policies) (asked : List Asking) (second : ℕ) (spans : List Arrival) (answers : List Bool) (before after : Counts) → before ≡ limiter_counts policies asked → (b : Bool) → let ps : Policies = cond b no_more policies in
    Asked AsksBudgets second (amount_at ps spans) (asked_given ps answers spans) answers before after → let granted = granted_on policies asked second spans in
    (answers ≡ map granted (asked_nodes ps granted spans)) × (after ≡ limiter_counts policies (reverse (askings_by granted second (amount_at policies spans) (asked_nodes ps granted spans)) ++ asked))
answers-for policies asked second spans answers before after is true h = by-none answers h where
  by-none : (bs : List Bool) → Asked AsksBudgets second (amount_at no_more spans) [] bs before after → (bs ≡ []) × (after ≡ limiter_counts policies asked)
  by-none [] h = (refl, h ∙ is)
  by-none (b ∷ bs) h = absurd h
answers-for policies asked second spans answers before after is false h =
    let granted = granted_on policies asked second spans in
    let d = decides_by_counts policies asked second spans answers before after is h in
    (d.answers_are ∙ ap (map granted) d.asked_are, d.counts_are ∙ ap (λ (nodes : List ℕ). limiter_counts policies (reverse (askings_by granted second (amount_at policies spans) nodes) ++ asked)) d.asked_are)

answers-by : (s : Settings) (past : Journal) (asked : List Asking) (o : Opening) (answers : List Bool) (before after : Counts) → before ≡ limiter_counts s.policies asked → let spans = spans_since past o in let policies = policies_for s spans in
    Asked AsksBudgets (clock past / 1000) (amount_at policies spans) (asked_given policies answers spans) answers before after → Answers s past asked o answers after
answers-by s past asked o answers before after is h =
    let spans = spans_since past o in
    let both = answers-for s.policies asked (clock past / 1000) spans answers before after is (is_too_big s.maximum_trace_size spans) h in
    record { answers_are = both.0; limiter_is = both.1 }

-- the next of the decisions that are due was made: the limiter was asked at it
record Next (s : Settings) (e : Entry) (past : ShardTurn) (dealt : ℕ) (answers : List Bool) (lent last : Counts) : Type 0 where
  opening : Opening
  later : List Opening
  due : due_behind s e past dealt ≡ opening ∷ later
  asked : Asked AsksBudgets (clock (e ∷ past.journal) / 1000) (amount_at (policies_for s (spans_since (e ∷ past.journal) opening)) (spans_since (e ∷ past.journal) opening)) (asked_given (policies_for s (spans_since (e ∷ past.journal) opening)) answers (spans_since (e ∷ past.journal) opening)) answers lent last

next-of : (s : Settings) (e : Entry) (past : ShardTurn) (given : List (List Bool)) (dealt : ℕ) (mid new : Held) (lent last : Counts) (answer : Decided) (answers : List Bool) → (answer ≡ Nothing → ⊥) → settings mid ≡ s
    → (os : List Opening) → due_behind s e past dealt ≡ os → DecidesFirst AsksBudgets mid new answer lent last answers (given_to e past given) os → Next s e past dealt answers lent last
next-of s e past given dealt mid new lent last answer answers some same [] due d = absurd (some d.0)
next-of s e past given dealt mid new lent last answer answers some same (o ∷ later) due d =
    let spans = spans_since (e ∷ past.journal) o in
    let P = λ (x : Settings). Asked AsksBudgets (clock (e ∷ past.journal) / 1000) (amount_at (policies_for x spans) spans) (asked_given (policies_for x spans) answers spans) answers lent last in
    record { opening = o; later = later; due = due; asked = subst P same d.2 }

-- what is due doesn't turn on the answers so far
due-is : (s : Settings) (e : Entry) (past : ShardTurn) (given : List (List Bool)) (dealt : ℕ) (mid : Held) → settings mid ≡ s → drop dealt (due_now (settings mid) (given_to e past given)) ≡ due_behind s e past dealt
due-is s e past given dealt mid same = ap (drop dealt) (due-same (settings mid) e past.journal given ∙ ap (λ (x : Settings). due_now x (e ∷ past.journal)) same)

-- one more was decided
pub DecidesSome-push : (s : Settings) (e : Entry) (past : ShardTurn) (mid new : Held) (lent last : Counts) (before between after : Export) (answer : Decided) → (answer ≡ Nothing → ⊥) → settings mid ≡ s
    → DecidesSome s e past before mid lent between → Decides AsksBudgets mid new answer lent last → PullsAll between (released_in answer) (λ reason. dropped_in reason answer) after → DecidesSome s e past before new last after
DecidesSome-push s e past mid new lent last before between after answer some same so_far d pulls =
    let k = so_far.dealt in
    let given = so_far.given in
    let answers = d.0 in
    let past_now : Journal = e ∷ past.journal in
    let now = given_to e past given in
    let later = given_to e past (given ++ answers ∷ []) in
    let did = d.1 now k so_far.stands in
    let F = λ (os : List Opening). DecidesFirst AsksBudgets mid new answer lent last answers now os in
    let next = next-of s e past given k mid new lent last answer answers some same (due_behind s e past k) refl (subst F (due-is s e past given k mid same) did.0) in
    let by = answers-by s past_now so_far.asked next.opening answers lent last so_far.limiter_is next.asked in
    let asked = asked_more s so_far.asked (clock past_now / 1000) (spans_since past_now next.opening) in
    let left : due_behind s e past (suc k) ≡ next.later = drop-next k (due_now s past_now) next.opening next.later next.due in
    let journal_is : journal_after answer now answers ≡ later = answered-journal answer e past given answers some in
    let dealt_is : dealt_after answer k ≡ suc k = one-dealt answer k some in
    let S = λ (j : Journal). StandsFor new j (dealt_after answer k) in
    let K = λ (n : ℕ). StandsFor new later n in
    let A = λ (x : Settings). AddsDecision x answer answers now k in
    let adds = subst A same did.2 in
    let R = λ (j : Journal). released_dealt s j (dealt_after answer k) ≡ released_dealt s now k ++ released_in answer in
    let N = λ (n : ℕ). released_dealt s later n ≡ released_dealt s now k ++ released_in answer in
    let more : released_dealt s later (suc k) ≡ released_dealt s now k ++ released_in answer = subst N dealt_is (subst R journal_is adds.0) in
    let D = λ (j : Journal). (reason : Reason) → dropped_dealt s j (dealt_after answer k) reason ≡ dropped_dealt s now k reason + dropped_in reason answer in
    let M = λ (n : ℕ). (reason : Reason) → dropped_dealt s later n reason ≡ dropped_dealt s now k reason + dropped_in reason answer in
    let fewer : M (suc k) = subst M dealt_is (subst D journal_is adds.1) in
    record {
      dealt = suc k;
      given = given ++ answers ∷ [];
      asked = asked;
      stands = subst K dealt_is (subst S journal_is did.1);
      answers_are = append_assoc given (answers ∷ []) (answers_in_turn s past_now (due_behind s e past (suc k)) asked)
          ∙ ap (λ (os : List Opening). given ++ answers ∷ answers_in_turn s past_now os asked) left
          ∙ ap (λ (first : List Bool). given ++ first ∷ answers_in_turn s past_now next.later asked) by.answers_are
          ∙ sym (ap (λ (os : List Opening). given ++ answers_in_turn s past_now os so_far.asked) next.due)
          ∙ so_far.answers_are;
      askings_are = ap (λ (os : List Opening). asked_in_turn s past_now os asked) left
          ∙ sym (ap (λ (os : List Opening). asked_in_turn s past_now os so_far.asked) next.due)
          ∙ so_far.askings_are;
      limiter_is = by.limiter_is;
      released = so_far.released ++ released_in answer;
      dropped = λ reason. so_far.dropped reason + dropped_in reason answer;
      releases = more ∙ ap (λ zs. zs ++ released_in answer) so_far.releases ∙ append_assoc (released_dealt s past_now 0) so_far.released (released_in answer);
      drops = λ reason. plus-two (dropped_dealt s later (suc k) reason) (dropped_dealt s now k reason) (dropped_dealt s past_now 0 reason)
          (so_far.dropped reason) (dropped_in reason answer) (fewer reason) (so_far.drops reason);
      pulls = PullsAll-append before between after so_far.released (released_in answer) so_far.dropped (λ reason. dropped_in reason answer) so_far.pulls pulls;
    }

-- ---- nothing is due any more

none-left : (mid new : Held) (lent last : Counts) (answers : List Bool) (now : Journal) (os : List Opening) → DecidesFirst AsksBudgets mid new Nothing lent last answers now os → os ≡ []
none-left mid new lent last answers now [] d = refl
none-left mid new lent last answers now (o ∷ later) d = absurd d.0

-- all was decided
pub DecidesSome-end : (s : Settings) (e : Entry) (past : ShardTurn) (mid new : Held) (lent last : Counts) (before after : Export) → settings mid ≡ s → DecidesSome s e past before mid lent after
    → Decides AsksBudgets mid new Nothing lent last → (new ≡ mid) × (last ≡ lent)
    → ((j : Journal) (dealt : ℕ) → StandsFor mid j dealt → effect_dealt (settings mid) j dealt ≡ effect (settings mid) j) → DecidesAll s e past before new last after
DecidesSome-end s e past mid new lent last before after same so_far d unchanged all =
    let k = so_far.dealt in
    let given = so_far.given in
    let past_now : Journal = e ∷ past.journal in
    let now = given_to e past given in
    let whole = (with_answers s past.journal past.askings e).answers in
    let left : due_behind s e past k ≡ [] = sym (due-is s e past given k mid same) ∙ none-left mid new lent last d.0 now _ (d.1 now k so_far.stands).0 in
    let given_is : given ≡ whole = sym (append-nil given) ∙ sym (ap (λ (os : List Opening). given ++ answers_in_turn s past_now os so_far.asked) left) ∙ so_far.answers_are in
    let asked_is : so_far.asked ≡ askings_after s past.journal past.askings e = sym (ap (λ (os : List Opening). asked_in_turn s past_now os so_far.asked) left) ∙ so_far.askings_are in
    let S = λ (answers : List (List Bool)). StandsFor mid (given_to e past answers) k in
    let H = λ (h : Held). StandsFor h (given_to e past whole) k in
    let X = λ (x : Settings). effect_dealt x now k ≡ effect x now in
    let E = λ (answers : List (List Bool)). effect_dealt s (given_to e past answers) k ≡ effect s (given_to e past answers) in
    let R = λ (answers : List (List Bool)). released_dealt s (given_to e past answers) k ≡ released_dealt s past_now 0 ++ so_far.released in
    let D = λ (answers : List (List Bool)). (reason : Reason) → dropped_dealt s (given_to e past answers) k reason ≡ dropped_dealt s past_now 0 reason + so_far.dropped reason in
    record {
      dealt = k;
      stands = subst H (sym unchanged.0) (subst S given_is so_far.stands);
      all_dealt = subst E given_is (subst X same (all now k so_far.stands));
      limiter_is = unchanged.1 ∙ so_far.limiter_is ∙ ap (limiter_counts s.policies) asked_is;
      released = so_far.released;
      dropped = so_far.dropped;
      releases = subst R given_is so_far.releases;
      drops = subst D given_is so_far.drops;
      pulls = so_far.pulls;
    }
