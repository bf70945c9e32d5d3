-- A limiter that gives recorded answers gives just these.
-- For the functions of the module again, and restore::restore_record.
use Rattle.std.proofs.Common.{◌≡◌, ◌≢◌, ℕ, ◌+◌, ◌/◌, Bool, true, false, List, [], ◌∷◌, ◌++◌, refl, sym, ◌∙◌, ap, subst}
use Rattle.std.proofs.lemmas.List.{append-nil}
use Rattle.policy_tree.specs.declared.limiter_node.LimiterNode.{LimiterNode}
use Rattle.policy_eval.specs.Meaning.{knows}
use Rattle.policy_tree.specs.Tree.{Policies}
use Rattle.policy_eval.specs.Amounts.{amount_at}
use Rattle.policy_eval.specs.Given.{Asked, asked_given}
use Rattle.otlp_types.specs.declared.arrival.Arrival.{Arrival}
use Rattle.journal_theory.specs.Journal.{Journal, Opening, answered, clock, policies_for, spans_since}
use Rattle.shard_core.specs.Held.{Held, StandsFor, settings}
use Rattle.shard_core.specs.Taking.{DecidesFirst, Decides, journal_after, dealt_after}
use Rattle.shard_core.specs.declared.answer.Decided.{Decided}
use Rattle.shard_core.specs.declared.answer.Decided.TheVariants.{Release, Nothing, Dropped}
use Rattle.shard_restore.specs.Asking.{Left, GivesNext, is_nothing}

-- it has each node
pub knows_each : (nodes : List LimiterNode) → knows (λ _. true) nodes ≡ true
knows_each [] = refl
knows_each (l ∷ nodes) = knows_each nodes

-- what it was to give is what it gave, and then what is left
gives_all : (second : ℕ) (amounts : ℕ → ℕ) (nodes : List ℕ) (answers : List Bool) (old new : Left) → Asked GivesNext second amounts nodes answers old new
    → new.is_short ≡ false → (old.is_short ≡ false) × (old.answers ≡ answers ++ new.answers)
gives_all second amounts [] [] old new asked long = (ap (λ (l : Left). l.is_short) (sym asked) ∙ long, ap (λ (l : Left). l.answers) (sym asked))
gives_all second amounts (node ∷ nodes) (granted ∷ answers) old new (between, this, rest) long =
    let later : (between.is_short ≡ false) × (between.answers ≡ answers ++ new.answers) = gives_all second amounts nodes answers between new rest long in
    let first : (old.is_short ≡ false) × (old.answers ≡ granted ∷ between.answers) = this later.0 in
    (first.0, first.1 ∙ ap (λ l. granted ∷ l) later.1)
gives_all second amounts [] (granted ∷ answers) old new asked long = absurd asked
gives_all second amounts (node ∷ nodes) [] old new asked long = absurd asked

-- so a decision that asked for just these had them as its answers
just_these : (old new : Held) (given answers : List Bool) (answer : Decided) (after : Left) (past : Journal) (due : List Opening)
    → DecidesFirst GivesNext old new answer (record { answers = given; is_short = false }) after answers past due
    → after ≡ record { answers = []; is_short = false } → answer ≢ Nothing → given ≡ answers
just_these old new given answers answer after past [] first spent some = absurd (some first.0)
just_these old new given answers answer after past (o ∷ later) first spent some =
    let spans : List Arrival = spans_since past o in
    let policies : Policies = policies_for (settings old) spans in
    (gives_all (clock past / 1000) (amount_at policies spans) (asked_given policies answers spans) answers (record { answers = given; is_short = false }) after first.2 (ap (λ (l : Left). l.is_short) spent)).1
    ∙ ap (λ (l : Left). answers ++ l.answers) spent
    ∙ append-nil answers

stands_after : (new : Held) (answer : Decided) (past : Journal) (answers : List Bool) (dealt : ℕ) → answer ≢ Nothing
    → StandsFor new (journal_after answer past answers) (dealt_after answer dealt) → StandsFor new (answered past answers) (dealt + 1)
stands_after new (Release spans) past answers dealt some h = h
stands_after new (Dropped n) past answers dealt some h = h
stands_after new Nothing past answers dealt some h = absurd (some refl)

decided : (old new : Held) (given : List Bool) (answer : Decided) (after : Left)
    → Decides GivesNext old new answer (record { answers = given; is_short = false }) after → after ≡ record { answers = []; is_short = false } → answer ≢ Nothing
    → (past : Journal) (dealt : ℕ) → StandsFor old past dealt → StandsFor new (answered past given) (dealt + 1)
decided old new given answer after (answers, does) spent some past dealt stands =
    let it = does past dealt stands in
    subst (λ (a : List Bool). StandsFor new (answered past a) (dealt + 1)) (sym (just_these old new given answers answer after past _ it.0 spent some))
    (stands_after new answer past answers dealt some it.1)

some_of : (answer : Decided) → is_nothing answer ≡ false → answer ≢ Nothing
some_of answer some same = let nothing : true ≡ false = sym (ap is_nothing same) ∙ some in cc

pub none_of : (answer : Decided) → is_nothing answer ≡ true → answer ≡ Nothing
none_of Nothing none = refl
none_of (Release spans) none = cc
none_of (Dropped n) none = cc

pub decides_by : (old new : Held) (given : List Bool) (answer : Decided) (after : Left)
    → (before : Left) → before ≡ record { answers = given; is_short = false } → Decides GivesNext old new answer before after
    → after ≡ record { answers = []; is_short = false } → is_nothing answer ≡ false
    → (past : Journal) (dealt : ℕ) → StandsFor old past dealt → StandsFor new (answered past given) (dealt + 1)
decides_by old new given answer after before is decides spent some past dealt stands =
    decided old new given answer after (subst (λ (l : Left). Decides GivesNext old new answer l after) is decides) spent (some_of answer some) past dealt stands
