-- An entry whose decisions are given more answers.
-- For the contract of `Turns::decide_due`.
use Rattle.std.proofs.Common.{◌≡◌, Bool, not, ◌&&◌, cond, List, [], ◌∷◌, ◌++◌, refl, ap}
use Rattle.otlp_types.specs.declared.arrival.Item.{Item}
use Rattle.otlp_types.specs.declared.arrival.Item.TheVariants.{Span, Tick, End}
use Rattle.journal_theory.specs.Journal.{Entry, Settings, Journal, have_ended}
use Rattle.journal_theory.proofs.Answering.{ended-same}
use Rattle.shard_core.specs.Taking.{journal_after, answer_to}
use Rattle.shard_core.specs.declared.answer.Taken.TheVariants.{Ended, Finished}
use Rattle.shard_core.specs.declared.answer.Decided.{Decided}
use Rattle.shard_core.specs.declared.answer.Decided.TheVariants.{Release, Nothing, Dropped as NotReleased}

-- the answers of the decisions at the last item after this answer, where the limiter gave these to the decision
abbrev pub given_after : Decided → (given : List (List Bool)) → (answers : List Bool) → List (List Bool)
given_after Nothing given answers = given
given_after _ given answers = given ++ answers ∷ []

pub given_after-is : (answer : Decided) (e : Entry) (past : Journal) (given : List (List Bool)) (answers : List Bool) →
    journal_after answer (record e { answers = given } ∷ past) answers ≡ record e { answers = given_after answer given answers } ∷ past
given_after-is Nothing e past given answers = refl
given_after-is (Release v) e past given answers = refl
given_after-is (NotReleased n) e past given answers = refl

-- the answer to its item is the same
module _ (s : Settings) (e : Entry) (before : Journal) (more : List (List Bool)) where
  pub answer_same : answer_to s (record e { answers = more }) before ≡ answer_to s e before
  answer_same = by e.item
    where
      by : (item : Item) → answer_to s (record { item = item; refused = e.refused; lost = e.lost; answers = more }) before ≡ answer_to s (record { item = item; refused = e.refused; lost = e.lost; answers = e.answers }) before
      by (Span a) = refl
      by (Tick m) = refl
      by (End sender) = ap (λ b. cond (b && not (have_ended before s.senders)) Finished Ended) (ended-same s (record { item = End sender; refused = e.refused; lost = e.lost; answers = e.answers }) before more s.senders)
