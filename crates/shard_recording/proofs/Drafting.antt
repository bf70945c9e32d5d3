-- An entry that is made while a shard takes an item and decides.
-- For the methods of draft::EntryDraft.
use Rattle.std.proofs.Common.{◌≡◌, ℕ, ◌+◌, ◌/◌, Bool, true, false, List, [], ◌∷◌, ◌++◌, length, Option, Some, None, refl, sym, ◌∙◌, ap, subst, arith, append_assoc, length-append}
use Rattle.std.specs.Prelude.{MatchOption, IsSomeAnd}
use Rattle.std.proofs.lemmas.List.{append-nil}
use Rattle.otlp_types.specs.declared.arrival.Item.{Item}
use Rattle.otlp_types.specs.declared.arrival.Arrival.{Arrival}
use Rattle.policy_tree.specs.Tree.{Policies}
use Rattle.policy_eval.specs.Amounts.{amount_at}
use Rattle.policy_eval.specs.Given.{Asked, asked_given}
use Rattle.journal_entry.specs.Bytes.{bytes_of_item, bytes_with, bytes_of_entry}
use Rattle.journal_theory.specs.Journal.{Entry, Journal, Opening, answered, clock, policies_for, spans_since, IsAnswered}
use Rattle.journal_theory.specs.Fate.{effect, effect_dealt}
use Rattle.shard_core.specs.Held.{Held, StandsFor, settings}
use Rattle.shard_core.specs.Taking.{entry, is_refusal, is_loss, DecidesFirst, Decides, journal_after, dealt_after}
use Rattle.shard_core.specs.declared.answer.Taken.{Taken}
use Rattle.shard_core.specs.declared.answer.Decided.{Decided}
use Rattle.shard_core.specs.declared.answer.Decided.TheVariants.{Release, Nothing, Dropped}
use Rattle.shard_restore.specs.Asking.{is_nothing}
use Rattle.shard_restore.specs.Entries.{written}
use Rattle.shard_restore.specs.Restoring.{IsSettled}
use Rattle.shard_recording.specs.declared.noting.Noting.{Noting}
use Rattle.shard_recording.specs.declared.draft.EntryDraft.{EntryDraft}
use Rattle.shard_recording.specs.Noting.{AsksNoting}
use Rattle.shard_recording.specs.Drafts.{IsDraftOf, IsUnderWay, with_answers, GoesOn}

-- what was noted are the answers to all askings
all_noted : {L : Type 0} (asks : L → ℕ → ℕ → ℕ → Bool → L → Type 0) (second : ℕ) (amounts : ℕ → ℕ) (nodes : List ℕ) (answers : List Bool) (old new : Noting L)
    → Asked (AsksNoting asks) second amounts nodes answers old new → new.is_whole ≡ true → (old.is_whole ≡ true) × (new.answers ≡ old.answers ++ answers)
all_noted {L} asks second amounts [] [] old new asked whole =
    (ap (λ (n : Noting L). n.is_whole) (sym asked) ∙ whole, ap (λ (n : Noting L). n.answers) asked ∙ sym (append-nil old.answers))
all_noted asks second amounts (node ∷ nodes) (granted ∷ answers) old new (between, this, rest) whole =
    let later = all_noted asks second amounts nodes answers between new rest whole in
    let first = this.1 later.0 in
    (first.0, later.1 ∙ ap (λ (l : List Bool). l ++ answers) first.1 ∙ append_assoc old.answers (granted ∷ []) answers)
all_noted asks second amounts [] (granted ∷ answers) old new asked whole = absurd asked
all_noted asks second amounts (node ∷ nodes) [] old new asked whole = absurd asked

-- so where a trace was decided
noted_first : {L : Type 0} (asks : L → ℕ → ℕ → ℕ → Bool → L → Type 0) (old new : Held) (decided : Decided) (before after : Noting L) (answers : List Bool) (past : Journal) (due : List Opening)
    → DecidesFirst (AsksNoting asks) old new decided before after answers past due → is_nothing decided ≡ false → before.answers ≡ [] → after.is_whole ≡ true → after.answers ≡ answers
noted_first asks old new decided before after answers past [] first some none whole = absurd (let no_trace : true ≡ false = sym (ap is_nothing first.0) ∙ some in cc)
noted_first asks old new decided before after answers past (o ∷ later) first some none whole =
    let spans : List Arrival = spans_since past o in
    let policies : Policies = policies_for (settings old) spans in
    (all_noted asks (clock past / 1000) (amount_at policies spans) (asked_given policies answers spans) answers before after first.2 whole).1 ∙ ap (λ (l : List Bool). l ++ answers) none

-- the draft with what was noted
noted_in : (d later : EntryDraft) (e : Entry) (answers : List Bool) → IsDraftOf d e → (later.item ≡ d.item) × (later.refused ≡ d.refused) × (later.lost ≡ d.lost)
    → (later.is_whole ≡ true → (d.is_whole ≡ true) × (later.answers ≡ d.answers ++ answers ∷ [])) → IsDraftOf later (with_answers e answers)
noted_in d later e answers is same noted = record {
  item = ap (λ v. v.items) same.0 ∙ is.item;
  refused = same.1 ∙ is.refused;
  lost = same.2 ∙ is.lost;
  answers = λ whole. (noted whole).1 ∙ ap (λ (l : List (List Bool)). l ++ answers ∷ []) (is.answers (noted whole).0);
}

noted_so : {L : Type 0} (after : Noting L) (answers : List Bool) (found : Option (List Bool)) (d later : EntryDraft)
    → MatchOption found (after.is_whole ≡ false) (λ a. (after.is_whole ≡ true) × (a ≡ after.answers)) → (after.is_whole ≡ true → after.answers ≡ answers)
    → (later.is_whole ≡ true → (d.is_whole ≡ true) × IsSomeAnd found (λ a. later.answers ≡ d.answers ++ a ∷ []))
    → later.is_whole ≡ true → (d.is_whole ≡ true) × (later.answers ≡ d.answers ++ answers ∷ [])
noted_so after answers (Some a) d later found is noted whole =
    let it = noted whole in
    (it.0, it.1 ∙ ap (λ (l : List Bool). d.answers ++ l ∷ []) (found.1 ∙ is found.0))
noted_so after answers None d later found is noted whole = absurd (noted whole).1

one_more : (h : Held) (e : Entry) (past : Journal) (answers : List Bool) → StandsFor h (answered (e ∷ past) answers) (length e.answers + 1)
    → StandsFor h (with_answers e answers ∷ past) (length (with_answers e answers).answers)
one_more h e past answers stands =
    subst (λ (n : ℕ). StandsFor h (with_answers e answers ∷ past) n) (let same : length e.answers + 1 ≡ length (e.answers ++ answers ∷ []) = omega (arith, length-append e.answers (answers ∷ [])) in same) stands

pub goes_on : {L : Type 0} (asks : L → ℕ → ℕ → ℕ → Bool → L → Type 0) (old new : Held) (decided : Decided) (before after : Noting L) (found : Option (List Bool)) (d later : EntryDraft)
    → Decides (AsksNoting asks) old new decided before after → is_nothing decided ≡ false → before.answers ≡ []
    → MatchOption found (after.is_whole ≡ false) (λ a. (after.is_whole ≡ true) × (a ≡ after.answers))
    → (later.item ≡ d.item) × (later.refused ≡ d.refused) × (later.lost ≡ d.lost)
    → (later.is_whole ≡ true → (d.is_whole ≡ true) × IsSomeAnd found (λ a. later.answers ≡ d.answers ++ a ∷ []))
    → (e : Entry) (past : Journal) → IsUnderWay old d e past → GoesOn decided new later e past
goes_on asks old new (Release v) before after found d later (answers, does) some none noted same put e past way =
    let it = does (e ∷ past) (length e.answers) way.stands in (
      answers,
      record {
        draft = noted_in d later e answers way.draft same (noted_so after answers found d later noted (noted_first asks old new (Release v) before after answers (e ∷ past) _ it.0 some none) put);
        stands = one_more new e past answers it.1;
      },
    )
goes_on asks old new (Dropped n) before after found d later (answers, does) some none noted same put e past way =
    let it = does (e ∷ past) (length e.answers) way.stands in (
      answers,
      record {
        draft = noted_in d later e answers way.draft same (noted_so after answers found d later noted (noted_first asks old new (Dropped n) before after answers (e ∷ past) _ it.0 some none) put);
        stands = one_more new e past answers it.1;
      },
    )
goes_on asks old new Nothing before after found d later does some none noted same put e past way = absurd (let no_trace : true ≡ false = some in cc)

-- a limiter that is asked through its notes is asked just the same
asked_inner : {L : Type 0} (asks : L → ℕ → ℕ → ℕ → Bool → L → Type 0) (second : ℕ) (amounts : ℕ → ℕ) (nodes : List ℕ) (answers : List Bool) (old new : Noting L)
    → Asked (AsksNoting asks) second amounts nodes answers old new → Asked asks second amounts nodes answers old.inner new.inner
asked_inner {L} asks second amounts [] [] old new asked = ap (λ (n : Noting L). n.inner) asked
asked_inner asks second amounts (node ∷ nodes) (granted ∷ answers) old new (between, this, rest) =
    (between.inner, this.0, asked_inner asks second amounts nodes answers between new rest)
asked_inner asks second amounts [] (granted ∷ answers) old new asked = absurd asked
asked_inner asks second amounts (node ∷ nodes) [] old new asked = absurd asked

first_inner : {L : Type 0} (asks : L → ℕ → ℕ → ℕ → Bool → L → Type 0) (old new : Held) (decided : Decided) (before after : Noting L) (answers : List Bool) (past : Journal) (due : List Opening)
    → DecidesFirst (AsksNoting asks) old new decided before after answers past due → DecidesFirst asks old new decided before.inner after.inner answers past due
first_inner {L} asks old new decided before after answers past [] first = (first.0, first.1, ap (λ (n : Noting L). n.inner) first.2)
first_inner asks old new decided before after answers past (o ∷ later) first =
    let spans : List Arrival = spans_since past o in
    let policies : Policies = policies_for (settings old) spans in
    (first.0, first.1, asked_inner asks (clock past / 1000) (amount_at policies spans) (asked_given policies answers spans) answers before after first.2)

pub decides_inner : {L : Type 0} (asks : L → ℕ → ℕ → ℕ → Bool → L → Type 0) (old new : Held) (decided : Decided) (before after : Noting L) (b a : L)
    → before.inner ≡ b → a ≡ after.inner → Decides (AsksNoting asks) old new decided before after → Decides asks old new decided b a
decides_inner {L} asks old new decided before after b a first last (answers, does) =
    subst (λ (x : L). Decides asks old new decided x a) first
    (subst (λ (x : L). Decides asks old new decided before.inner x) (sym last) (
      answers,
      λ past dealt stands.
          let it = does past dealt stands in
          (first_inner asks old new decided before after answers past _ it.0, it.1, it.2),
    ))

-- nothing was due
pub goes_nowhere : (old new : Held) (decided : Decided) (d : EntryDraft) → decided ≡ Nothing → new ≡ old → (e : Entry) (past : Journal) → IsUnderWay old d e past → GoesOn decided new d e past
goes_nowhere old new decided d none same e past way =
    subst (λ (x : Decided). GoesOn x new d e past) (sym none) (subst (λ (h : Held). IsUnderWay h d e past) (sym same) way)

-- an item was taken
pub starts : (h : Held) (d : EntryDraft) (item : Item) (taken : Taken) (past : Journal) → d.item.items ≡ bytes_of_item item → d.refused ≡ is_refusal taken → d.lost ≡ is_loss taken → d.answers ≡ []
    → StandsFor h (entry item taken ∷ past) 0 → IsUnderWay h d (entry item taken) past
starts h d item taken past i r l a stands = record { draft = record { item = i; refused = r; lost = l; answers = λ whole. a }; stands = stands }

-- the bytes of the draft are those of its entry
pub is_record : (d : EntryDraft) (e : Entry) → d.is_whole ≡ true → IsDraftOf d e → bytes_with d.refused d.lost d.answers d.item.items ≡ bytes_of_entry (written e)
is_record d e whole is =
    ap (λ (b : Bool). bytes_with b d.lost d.answers d.item.items) is.refused
    ∙ ap (λ (b : Bool). bytes_with e.refused b d.answers d.item.items) is.lost
    ∙ ap (λ (a : List (List Bool)). bytes_with e.refused e.lost a d.item.items) (is.answers whole)
    ∙ ap (λ (i : List ℕ). bytes_with e.refused e.lost e.answers i) is.item

pub none_of : (decided : Decided) → is_nothing decided ≡ true → decided ≡ Nothing
none_of Nothing none = refl
none_of (Release spans) none = cc
none_of (Dropped n) none = cc

pub not_none : {A : Type 0} (decided : Decided) → is_nothing decided ≡ false → decided ≡ Nothing → A
not_none decided some none = let no_trace : true ≡ false = sym (ap is_nothing none) ∙ some in cc

-- nothing was due, so the entry is whole
pub settles : (old new : Held) → new ≡ old
    → ((past : Journal) (dealt : ℕ) → StandsFor old past dealt → effect_dealt (settings old) past dealt ≡ effect (settings old) past)
    → ((past : Journal) (dealt : ℕ) → StandsFor old past dealt → IsAnswered (settings old) past)
    → (d : EntryDraft) (e : Entry) (past : Journal) → IsUnderWay old d e past → IsSettled new (e ∷ past)
settles old new same all_dealt answered d e past way =
    subst (λ (h : Held). IsSettled h (e ∷ past)) (sym same)
    (record { dealt = length e.answers; stands = way.stands; all_dealt = all_dealt (e ∷ past) (length e.answers) way.stands; answered = answered (e ∷ past) (length e.answers) way.stands })
