use Rattle.std.proofs.Common.{◌≡◌, ◌<◌, ℕ, suc, zero, Bool, true, false, cond, List, [], ◌∷◌, map, length, Some, None, slice_get, refl, sym, ap, ◌∙◌, arith}
use Rattle.std.specs.Option.{is_some, option_and_then}
use Rattle.std.proofs.lemmas.Option.{slice_get_past, slice_get_read}
use Rattle.policy_eval.specs.Given.{are_answered}
use Rattle.otlp_types.specs.declared.arrival.Arrival.{Arrival}
use Rattle.journal_theory.specs.Journal.{Settings, Journal, Opening, due_now, policies_for, spans_since}
use Rattle.shard_journal.specs.Settings.{settings_of}
use Rattle.journal_theory.specs.Answered.{effect_answered}
use Rattle.shard_journal.specs.Look.{Look}
use Rattle.shard_journal.proofs.looking.LookBack.is_answered.Goals as goal

some_if : {X : Type 0} (b : Bool) (x : X) → b ≡ is_some (cond b (Some x) None)
some_if true x = refl
some_if false x = refl

-- there is one of these answers for each asking of the decision on these spans
abbrev answers_for : Settings → List Bool → List Arrival → Bool
answers_for s answers spans = are_answered (policies_for s spans) answers spans

-- by the spans that were looked up
by_spans : (s : Settings) (past : Journal) (answers : List Bool) (os : List Opening) (place : ℕ) (spans : List Arrival) → slice_get (map (spans_since past) os) place ≡ Some spans →
    are_answered (policies_for s spans) answers spans ≡ is_some (option_and_then (effect_answered s past answers) (slice_get os place))
by_spans s past answers [] zero spans e = cc
by_spans s past answers [] (suc place) spans e = cc
by_spans s past answers (o ∷ os) zero spans e =
    let same : spans_since past o ≡ spans = cc in
    ap (answers_for s answers) (sym same) ∙ some_if (answers_for s answers (spans_since past o)) _
by_spans s past answers (o ∷ os) (suc place) spans e = by_spans s past answers os place spans e

none_there : (s : Settings) (past : Journal) (answers : List Bool) (os : List Opening) (place : ℕ) → slice_get (map (spans_since past) os) place ≡ None → false ≡ is_some (option_and_then (effect_answered s past answers) (slice_get os place))
none_there s past answers [] zero e = refl
none_there s past answers [] (suc place) e = refl
none_there s past answers (o ∷ os) zero e = cc
none_there s past answers (o ∷ os) (suc place) e = none_there s past answers os place e

pub returns-else-place-len-clause-answered : goal.returns-else-place-len-clause-answered
returns-else-place-len-clause-answered c = λ past e.
    let s = settings_of c.args.settings.now in
    let spans = ap (λ (l : Look). l.spans) (c.self.view_is ∙ e) in
    none_there s past c.args.answers.now (due_now s past) c.args.place (ap (λ (x : List (List Arrival)). slice_get x c.args.place) (sym spans) ∙ slice_get_past c.self.inside.spans.items c.args.place (omega arith))

pub returns-then-place-len-clause-answered : goal.returns-then-place-len-clause-answered
returns-then-place-len-clause-answered c = λ past e.
    let s = settings_of c.args.settings.now in
    let spans = ap (λ (l : Look). l.spans) (c.self.view_is ∙ e) in
    let within : c.args.place < length c.self.inside.spans.items = omega arith in
    let there = ap (λ (x : List (List Arrival)). slice_get x c.args.place) (sym spans) ∙ slice_get_read c.self.inside.spans.items (length c.self.inside.spans.items) c.args.place c.index.result.now refl within c.index.ensures in
    let answers = c.args.answers.now in
    c.is_some.ensures ∙ ap is_some c.judge_spans.ensures.verdict ∙ sym (some_if (answers_for s answers c.as_slice-spans.result.now) _) ∙ ap (answers_for s answers) c.as_slice-spans.ensures ∙ by_spans s past answers (due_now s past) c.args.place c.index.result.now there
