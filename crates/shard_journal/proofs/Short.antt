-- What the definitions read off notes, they read off shortened notes too.
-- For the contract of `marks_apply`.
use Rattle.std.proofs.Common.{◌≡◌, ℕ, ◌==◌, Bool, true, false, cond, not, ◌&&◌, ◌||◌, List, [], ◌∷◌, ◌++◌, map, reverse, filter, find, length, Option, Some, None, option_map, is_none, refl, ap, ◌∙◌}
use Rattle.std.specs.Option.{option_and_then}
use mathlib.Core.Path.{fun_ext}
use Rattle.journal_theory.specs.Journal.{Settings, Entry, Journal, Opening, Decision, Notes, Finding, joins, meets, opens, in_buffer, leaving, decided_as, undecided, latest_episode, finding_at, finding_of, finding, due_at, is_due, is_oversized, oversized, has_finished, touch_of_leaving, touch_of_leaving_decided, after_finding, after_span, after_item, clock}
use Rattle.journal_theory.specs.Marked.{cache_is_on, refusal_applies, loss_applies, marks_apply_to}
use Rattle.journal_theory.specs.Fate.{effect_of_leaving, effect_of_leaving_decided, effect_of_finding}
use Rattle.journal_theory.specs.Journal.{spans_since}
use Rattle.otlp_types.specs.declared.arrival.Arrival.{Arrival}
use Rattle.otlp_types.specs.declared.arrival.Item.{Item}
use Rattle.otlp_types.specs.declared.arrival.Item.TheVariants.{Span, Tick, End}
use Rattle.otlp_types.specs.declared.span.Ids.{Ids}
use Rattle.span_ids.specs.declared.ids.TraceId.{TraceId}
use Rattle.span_ids.specs.declared.outcome.Verdict.{Verdict}
use Rattle.span_ids.specs.declared.outcome.Reason.TheVariants.{Evicted}
use Rattle.shard_journal.specs.Short.{without_spans, short_notes}

decided_in : (at : ℕ) (ds : List Decision) → option_map (λ (d : Decision). d.verdict) (find (λ (d : Decision). d.opening.at == at) (map without_spans ds)) ≡ option_map (λ (d : Decision). d.verdict) (find (λ (d : Decision). d.opening.at == at) ds)
decided_in at [] = refl
decided_in at (d ∷ ds) = go (d.opening.at == at) (decided_in at ds)
  where
    go : (b : Bool) → option_map (λ (d : Decision). d.verdict) (find (λ (d : Decision). d.opening.at == at) (map without_spans ds)) ≡ option_map (λ (d : Decision). d.verdict) (find (λ (d : Decision). d.opening.at == at) ds)
        → option_map (λ (d : Decision). d.verdict) (cond b (Some (without_spans d)) (find (λ (d : Decision). d.opening.at == at) (map without_spans ds))) ≡ option_map (λ (d : Decision). d.verdict) (cond b (Some d) (find (λ (d : Decision). d.opening.at == at) ds))
    go true h = refl
    go false h = h

-- an episode is decided as before
pub decided_short : (noted : Notes) (at : ℕ) → decided_as (short_notes noted) at ≡ decided_as noted at
decided_short noted at = decided_in at noted.decisions

-- the same episodes wait
pub undecided_short : (s : Settings) (noted : Notes) → undecided s (short_notes noted) ≡ undecided s noted
undecided_short s noted = ap (λ (f : ℕ → Option Verdict). reverse (filter (λ (o : Opening). is_none (f o.at)) (in_buffer s noted))) (fun_ext (decided_short noted))

oversized_short : (s : Settings) (past : Journal) (noted : Notes) → oversized s past (short_notes noted) ≡ oversized s past noted
oversized_short s past noted = ap (filter (is_oversized s past)) (undecided_short s noted)

-- the same episodes are due
pub due_short : (s : Settings) (e : Entry) (before : Journal) (item : Item) (noted : Notes) → due_at s e before item (short_notes noted) ≡ due_at s e before item noted
due_short s e before (Span a) noted = oversized_short s (e ∷ before) noted
due_short s e before (Tick m) noted = ap (filter (is_due s (e ∷ before))) (undecided_short s noted)
due_short s e before (End sender) noted = ap (λ (os : List Opening). cond (has_finished s e before) os (filter (is_oversized s (e ∷ before)) os)) (undecided_short s noted)

at_short : (s : Settings) (noted : Notes) (o : Opening) (v : Option Verdict) → finding_at s (short_notes noted) o v ≡ finding_at s noted o v
at_short s noted o None = refl
at_short s noted o (Some v) = refl

of_short : (s : Settings) (noted : Notes) (o : Option Opening) → finding_of s (short_notes noted) o ≡ finding_of s noted o
of_short s noted None = refl
of_short s noted (Some o) = ap (finding_at s (short_notes noted) o) (decided_short noted o.at) ∙ at_short s noted o (decided_as noted o.at)

-- a span finds the same
pub finding_short : (s : Settings) (noted : Notes) (t : TraceId) → finding s (short_notes noted) t ≡ finding s noted t
finding_short s noted t = of_short s noted (latest_episode noted t)

touch_short : (noted : Notes) (o : Option Opening) → touch_of_leaving (short_notes noted) o ≡ touch_of_leaving noted o
touch_short noted None = refl
touch_short noted (Some o) = ap (touch_of_leaving_decided o) (decided_short noted o.at)

-- ---- the notes after an item

after_finding_short : (s : Settings) (t : TraceId) (lost : Bool) (at now : ℕ) (noted : Notes) (f : Finding) → after_finding s t lost at now (short_notes noted) f ≡ short_notes (after_finding s t lost at now noted f)
after_finding_short s t lost at now noted (joins o) = refl
after_finding_short s t lost at now noted (meets o v) = refl
after_finding_short s t true at now noted opens = refl
after_finding_short s t false at now noted opens = ap (λ touches. let n : Notes = record { openings = record { at = at; trace = t; moment = now } ∷ noted.openings; decisions = map without_spans noted.decisions; touches = touches ++ noted.touches } in n) (touch_short noted (leaving s.num_traces noted.openings))

after_span_short : (s : Settings) (ids : Option Ids) (e : Entry) (before : Journal) (noted : Notes) → after_span s ids e before (short_notes noted) ≡ short_notes (after_span s ids e before noted)
after_span_short s None e before noted = refl
after_span_short s (Some ids) e before noted = go e.refused
  where
    go : (b : Bool) → cond b (short_notes noted) (after_finding s ids.trace e.lost (length before) (clock (e ∷ before)) (short_notes noted) (finding s (short_notes noted) ids.trace))
        ≡ short_notes (cond b noted (after_finding s ids.trace e.lost (length before) (clock (e ∷ before)) noted (finding s noted ids.trace)))
    go true = refl
    go false = ap (after_finding s ids.trace e.lost (length before) (clock (e ∷ before)) (short_notes noted)) (finding_short s noted ids.trace) ∙ after_finding_short s ids.trace e.lost (length before) (clock (e ∷ before)) noted (finding s noted ids.trace)

-- an item is noted in the same way
pub after_item_short : (s : Settings) (e : Entry) (before : Journal) (item : Item) (noted : Notes) → after_item s e before item (short_notes noted) ≡ short_notes (after_item s e before item noted)
after_item_short s e before (Span a) noted = after_span_short s a.rec.span.ids e before noted
after_item_short s e before (Tick m) noted = refl
after_item_short s e before (End sender) noted = refl

-- ---- an item decides nothing by itself

-- ---- effects and marks

leaving_short : (before : Journal) (noted : Notes) (o : Option Opening) → effect_of_leaving before (short_notes noted) o ≡ effect_of_leaving before noted o
leaving_short before noted None = refl
leaving_short before noted (Some o) = ap (effect_of_leaving_decided Evicted (spans_since before o)) (decided_short noted o.at)

effect_of_short : (s : Settings) (before : Journal) (noted : Notes) (a : Arrival) (f : Finding) → effect_of_finding s before (short_notes noted) a f ≡ effect_of_finding s before noted a f
effect_of_short s before noted a (meets o v) = refl
effect_of_short s before noted a (joins o) = refl
effect_of_short s before noted a opens = leaving_short before noted (leaving s.num_traces noted.openings)

-- a span does the same
pub effect_short : (s : Settings) (before : Journal) (noted : Notes) (a : Arrival) (t : TraceId) → effect_of_finding s before (short_notes noted) a (finding s (short_notes noted) t) ≡ effect_of_finding s before noted a (finding s noted t)
effect_short s before noted a t = ap (effect_of_finding s before (short_notes noted) a) (finding_short s noted t) ∙ effect_of_short s before noted a (finding s noted t)

loss_short : (s : Settings) (noted : Notes) (f : Finding) → loss_applies s (short_notes noted) f ≡ loss_applies s noted f
loss_short s noted (joins o) = refl
loss_short s noted (meets o v) = refl
loss_short s noted opens = ap (λ (f : ℕ → Option Verdict). cache_is_on s (option_and_then (λ (o : Opening). f o.at) (leaving s.num_traces noted.openings))) (fun_ext (decided_short noted))

-- the same marks can apply
pub marks_short : (s : Settings) (noted : Notes) (refused lost : Bool) (t : TraceId) → marks_apply_to s (short_notes noted) refused lost (finding s (short_notes noted) t) ≡ marks_apply_to s noted refused lost (finding s noted t)
marks_short s noted refused lost t = ap (marks_apply_to s (short_notes noted) refused lost) (finding_short s noted t) ∙ by_loss (finding s noted t)
  where
    by_loss : (f : Finding) → marks_apply_to s (short_notes noted) refused lost f ≡ marks_apply_to s noted refused lost f
    by_loss f = ap (λ (b : Bool). (not refused || refusal_applies f) && (not lost || (not refused && b))) (loss_short s noted f)
