-- The fate of a span, right after it was taken.
-- For the contract of `take`.
use Rattle.std.proofs.Common.{[], ◌≡◌, ℕ, ◌<◌, Bool, true, false, cond, ◌||◌, ◌==◌, ◌∷◌, List, length, Option, Some, None, option_map, refl, sym, ap, ◌∙◌, arith, ne_eqb, eq-eqb}
use Rattle.std.specs.List.{list_any}
use Rattle.journal_theory.specs.Journal.{Entry, Settings, Journal, Opening, Decision, Notes, Finding, joins, meets, opens, notes, finding, finding_of, finding_at, is_in_buffer, is_remembered, latest_episode, decided_as, after_span, after_finding, after_decisions, decisions_in_turn, due_at, clock}
use Rattle.journal_theory.specs.Fate.{fate, fate_of_finding, fate_of_member_decided}
use Rattle.shard_core.specs.Held.{Held, settings}
use Rattle.shard_core.specs.Taking.{entry, is_refusal, is_loss, answer_to, answer_to_ids, answer_to_finding, answer_to_late, fate_told, TellsFateOf, TellsFate}
use Rattle.shard_core.specs.declared.answer.Taken.{Taken}
use Rattle.otlp_types.specs.declared.span.Ids.{Ids}
use Rattle.span_ids.specs.declared.ids.TraceId.{TraceId}
use Rattle.otlp_types.specs.declared.arrival.Arrival.{Arrival}
use Rattle.otlp_types.specs.declared.arrival.Item.TheVariants.{Span}
use Rattle.span_ids.specs.declared.outcome.Verdict.{Verdict}
use Rattle.span_ids.specs.declared.outcome.Verdict.TheVariants.{Sampled, NotSampled}
use Rattle.journal_theory.proofs.ListFacts.{Each-weaker}
use Rattle.journal_theory.proofs.Find.{find_none}
use Rattle.journal_theory.proofs.Notes.{HasRoom}
use Rattle.journal_theory.proofs.Sound.{makes_room, sound_notes}
use Rattle.shard_core.proofs.Stands.{room_of}

module _ (s : Settings) (room : HasRoom s.num_traces) where
  -- where no answer is given nothing is decided
  none-given : (past : Journal) (os : List Opening) → decisions_in_turn s past os [] ≡ []
  none-given past [] = refl
  none-given past (o ∷ rest) = refl

  -- right after a span nothing is decided
  notes-span : (a : Arrival) (refused lost : Bool) (before : Journal) → let e : Entry = record { item = Span a; refused = refused; lost = lost; answers = [] } in notes s (e ∷ before) ≡ after_span s a.rec.span.ids e before (notes s before)
  unfolding notes
  notes-span a refused lost before =
      let e : Entry = record { item = Span a; refused = refused; lost = lost; answers = [] } in
      let noted = after_span s a.rec.span.ids e before (notes s before) in ap (λ (ds : List Decision). after_decisions ds noted) (none-given (e ∷ before) (due_at s e before (Span a) noted))

  -- a span joins an undecided episode of the buffer
  joined : (noted : Notes) (t : TraceId) (o : Opening) → finding s noted t ≡ joins o → (is_in_buffer s noted o.at ≡ true) × (decided_as noted o.at ≡ None)
  joined noted t o f = at_latest (latest_episode noted t) f
    where
      at_buffer : (x : Opening) → decided_as noted x.at ≡ None → (b : Bool) → is_in_buffer s noted x.at ≡ b → cond b (joins x) opens ≡ joins o → (is_in_buffer s noted o.at ≡ true) × (decided_as noted o.at ≡ None)
      at_buffer x d true k e = let same : x ≡ o = cc e in (ap (λ (z : Opening). is_in_buffer s noted z.at) (sym same) ∙ k, ap (λ (z : Opening). decided_as noted z.at) (sym same) ∙ d)
      at_buffer x d false k e = absurd (cc e)

      not_met : (x : Opening) (v : Verdict) (b : Bool) → cond b (meets x v) opens ≡ joins o → ⊥
      not_met x v true e = cc e
      not_met x v false e = cc e

      at_verdict : (x : Opening) (d : Option Verdict) → decided_as noted x.at ≡ d → finding_at s noted x d ≡ joins o → (is_in_buffer s noted o.at ≡ true) × (decided_as noted o.at ≡ None)
      at_verdict x None d e = at_buffer x d (is_in_buffer s noted x.at) refl e
      at_verdict x (Some v) d e = absurd (not_met x v (is_remembered s noted x v) e)

      at_latest : (l : Option Opening) → finding_of s noted l ≡ joins o → (is_in_buffer s noted o.at ≡ true) × (decided_as noted o.at ≡ None)
      at_latest None e = absurd (cc e)
      at_latest (Some x) e = at_verdict x (decided_as noted x.at) refl e

  told-late : (a : Arrival) (v : Verdict) (o : Opening) (noted : Notes) (n : ℕ) → fate_of_finding s noted n (meets o v) ≡ fate_told (answer_to_late a v)
  told-late a Sampled o noted n = refl
  told-late a NotSampled o noted n = refl

  told : (a : Arrival) (t : TraceId) (lost : Bool) (before : Journal) (c : ℕ) (f : Finding) → finding s (notes s before) t ≡ f →
      fate_of_finding s (after_finding s t lost (length before) c (notes s before) f) (length before) f ≡ fate_told (answer_to_finding s lost before (notes s before) a f)
  told a t lost before c (joins o) f = let k = joined (notes s before) t o f in rw (k.0, k.1) refl
  told a t lost before c (meets o v) f = told-late a v o (after_finding s t lost (length before) c (notes s before) (meets o v)) (length before)
  told a t lost before c opens f =
      let noted = notes s before in
      let n = length before in
      let m = after_finding s t lost n c noted opens in
      let made = makes_room s.num_traces room noted.openings in
      let new : Opening = record { at = n; trace = t; moment = c } in
      let inside : is_in_buffer s m n ≡ true = ap (list_any (λ (o : Opening). o.at == n)) (made.with_next new) ∙ ap (λ b. b || list_any (λ (o : Opening). o.at == n) made.kept) (eq-eqb n n refl) in
      let undecided : decided_as m n ≡ None = ap (option_map (λ (d : Decision). d.verdict)) (find_none (λ (d : Decision). d.opening.at == n) noted.decisions
      (Each-weaker (λ (d : Decision). d.opening.at < n) (λ (d : Decision). (d.opening.at == n) ≡ false) noted.decisions (λ d h. ne_eqb d.opening.at n (λ e. omega (arith, h, e))) (sound_notes s room before).decided)) in
      ap (λ b. fate_of_member_decided b (decided_as m n)) inside ∙ ap (fate_of_member_decided true) undecided

  told-ids : (a : Arrival) (ids : Ids) (before : Journal) (refused lost : Bool) → a.rec.span.ids ≡ Some ids →
      let e : Entry = record { item = Span a; refused = refused; lost = lost; answers = [] } in fate s (e ∷ before) before refused ids ≡ fate_told (answer_to_ids s refused lost before a (Some ids))
  told-ids a ids before true lost i = refl
  told-ids a ids before false lost i =
      let e : Entry = record { item = Span a; refused = false; lost = lost; answers = [] } in
      let f = finding s (notes s before) ids.trace in
      let here : notes s (e ∷ before) ≡ after_finding s ids.trace lost (length before) (clock (e ∷ before)) (notes s before) f
      = notes-span a false lost before ∙ ap (λ (o : Option Ids). after_span s o e before (notes s before)) i in
      ap (λ (n : Notes). fate_of_finding s n (length before) f) here ∙ told a ids.trace lost before (clock (e ∷ before)) f refl

tells-ids : (h : Held) (a : Arrival) (ids : Option Ids) (past : Journal) (answer : Taken) → 0 < h.num_traces → a.rec.span.ids ≡ ids → answer ≡ answer_to_ids (settings h) (is_refusal answer) (is_loss answer) past a ids → TellsFateOf (settings h) past a answer ids
tells-ids h a None past answer l i e = tt
tells-ids h a (Some ids) past answer l i e = told-ids (settings h) (room_of h l) a ids past (is_refusal answer) (is_loss answer) i ∙ ap fate_told (sym e)

pub tells_fate : (h : Held) (a : Arrival) (past : Journal) (answer : Taken) → 0 < h.num_traces → answer ≡ answer_to (settings h) (entry (Span a) answer) past → TellsFate (settings h) past (Span a) answer
tells_fate h a past answer l e = tells-ids h a a.rec.span.ids past answer l refl e
