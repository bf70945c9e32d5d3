-- What is told of the trace that is decided next, by the journal that the shard stands for.
-- For the clause `told` of `Shard::next_due`.
use Rattle.std.proofs.Common.{◌≡◌, ℕ, zero, suc, ◌<◌, Bool, true, false, ◌&&◌, cond, [], ◌∷◌, map, reverse, length, take, drop, Option, Some, None, option_map, refl, sym, ap, subst, ◌∙◌}
use Rattle.std.specs.List.{list_all, find}
use Rattle.std.specs.Option.{is_none}
use Rattle.trace_buffer.specs.Buffer.{Episode, is_due_at, opened_by}
use Rattle.span_ids.specs.declared.outcome.Verdict.{Verdict}
use Rattle.journal_theory.specs.Journal.{Settings, Journal, Opening, Notes, notes_dealt, due_now, decided_as, have_ended, clock, spans_since}
use Rattle.journal_theory.specs.Standing.{Standing, episode, mark, root_left, spans_left, first_root_since}
use Rattle.journal_theory.specs.Deciding.{is_due_by}
use Rattle.journal_theory.proofs.Lists.{filter-from_find, find-passes}
use Rattle.journal_theory.proofs.Due.{front, open_due, known, stopped-before, item_notes, due-dealt, nothing_left, all_ended, find-episodes}
use Rattle.shard_core.specs.Held.{Held, settings, StandsFor, is_finished, due_by}
use Rattle.shard_core.specs.Telling.{cause_of, told_of, due_trace, due_told, next_told}
use Rattle.shard_core.specs.declared.answer.DueTrace.{DueTrace}
use Rattle.shard_core.proofs.Stands.{room_of}
use Rattle.shard_core.proofs.Deciding.{due_is}

-- what is found in the shard is the opening's episode
opening_of : (f : Opening → Episode) (o : Option Opening) (e : Episode) → option_map f o ≡ Some e → (p : Opening) × (o ≡ Some p) × (f p ≡ e)
opening_of f None e h = cc
opening_of f (Some p) e h = (p, refl, cc)

none-left : (o : Option Verdict) (b : Bool) → (is_none o && b) ≡ true → o ≡ None
none-left None b h = refl
none-left (Some v) b h = cc

-- what is told of an episode by a clock, a mark and whether all senders have ended
abbrev told_at : (decision_wait : ℕ) → (finished : Bool) → (clock mark : ℕ) → Episode → DueTrace
told_at w finished c m e = record { trace = e.trace; opened = e.moment; moment = c; spans = length e.spans; cause = cause_of finished m w e }

-- at the end neither the mark nor the wait matters
told_held : (h : Held) (e : Episode) → told_of h e ≡ told_at h.waits.decision_wait (is_finished h) h.standing.clock h.standing.mark e
told_held h e = by (is_finished h)
  where
    by : (b : Bool) → let d = cond {A = ℕ × ℕ × ℕ} b (h.standing.clock, 0, 0) (h.standing.mark, h.waits.decision_wait, h.waits.root_wait) in
        told_at d.1 b h.standing.clock d.0 e ≡ told_at h.waits.decision_wait b h.standing.clock h.standing.mark e
    by true = refl
    by false = refl

-- of an undecided episode
told_open : (s : Settings) (past : Journal) (noted : Notes) (p : Opening) → decided_as noted p.at ≡ None → told_at s.decision_wait (have_ended past s.senders) (clock past) (mark past) (episode s past noted p) ≡ due_told s past p
told_open s past noted p none =
    let of : Option Verdict → Episode = λ v. record { trace = p.trace; moment = p.moment; maximum = s.maximum_trace_size; first_root = root_left (first_root_since past p) v; spans = spans_left (spans_since past p) v; verdict = v } in
    ap (λ v. told_at s.decision_wait (have_ended past s.senders) (clock past) (mark past) (of v)) none

module _ (h : Held) (w : 0 < h.waits.decision_wait) (l : 0 < h.num_traces) (o : opened_by h.standing.clock h.standing.episodes ≡ true) where
  abbrev due_first : Option Episode
  due_first = find (is_due_at (due_by h).0 (due_by h).1 (due_by h).2) h.standing.episodes

  abbrev IsNext : Option Episode → Journal → ℕ → Type 0
  IsNext found past k = option_map (told_of h) found ≡ next_told (settings h) past (drop k (due_now (settings h) past))

  told_none : (past : Journal) (k : ℕ) → due_first ≡ None → StandsFor h past k → IsNext None past k
  told_none past k f s =
      let gone = nothing_left (settings h) (room_of h l) past k h.standing w s.0 s.1 s.2 (sym (due_is h o) ∙ f) in
      sym (ap (next_told (settings h) past) gone)

  told_some : (e : Episode) (past : Journal) (k : ℕ) → due_first ≡ Some e → StandsFor h past k → IsNext (Some e) past k
  told_some e [] k f s = absurd (no_openings h.num_traces (subst (λ es. find (is_due_at (due_by h).0 (due_by h).1 (due_by h).2) es ≡ Some e) (ap (λ (st : Standing). st.episodes) s.1) f))
    where
      no_openings : (n : ℕ) → find (is_due_at (due_by h).0 (due_by h).1 (due_by h).2) (map (episode (settings h) [] (notes_dealt (settings h) [] k)) (reverse (take n []))) ≡ Some e → ⊥
      no_openings zero f = cc f
      no_openings (suc n) f = cc f
  told_some e (x ∷ before) k f s =
      let past : Journal = x ∷ before in
      let t = settings h in
      let room = room_of h l in
      let n = notes_dealt t past k in
      let R = front t room (item_notes t room x before) in
      let g = known t room before w (stopped-before t room x before s.0) s.2.1 in
      let IsFound = λ (st : Standing). find (is_due_by (list_all (λ b. b) st.ends) st.mark t.decision_wait t.root_wait) st.episodes ≡ Some e in
      let f1 = subst IsFound s.1 (sym (due_is h o) ∙ f) in
      let ended = all_ended t room past t.senders in
      let f2 = subst (λ (b : Bool). find (is_due_by b (mark past) t.decision_wait t.root_wait) (map (episode t past n) R) ≡ Some e) ended f1 in
      let found = opening_of (episode t past n) (find (open_due t room past n) R) e (sym (find-episodes t room past n (have_ended past t.senders) (mark past) R) ∙ f2) in
      let p = found.0 in
      let rest = filter-from_find (open_due t room past n) R p found.1 in
      let left : drop k (due_now t past) ≡ p ∷ rest.0 = ◌∙◌ {c = p ∷ rest.0} (sym (due-dealt t room x before k s.0 w g s.2)) rest.1 in
      let undecided : decided_as n p.at ≡ None = none-left (decided_as n p.at) _ (find-passes (open_due t room past n) R p found.1) in
      let finished : is_finished h ≡ have_ended past t.senders = ap (λ (st : Standing). list_all (λ b. b) st.ends) s.1 ∙ ended in
      let at : told_at t.decision_wait (is_finished h) h.standing.clock h.standing.mark e ≡ told_at t.decision_wait (have_ended past t.senders) (clock past) (mark past) e =
      ap (λ (b : Bool). told_at t.decision_wait b h.standing.clock h.standing.mark e) finished ∙ ap (λ (st : Standing). told_at t.decision_wait (have_ended past t.senders) st.clock st.mark e) s.1 in
      ap Some (told_held h e ∙ at ∙ ap (told_at t.decision_wait (have_ended past t.senders) (clock past) (mark past)) (sym found.2) ∙ told_open t past n p undecided) ∙ sym (ap (next_told t past) left)

  pub next_due_told : (past : Journal) (k : ℕ) → StandsFor h past k → due_trace h ≡ next_told (settings h) past (drop k (due_now (settings h) past))
  next_due_told past k s = by due_first refl
    where
      by : (found : Option Episode) → due_first ≡ found → due_trace h ≡ next_told (settings h) past (drop k (due_now (settings h) past))
      by None f = ap (option_map (told_of h)) f ∙ told_none past k f s
      by (Some e) f = ap (option_map (told_of h)) f ∙ told_some e past k f s
