-- What a shard that stands for a journal stands for after it took an item.
-- For the contracts of `new` and `take`.
use Rattle.std.proofs.Common.{◌≡◌, ℕ, zero, suc, ◌<◌, ◌≤◌, Bool, true, false, not, ◌&&◌, ◌||◌, if◌then◌else◌, List, [], ◌∷◌, length, take, drop, map, reverse, replicate, ◌++◌, Option, Some, None, option_map, refl, sym, ap, subst, ◌∙◌, arith}
use Rattle.std.specs.List.{list_all}
use Rattle.std.specs.Option.{is_some, option_and_then}
use Rattle.std.proofs.lemmas.List.{length-replicate}
use Rattle.otlp_types.specs.declared.span.Ids.{Ids}
use Rattle.otlp_types.specs.declared.arrival.Arrival.{Arrival}
use Rattle.otlp_types.specs.declared.arrival.Item.TheVariants.{Span, Tick, End}
use Rattle.span_ids.specs.declared.ids.TraceId.{TraceId}
use Rattle.policy_tree.specs.declared.policy.Policy.{Policy}
use Rattle.trace_buffer.specs.Buffer.{Episode, Buffer, leaves}
use Rattle.trace_buffer.specs.declared.episode.Evicted.{Evicted}
use Rattle.decision_cache.specs.Lists.{CacheLists}
use Rattle.journal_theory.specs.Journal.{Entry, Settings, Journal, StoppedInTime, Opening, Notes, Finding, joins, meets, opens, notes, finding, leaving, decided_as, due_now, have_ended, are_each_answered, IsAnswered, IsAnsweredUpTo}
use Rattle.journal_theory.specs.Standing.{Standing, standing, ends, evicted_of}
use Rattle.shard_core.specs.Held.{Held, held_of, settings, settings_of, StandsFor, has_due, is_finished, is_due_in}
use Rattle.journal_theory.specs.Keeping.{buffer, after_span_of, after_span_in, after_entry}
use Rattle.journal_theory.specs.Laws.{state_found, state_in}
use Rattle.shard_core.specs.Taking.{entry, is_refusal, is_loss, answer_to, answer_to_ids, answer_to_finding, put_answer}
use Rattle.journal_theory.specs.Marked.{cache_is_on, marks_apply, marks_apply_to, marks_apply_to_ids}
use Rattle.shard_core.specs.Holding.{answer_by_state, answer_held, verdict_leaving, marks_held, at_clock, TakesSpan, TakesSpanOf, held_after_tick, held_after_end}
use Rattle.shard_core.specs.declared.answer.Taken.{Taken}
use Rattle.shard_core.specs.declared.answer.Taken.TheVariants.{Kept, Ticked, Ended, Finished}
use Rattle.journal_theory.proofs.Lists.{find-from_any}
use Rattle.journal_theory.proofs.Notes.{HasRoom}
use Rattle.journal_theory.proofs.Due.{nothing_left, all_ended, length-ends}
use Rattle.journal_theory.proofs.FoundAsHeld.{found_as_held, all_dealt}
use Rattle.journal_theory.proofs.StandingParts.{standing_by}
use Rattle.journal_theory.proofs.Keeping.{keeps_standing, leaves_held}
use Rattle.journal_theory.proofs.Answering.{all-answered}
use Rattle.shard_core.specs.declared.setup.Waits.{Waits}

pub room_of : (h : Held) → 0 < h.num_traces → HasRoom (settings h).num_traces
room_of h l e = let z : h.num_traces ≡ 0 = cc e in absurd (omega (arith, l, z))

suc_of : (n : ℕ) → 0 < n → (m : ℕ) × (n ≡ suc m)
suc_of zero l = absurd (omega (arith, l))
suc_of (suc m) l = (m, refl)

dropped_all : {X : Type 0} (k : ℕ) (xs : List X) → drop k xs ≡ [] → length xs ≤ k
dropped_all k [] e = omega arith
dropped_all zero (x ∷ xs) e = absurd (cc e)
dropped_all (suc k) (x ∷ xs) e = let r = dropped_all k xs e in omega (arith, r)

-- what is known of a shard that may take an item
pub record Ready (h : Held) (past : Journal) (k : ℕ) : Type 0 where
  pub stands : h.standing ≡ standing (settings h) past k
  pub dealt : length (due_now (settings h) past) ≤ k
  pub runs : have_ended past (length h.standing.ends) ≡ false
  pub answered : IsAnswered (settings h) past

pub ready : (h : Held) (past : Journal) (k : ℕ) → 0 < h.waits.decision_wait → 0 < h.num_traces → has_due h ≡ false → is_finished h ≡ false → StandsFor h past k → Ready h past k
ready h past k w l d f s =
    let room = room_of h l in
    let left = nothing_left (settings h) room past k h.standing w s.0 s.1 s.2 (find-from_any (is_due_in h) h.standing.episodes d) in
    record {
      stands = s.1;
      dealt = dropped_all k (due_now (settings h) past) left;
      answered = all-answered (settings h) past k left s.2;
      runs = sym (all_ended (settings h) room past (length h.standing.ends)) ∙ ap (λ (st : Standing). list_all (λ b. b) st.ends) (sym s.1) ∙ f;
    }

-- nothing is due right after a span, and after another item what is due is still to be answered
none_taken_due : (s : Settings) (e : Entry) (past : Journal) → IsAnswered s past → e.answers ≡ [] → IsAnsweredUpTo s (e ∷ past) 0
none_taken_due s e past g h = (ap (are_each_answered s (e ∷ past) []) h, g)

-- a shard that holds what stands for a journal
stands_at : (h : Held) → 0 < h.num_traces → (past : Journal) (k : ℕ) → StoppedInTime (settings h) past → IsAnsweredUpTo (settings h) past k → StandsFor (record h { standing = standing (settings h) past k }) past k
stands_at h l past k s g =
    let Q = λ (n : ℕ). settings_of h.policies h.waits h.num_traces h.sampled_cache_size h.non_sampled_cache_size n in
    let P = λ (n : ℕ). StoppedInTime (Q n) past × (standing (settings h) past k ≡ standing (Q n) past k) × IsAnsweredUpTo (Q n) past k in
    subst P (sym (length-ends (settings h) (room_of h l) past (length h.standing.ends))) (s, refl, g)

-- ---- a span

verdict_left : (s : Settings) (past : Journal) (noted : Notes) (r : Option Opening) → verdict_leaving (option_map (evicted_of s past noted) r) ≡ option_and_then (λ (o : Opening). decided_as noted o.at) r
verdict_left s past noted None = refl
verdict_left s past noted (Some o) = refl

module _ (h : Held) (a : Arrival) (ids : Ids) (past : Journal) (k : ℕ) (i : a.rec.span.ids ≡ Some ids) (l : 0 < h.num_traces) (g : Ready h past k) where
  abbrev s : Settings
  s = settings h

  abbrev noted : Notes
  noted = notes s past

  abbrev st : Standing
  st = at_clock a.moment h.standing

  abbrev f : Finding
  f = finding s noted ids.trace

  entry_of : (refused lost : Bool) → Entry
  entry_of refused lost = record { item = Span a; refused = refused; lost = lost; answers = [] }

  span_held : (refused lost : Bool) → let e : Entry = record { item = Span a; refused = refused; lost = lost; answers = [] } in after_span_of s h.num_traces refused lost ids.trace a st ≡ standing s (e ∷ past) 0
  span_held refused lost =
      let e : Entry = record { item = Span a; refused = refused; lost = lost; answers = [] } in
      sym (keeps_standing s h.num_traces past k e refl l g.dealt (ap is_some i)
      ∙ ap (λ (x : Standing). after_entry s h.num_traces refused lost (Span a) x) (sym g.stands)
      ∙ ap (λ (o : Option Ids). after_span_in s h.num_traces refused lost a o st) i)

  state_is : state_in st ids.trace ≡ state_found f
  state_is = ap (λ (x : Standing). state_in x ids.trace) g.stands ∙ sym (found_as_held s past k ids.trace (room_of h l) g.dealt)

  leaves_are : leaves (buffer h.num_traces st) ≡ option_map (evicted_of s past noted) (leaving s.num_traces noted.openings)
  leaves_are =
      let m = suc_of h.num_traces l in
      let lim : s.num_traces ≡ Some (suc m.0) = ap (λ (n : ℕ). Some n) m.1 in
      ap (λ (x : Standing). leaves (buffer h.num_traces x)) (g.stands ∙ ap (standing_by s past) (all_dealt s past k g.dealt))
      ∙ ap (λ n. leaves (buffer n (standing_by s past noted))) m.1
      ∙ leaves_held s m.0 lim past a ids i []

  answer_found : (lost : Bool) (x : Finding) → answer_by_state s h.num_traces lost a st (state_found x) ≡ answer_to_finding s lost past noted a x
  answer_found lost (joins o) = refl
  answer_found lost (meets o v) = refl
  answer_found lost opens = ap (λ (e : Option Evicted). Kept e (put_answer s lost e)) leaves_are

  answer_is : (refused lost : Bool) → answer_held s h.num_traces refused lost a st (state_in st ids.trace) ≡ answer_to_ids s refused lost past a a.rec.span.ids
  answer_is true lost = ap (λ (o : Option Ids). answer_to_ids s true lost past a o) (sym i)
  answer_is false lost = ap (answer_by_state s h.num_traces lost a st) state_is ∙ answer_found lost f ∙ ap (λ (o : Option Ids). answer_to_ids s false lost past a o) (sym i)

  marks_found : (refused lost : Bool) (x : Finding) → marks_held s h.num_traces refused lost st (state_found x) ≡ marks_apply_to s noted refused lost x
  marks_found refused lost (joins o) = refl
  marks_found refused lost (meets o v) = refl
  marks_found refused lost opens = ap (λ (v : Option _). (not refused || true) && (not lost || (not refused && cache_is_on s v))) (ap verdict_leaving leaves_are ∙ verdict_left s past noted (leaving s.num_traces noted.openings))

  marks_are : (refused lost : Bool) → marks_held s h.num_traces refused lost st (state_in st ids.trace) ≡ true → marks_apply_to_ids s past refused lost a.rec.span.ids ≡ true
  marks_are refused lost e = ap (λ (o : Option Ids). marks_apply_to_ids s past refused lost o) i ∙ sym (marks_found refused lost f) ∙ ap (marks_held s h.num_traces refused lost st) (sym state_is) ∙ e

  span_stands : (new : Held) (answer : Taken) → TakesSpanOf h a ids.trace answer new → StandsFor new (entry (Span a) answer ∷ past) 0 × (answer ≡ answer_to s (entry (Span a) answer) past) × (marks_apply s (entry (Span a) answer) past ≡ true)
  span_stands new answer t =
      let P = λ (n : Held). StandsFor n (entry (Span a) answer ∷ past) 0 in
      let is : new ≡ record h { standing = standing s (entry (Span a) answer ∷ past) 0 } = t.0 ∙ ap (λ (x : Standing). record h { standing = x }) (span_held (is_refusal answer) (is_loss answer)) in
      (subst P (sym is) (stands_at h l (entry (Span a) answer ∷ past) 0 g.runs (none_taken_due s (entry (Span a) answer) past g.answered refl)), t.1 ∙ answer_is (is_refusal answer) (is_loss answer), marks_are (is_refusal answer) (is_loss answer) t.2)

span-ids : (h : Held) (a : Arrival) (ids : Option Ids) (past : Journal) (k : ℕ) → a.rec.span.ids ≡ ids → is_some ids ≡ true → 0 < h.num_traces → Ready h past k → (new : Held) (answer : Taken) → TakesSpan h a ids answer new →
    StandsFor new (entry (Span a) answer ∷ past) 0 × (answer ≡ answer_to (settings h) (entry (Span a) answer) past) × (marks_apply (settings h) (entry (Span a) answer) past ≡ true)
span-ids h a None past k i v l g new answer t = cc
span-ids h a (Some ids) past k i v l g new answer t = span_stands h a ids past k i l g new answer t

pub takes_span : (h : Held) (a : Arrival) (past : Journal) (k : ℕ) → is_some a.rec.span.ids ≡ true → 0 < h.num_traces → Ready h past k → (new : Held) (answer : Taken) → TakesSpan h a a.rec.span.ids answer new →
    StandsFor new (entry (Span a) answer ∷ past) 0 × (answer ≡ answer_to (settings h) (entry (Span a) answer) past) × (marks_apply (settings h) (entry (Span a) answer) past ≡ true)
takes_span h a past k v l g new answer t = span-ids h a a.rec.span.ids past k refl v l g new answer t

-- ---- a tick, and an end

pub takes_tick : (h : Held) (m : ℕ) (past : Journal) (k : ℕ) → 0 < h.num_traces → Ready h past k → StandsFor (record h { standing = held_after_tick m h.standing }) (entry (Tick m) Ticked ∷ past) 0
takes_tick h m past k l g =
    let x = entry (Tick m) Ticked in
    let P = λ (st : Standing). StandsFor (record h { standing = st }) (x ∷ past) 0 in
    subst P (keeps_standing (settings h) h.num_traces past k x refl l g.dealt refl ∙ ap (held_after_tick m) (sym g.stands)) (stands_at h l (x ∷ past) 0 g.runs (none_taken_due (settings h) x past g.answered refl))

end_held : (h : Held) (sender : ℕ) (answer : Taken) (past : Journal) (k : ℕ) → 0 < h.num_traces → Ready h past k → standing (settings h) (entry (End sender) answer ∷ past) 0 ≡ held_after_end sender h.standing
end_held h sender answer past k l g = keeps_standing (settings h) h.num_traces past k (entry (End sender) answer) refl l g.dealt refl ∙ ap (held_after_end sender) (sym g.stands)

pub takes_end : (h : Held) (sender : ℕ) (answer : Taken) (past : Journal) (k : ℕ) → 0 < h.num_traces → Ready h past k → StandsFor (record h { standing = held_after_end sender h.standing }) (entry (End sender) answer ∷ past) 0
takes_end h sender answer past k l g =
    let x = entry (End sender) answer in
    let P = λ (st : Standing). StandsFor (record h { standing = st }) (x ∷ past) 0 in
    subst P (end_held h sender answer past k l g) (stands_at h l (x ∷ past) 0 g.runs (none_taken_due (settings h) x past g.answered refl))

if-same : (b c : Bool) → c ≡ false → (if b then Finished else Ended) ≡ (if b && not c then Finished else Ended)
if-same true c e = rw e refl
if-same false c e = refl

pub end-answer : (h : Held) (sender : ℕ) (answer : Taken) (past : Journal) (k : ℕ) → 0 < h.num_traces → Ready h past k → (if is_finished (record h { standing = held_after_end sender h.standing }) then Finished else Ended) ≡ answer_to (settings h) (entry (End sender) answer) past
end-answer h sender answer past k l g =
    let x = entry (End sender) answer in
    let senders = length h.standing.ends in
    let finished : is_finished (record h { standing = held_after_end sender h.standing }) ≡ have_ended (x ∷ past) senders
    = ap (λ (st : Standing). list_all (λ b. b) st.ends) (sym (end_held h sender answer past k l g)) ∙ all_ended (settings h) (room_of h l) (x ∷ past) senders in
    ap (λ b. if b then Finished else Ended) finished ∙ if-same (have_ended (x ∷ past) senders) (have_ended past senders) g.runs

-- ---- a new shard

replicate-push : (n : ℕ) (b : Bool) → replicate n b ++ b ∷ [] ≡ replicate (suc n) b
replicate-push zero b = refl
replicate-push (suc n) b = ap (λ xs. b ∷ xs) (replicate-push n b)

no-ends : (n : ℕ) → ends [] n ≡ replicate n false
no-ends zero = refl
no-ends (suc n) = ap (λ xs. xs ++ false ∷ []) (no-ends n) ∙ replicate-push n false

none_taken : {X : Type 0} (n : ℕ) → take {A = X} n [] ≡ []
none_taken zero = refl
none_taken (suc n) = refl

pub new_stands : (policies : List Policy) (waits : Waits) (n : ℕ) (b : Buffer) (c : CacheLists) (ended : List Bool) → b.episodes ≡ [] → c.sampled.traces ≡ [] → c.not_sampled.traces ≡ [] → ended ≡ replicate n false →
    StandsFor (held_of policies waits b c 0 0 ended) [] 0
new_stands policies waits n b c ended e x y f =
    let z : ended ≡ ends [] (length ended) = f ∙ sym (no-ends n) ∙ ap (ends []) (sym (ap length f ∙ length-replicate n false)) in
    let h = held_of policies waits b c 0 0 ended in
    (tt, parts b.episodes c.sampled.traces c.not_sampled.traces ended b.num_traces c.sampled.size c.not_sampled.size e x y z, tt)
  where
    parts : (es : List Episode) (ss ns : List TraceId) (en : List Bool) (l i j : ℕ) → es ≡ [] → ss ≡ [] → ns ≡ [] → en ≡ ends [] (length en) →
        (let st : Standing = record { episodes = es; sampled = ss; non_sampled = ns; clock = 0; mark = 0; ends = en } in st) ≡ standing (settings_of policies waits l i j (length en)) [] 0
    parts es ss ns en l i j e x y z =
        let a = none_taken {X = Opening} l in
        let b = none_taken {X = TraceId} i in
        let c = none_taken {X = TraceId} j in
        let st = λ (es : List Episode) (ss ns : List TraceId) (xs : List Bool). (let r : Standing = record { episodes = es; sampled = ss; non_sampled = ns; clock = 0; mark = 0; ends = xs } in r) in
        ap (λ es. st es ss ns en) e ∙ ap (λ ss. st [] ss ns en) (x ∙ sym b) ∙ ap (λ ns. st [] (take i []) ns en) (y ∙ sym c) ∙ ap (st [] (take i []) (take j [])) z
        ∙ ap (λ (os : List Opening). st (map (λ o. record { trace = o.trace; moment = o.moment; maximum = waits.maximum_trace_size; first_root = None; spans = []; verdict = None }) (reverse os)) (take i []) (take j []) (ends [] (length en))) (sym a)

-- a new shard has a sender that has not ended
pub new_runs : (n : ℕ) (ended : List Bool) → ended ≡ replicate n false → 0 < n → list_all (λ b. b) ended ≡ false
new_runs zero ended e h = absurd (omega (arith, h))
new_runs (suc n) ended e h = rw e refl
