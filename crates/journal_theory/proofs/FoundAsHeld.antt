-- What a span finds is what the buffer and the caches tell.
-- For the contract of `found_as_held`.
use Rattle.std.proofs.Common.{◌≡◌, ℕ, zero, suc, ◌≤◌, Bool, true, false, cond, ◌||◌, ◌==◌, nat_lt, List, [], ◌∷◌, ◌++◌, map, length, take, reverse, find, Option, Some, None, option_map, refl, ap, sym, ◌∙◌, arith, eq-eqb}
use Rattle.std.specs.List.{list_any}
use Rattle.std.proofs.lemmas.List.{reverse-append}
use Rattle.span_ids.proofs.SameTraces.{same_trace-is}
use Rattle.span_ids.specs.Same.{same_trace}
use Rattle.span_ids.specs.declared.ids.TraceId.{TraceId}
use Rattle.span_ids.specs.declared.outcome.Verdict.{Verdict}
use Rattle.span_ids.specs.declared.outcome.Verdict.TheVariants.{Sampled, NotSampled}
use Rattle.trace_buffer.specs.Buffer.{Episode}
use Rattle.decision_cache.specs.Touches.{last_touched, touches_since}
use Rattle.decision_cache.proofs.Laws.{holds_where_remembered}
use Rattle.journal_theory.specs.Journal.{Settings, Journal, Opening, Notes, joins, meets, opens, finding, finding_of, finding_at, notes, notes_dealt, in_buffer, is_in_buffer, decided_as, latest_episode, is_cached, is_remembered, cache_size, due_now, due_at, decisions_at, decisions_in_turn, after_item, after_decisions}
use Rattle.journal_theory.specs.Standing.{standing, episode}
use Rattle.journal_theory.specs.Laws.{State, state_found, state_cached, state_by, state_in, FoundAsHeld}
use Rattle.journal_theory.proofs.ListFacts.{Each, Each-weaker, Each-reverse, Pairs, Pairs-right}
use Rattle.journal_theory.proofs.Find.{found, not_found, find_past, find_none, find_front, any_split}
use Rattle.journal_theory.proofs.Notes.{HasRoom, buffer_front, Sound}
use Rattle.journal_theory.proofs.Sound.{sound_notes}
use Rattle.journal_theory.proofs.CacheFacts.{Remembering, Outside, OtherTrace, in_cache, was_touched, behind_buffer}
use Rattle.journal_theory.proofs.Remembering.{remembering_notes}

-- ---- from the other end

-- where one passes at most, it is the first from both ends
pub find_reversed : (t : TraceId) (os : List Opening) → Pairs OtherTrace os → (r : Option Opening) → find (λ (o : Opening). same_trace o.trace t) os ≡ r → find (λ (o : Opening). same_trace o.trace t) (reverse os) ≡ r
find_reversed t os h None e = let q = λ (o : Opening). same_trace o.trace t in find_none q (reverse os) (Each-reverse (λ (o : Opening). q o ≡ false) os (not_found q os e))
find_reversed t os h (Some o) e =
    let q = λ (p : Opening). same_trace p.trace t in
    let k = found q os o e in
    let others : Each (OtherTrace o) k.back = (Pairs-right OtherTrace k.front (o ∷ k.back) (rw (k.is) at h)).0 in
    let none : Each (λ (p : Opening). q p ≡ false) k.back = Each-weaker (OtherTrace o) (λ (p : Opening). q p ≡ false) k.back (λ p f. ap (same_trace p.trace) (sym (same_trace-is o.trace t k.passes)) ∙ f) others in
    let turned : reverse os ≡ reverse (o ∷ k.back) ++ reverse k.front = ap reverse k.is ∙ reverse-append k.front (o ∷ k.back) in
    let behind : reverse (o ∷ k.back) ≡ reverse k.back ++ o ∷ [] = reverse-append (o ∷ []) k.back in
    let last : find q (o ∷ []) ≡ Some o = rw k.passes refl in
    let there : find q (reverse k.back ++ o ∷ []) ≡ Some o = find_past q (reverse k.back) (o ∷ []) (Each-reverse (λ (p : Opening). q p ≡ false) k.back none) ∙ last in
    ap (find q) turned ∙ find_front q (reverse (o ∷ k.back)) (reverse k.front) o (ap (find q) behind ∙ there)

pub find_episode : (s : Settings) (past : Journal) (noted : Notes) (t : TraceId) (os : List Opening) → find (λ (e : Episode). same_trace e.trace t) (map (episode s past noted) os) ≡ option_map (episode s past noted) (find (λ (o : Opening). same_trace o.trace t) os)
find_episode s past noted t [] = refl
find_episode s past noted t (o ∷ os) = (elim (same_trace o.trace t) as (λ b. cond b (Some (episode s past noted o)) (find (λ (e : Episode). same_trace e.trace t) (map (episode s past noted) os)) ≡ option_map (episode s past noted) (cond b (Some o) (find (λ (o : Opening). same_trace o.trace t) os))) [
  | true ↦ refl
  | false ↦ find_episode s past noted t os
])

-- ---- each decision was dealt with

length_turns : (s : Settings) (J : Journal) (os : List Opening) (answers : List (List Bool)) → length (decisions_in_turn s J os answers) ≤ length os
length_turns s J [] answers = omega arith
length_turns s J (o ∷ os) [] = omega arith
length_turns s J (o ∷ os) (a ∷ answers) = let n = length_turns s J os answers in omega (arith, n)

take_whole : {X : Type 0} (n : ℕ) (xs : List X) → length xs ≤ n → take n xs ≡ xs
take_whole zero [] h = refl
take_whole zero (x ∷ xs) h = absurd (omega (arith, h))
take_whole (suc n) [] h = refl
take_whole {X} (suc n) (x ∷ xs) h = ap (λ (ys : List X). x ∷ ys) (take_whole n xs (omega (arith, h)))

pub all_dealt : (s : Settings) (past : Journal) (dealt : ℕ) → length (due_now s past) ≤ dealt → notes_dealt s past dealt ≡ notes s past
unfolding notes
all_dealt s [] dealt h = refl
all_dealt s (e ∷ before) dealt h =
    let noted = after_item s e before e.item (notes s before) in
    let n = length_turns s (e ∷ before) (due_at s e before e.item noted) e.answers in
    ap (λ ds. after_decisions ds noted) (take_whole dealt (decisions_at s e before noted) (omega (arith, n, h)))

-- ---- by what the buffer and the caches hold

module _ (s : Settings) (past : Journal) (noted : Notes) (n : ℕ) (t : TraceId) (sound : Sound s past noted) (w : Remembering s noted n) where
  abbrev own : Opening → Bool
  own o = same_trace o.trace t

  -- in the buffer
  pub found_here : (o : Opening) → latest_episode noted t ≡ Some o → is_in_buffer s noted o.at ≡ true → (d : Option Verdict) → decided_as noted o.at ≡ d → state_found (finding s noted t) ≡ Some d
  found_here o l inside None d = ap state_found (ap (finding_of s noted) l ∙ ap (finding_at s noted o) d ∙ ap (λ b. cond b (joins o) opens) inside)
  found_here o l inside (Some v) d = ap state_found (ap (finding_of s noted) l ∙ ap (finding_at s noted o) d ∙ ap (λ b. cond (b || is_cached s noted o v) (meets o v) opens) inside)

  abbrev cached : State
  cached = state_cached (take (cache_size s Sampled) (last_touched Sampled noted.touches)) (take (cache_size s NotSampled) (last_touched NotSampled noted.touches)) t

  cached_by : (a b : Bool) → in_cache s noted Sampled t ≡ a → in_cache s noted NotSampled t ≡ b → cached ≡ cond a (Some (Some Sampled)) (cond b (Some (Some NotSampled)) None)
  cached_by a b e f = rw (e, f) refl

  not_cached : (v : Verdict) (b : Bool) → in_cache s noted v t ≡ b → (Outside s noted t v → ⊥) → b ≡ false
  not_cached v true e f = absurd (f (w.held v t e))
  not_cached v false e f = refl

  none_cached : ((v : Verdict) → Outside s noted t v → ⊥) → cached ≡ None
  none_cached f = cached_by false false (not_cached Sampled (in_cache s noted Sampled t) refl (f Sampled)) (not_cached NotSampled (in_cache s noted NotSampled t) refl (f NotSampled))

  -- where the latest episode has this verdict, the other cache doesn't hold the trace
  only_cached : (v : Verdict) (b : Bool) → ((u : Verdict) → Outside s noted t u → v ≡ u) → in_cache s noted v t ≡ b → cached ≡ cond b (Some (Some v)) None
  only_cached Sampled b f e = cached_by b false e (not_cached NotSampled (in_cache s noted NotSampled t) refl (λ a. cc (f NotSampled a)))
      ∙ (elim b as (λ c. cond c (Some (Some Sampled)) (cond false (Some (Some NotSampled)) None) ≡ cond c (Some (Some Sampled)) None) [ true ↦ refl | false ↦ refl ])
  only_cached NotSampled b f e = cached_by false b (not_cached Sampled (in_cache s noted Sampled t) refl (λ a. cc (f Sampled a))) e

  decided_out : (o : Opening) (v : Verdict) → latest_episode noted t ≡ Some o → is_in_buffer s noted o.at ≡ false → decided_as noted o.at ≡ Some v → (b : Bool) → was_touched noted o.at ≡ b → state_found (finding s noted t) ≡ cached
  decided_out o v l out d true k =
      let a : Outside s noted t v = record { opening = o; latest = l; out = out; decided = d; touched = k } in
      let u = w.last v t a in
      let few = nat_lt (length (last_touched v (touches_since t noted.touches))) (cache_size s v) in
      let held : in_cache s noted v t ≡ few = holds_where_remembered v t (cache_size s v) noted.touches u.0 u.1 u.2 in
      let same : nat_lt (length (last_touched v (touches_since o.trace noted.touches))) (cache_size s v) ≡ few
      = ap (λ (x : TraceId). nat_lt (length (last_touched v (touches_since x noted.touches))) (cache_size s v)) (same_trace-is o.trace t (found own noted.openings o l).passes) in
      let remembered : is_remembered s noted o v ≡ few = rw (out, k, same) refl in
      let verdicts : (x : Verdict) → Outside s noted t x → v ≡ x = λ x b. let is : o ≡ b.opening = cc (l, b.latest) in cc (d, ap (decided_as noted) (ap (λ (z : Opening). z.at) is), b.decided) in
      let finds : finding s noted t ≡ cond few (meets o v) opens = ap (finding_of s noted) l ∙ ap (finding_at s noted o) d ∙ ap (λ b. cond b (meets o v) opens) remembered in
      let branch : (b : Bool) → state_found (cond b (meets o v) opens) ≡ cond b (Some (Some v)) None = λ b. (elim b as (λ c. state_found (cond c (meets o v) opens) ≡ cond c (Some (Some v)) None) [ true ↦ refl | false ↦ refl ]) in
      ap state_found finds ∙ branch few ∙ sym (only_cached v few verdicts held)
  decided_out o v l out d false k =
      let finds : finding s noted t ≡ opens = ap (finding_of s noted) l ∙ ap (finding_at s noted o) d ∙ rw (out, k) refl in
      ap state_found finds ∙ sym (none_cached (λ x b. let is : o ≡ b.opening = cc (l, b.latest) in let at : was_touched noted o.at ≡ true = ap (λ (z : Opening). was_touched noted z.at) is ∙ b.touched in cc (k, at)))

  found_out : (o : Opening) → latest_episode noted t ≡ Some o → is_in_buffer s noted o.at ≡ false → (d : Option Verdict) → decided_as noted o.at ≡ d → state_found (finding s noted t) ≡ cached
  found_out o l out None d =
      let finds : finding s noted t ≡ opens = ap (finding_of s noted) l ∙ ap (finding_at s noted o) d ∙ ap (λ b. cond b (joins o) opens) out in
      ap state_found finds ∙ sym (none_cached (λ x b. let is : o ≡ b.opening = cc (l, b.latest) in cc (d, ap (decided_as noted) (ap (λ (z : Opening). z.at) is), b.decided)))
  found_out o l out (Some v) d = decided_out o v l out d (was_touched noted o.at) refl

  pub found_past : (l : Option Opening) → latest_episode noted t ≡ l → find own (in_buffer s noted) ≡ None → state_found (finding s noted t) ≡ cached
  found_past None l e = ap (λ (r : Option Opening). state_found (finding_of s noted r)) l ∙ sym (none_cached (λ x b. cc (l, b.latest)))
  found_past (Some o) l e = found_out o l (behind_buffer s noted past sound t o l e) (decided_as noted o.at) refl

  pub state_is : (r : Option Opening) → find own (in_buffer s noted) ≡ r → state_found (finding s noted t) ≡ (elim r [ None ↦ cached | Some o ↦ Some (decided_as noted o.at) ])
  state_is None e = found_past (latest_episode noted t) refl e
  state_is (Some o) e =
      let front = buffer_front s.num_traces noted.openings in
      let k = found own (in_buffer s noted) o e in
      let l : latest_episode noted t ≡ Some o = ap (find own) front.1 ∙ find_front own (in_buffer s noted) front.0 o e in
      let inside : is_in_buffer s noted o.at ≡ true = ap (list_any (λ (x : Opening). x.at == o.at)) k.is ∙ any_split (λ (x : Opening). x.at == o.at) k.front k.back o (eq-eqb o.at o.at refl) in
      found_here o l inside (decided_as noted o.at) refl

by_episode : (s : Settings) (past : Journal) (dealt : ℕ) (t : TraceId) → HasRoom s.num_traces → notes_dealt s past dealt ≡ notes s past → (r : Option Opening) → find (λ (o : Opening). same_trace o.trace t) (in_buffer s (notes s past)) ≡ r →
    state_found (finding s (notes s past) t) ≡ state_in (standing s past dealt) t
by_episode s past dealt t room n r e =
    let noted = notes s past in
    let sound = sound_notes s room past in
    let w = remembering_notes s room past in
    let at = λ (m : Notes). state_by (standing s past dealt) t (find (λ (x : Episode). same_trace x.trace t) (map (episode s past m) (reverse (in_buffer s m)))) in
    let here : at noted ≡ state_by (standing s past dealt) t (option_map (episode s past noted) r)
    = ap (state_by (standing s past dealt) t) (find_episode s past noted t (reverse (in_buffer s noted)) ∙ ap (option_map (episode s past noted)) (find_reversed t (in_buffer s noted) w.apart r e)) in
    state_is s past noted (length past) t sound w r e ∙ finish r ∙ sym here ∙ sym (ap at n)
  where
    finish : (r : Option Opening) → (elim r [ None ↦ cached s past (notes s past) (length past) t (sound_notes s room past) (remembering_notes s room past) | Some o ↦ Some (decided_as (notes s past) o.at) ]) ≡ state_by (standing s past dealt) t (option_map (episode s past (notes s past)) r)
    finish None = ap (λ (m : Notes). state_cached (take (cache_size s Sampled) (last_touched Sampled m.touches)) (take (cache_size s NotSampled) (last_touched NotSampled m.touches)) t) (sym n)
    finish (Some o) = refl

pub found_as_held : FoundAsHeld
found_as_held s past dealt t room h = by_episode s past dealt t room (all_dealt s past dealt h) (find (λ (o : Opening). same_trace o.trace t) (in_buffer s (notes s past))) refl
