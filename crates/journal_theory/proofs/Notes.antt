-- What holds of the notes of every journal.
-- For the contracts of `decides_standing`, `due_by_first_root`, `found_as_held`, `keeps_standing` and others.
use Rattle.std.proofs.lemmas.Bool.{lt-leb}
use Rattle.std.specs.Prelude.{nat_le, if◌then◌else◌}
use Rattle.std.proofs.Common.{le-leb, ◌≡◌, ◌≢◌, ℕ, ◌<◌, ◌≤◌, Bool, true, false, cond, not, ◌&&◌, ◌==◌, List, [], ◌∷◌, ◌++◌, length, drop, find, Option, Some, None, is_none, refl, ap, sym, ◌∙◌, arith, ne_eqb, eq-eqb}
use Rattle.std.specs.List.{list_any}
use Rattle.std.proofs.lemmas.List.{append-nil, take-append-drop}
use Rattle.span_ids.proofs.SameTraces.{same_trace-right}
use Rattle.span_ids.specs.Same.{same_trace}
use Rattle.journal_theory.specs.Journal.{Settings, Journal, ids_have_trace, is_of_trace, Opening, Decision, Notes, last_of, in_buffer, is_in_buffer, decided_as, latest_episode, is_remembered, joins, meets, opens, finding, item_spans, spans_since}
use Rattle.otlp_types.specs.declared.span.Ids.{Ids}
use Rattle.otlp_types.specs.declared.arrival.Arrival.{Arrival}
use Rattle.span_ids.specs.declared.ids.TraceId.{TraceId}
use Rattle.otlp_types.specs.declared.arrival.Item.{Item}
use Rattle.otlp_types.specs.declared.arrival.Item.TheVariants.{Span, Tick, End}
use Rattle.span_ids.specs.declared.outcome.Verdict.{Verdict}
use Rattle.journal_theory.proofs.ListFacts.{Each, Each-append, Each-right, Each-weaker, Pairs, Pairs-right, Pairs-across, Split}
use Rattle.journal_theory.proofs.Find.{Found, found, not_found, find_past, find_front, any_none, any_split}

-- a limit is at least 1
abbrev pub HasRoom : Option ℕ → Type 0
HasRoom num_traces = num_traces ≢ Some 0

-- ---- traces

pub other_trace : (u t : TraceId) (ids : Option Ids) → ids_have_trace u ids ≡ true → same_trace u t ≡ false → ids_have_trace t ids ≡ false
other_trace u t None h k = refl
other_trace u t (Some ids) h k = go (same_trace t ids.trace) refl
  where
    go : (b : Bool) → same_trace t ids.trace ≡ b → b ≡ false
    go true e = absurd (cc (same_trace-right u t ids.trace e, h, k))
    go false e = refl

-- ---- the spans of an episode

-- what an item adds to an episode of this trace that is open
abbrev pub own_spans : TraceId → (refused : Bool) → Item → List Arrival
own_spans t refused (Span a) = if is_of_trace t a && not refused then a ∷ [] else []
own_spans t refused (Tick m) = []
own_spans t refused (End sender) = []

own_is : (o : Opening) (at : ℕ) (refused : Bool) (item : Item) → o.at ≤ at → item_spans o at refused item ≡ own_spans o.trace refused item
own_is o at refused (Tick m) l = refl
own_is o at refused (End i) l = refl
own_is o at refused (Span a) l = ap (λ (b : Bool). cond (b && is_of_trace o.trace a && not refused) (a ∷ []) []) (le-leb o.at at l)

pub none_own : (o : Opening) (at : ℕ) (refused : Bool) (item : Item) → at < o.at → item_spans o at refused item ≡ []
none_own o at refused (Tick m) l = refl
none_own o at refused (End i) l = refl
none_own o at refused (Span a) l = ap (λ (b : Bool). cond (b && is_of_trace o.trace a && not refused) (a ∷ []) []) (lt-leb o.at at l)

pub spans_more : (J : Journal) (o : Opening) (item : Item) (refused lost : Bool) (given : List (List Bool)) → o.at ≤ length J
    → spans_since (record { item = item; refused = refused; lost = lost; answers = given } ∷ J) o ≡ spans_since J o ++ own_spans o.trace refused item
spans_more J o item refused lost given l = ap (λ (z : List Arrival). spans_since J o ++ z) (own_is o (length J) refused item l)

pub spans_before : (J : Journal) (o : Opening) → length J ≤ o.at → spans_since J o ≡ []
spans_before [] o l = refl
spans_before (e ∷ J) o l = ap (λ (z : List Arrival). z ++ item_spans o (length J) e.refused e.item) (spans_before J o (omega arith)) ∙ none_own o (length J) e.refused e.item (omega arith)

pub spans_of_trace : (J : Journal) (o : Opening) → Each (λ a. is_of_trace o.trace a ≡ true) (spans_since J o)
spans_of_trace [] o = tt
spans_of_trace (e ∷ J) o = Each-append (λ a. is_of_trace o.trace a ≡ true) (spans_since J o) (item_spans o (length J) e.refused e.item) (spans_of_trace J o) (one e.refused e.item)
  where
    one : (refused : Bool) (item : Item) → Each (λ a. is_of_trace o.trace a ≡ true) (item_spans o (length J) refused item)
    one refused (Span a) = kept (nat_le o.at (length J)) (is_of_trace o.trace a) refused refl
      where
        kept : (c b r : Bool) → is_of_trace o.trace a ≡ b → Each (λ a. is_of_trace o.trace a ≡ true) (cond (c && b && not r) (a ∷ []) [])
        kept true true true e = tt
        kept true true false e = (e, tt)
        kept true false r e = tt
        kept false b r e = tt
    one refused (Tick m) = tt
    one refused (End i) = tt

-- ---- sound notes

abbrev pub is_open : Notes → Opening → Bool
is_open noted o = is_none (decided_as noted o.at)

abbrev pub IsOlder : Opening → Opening → Type 0
IsOlder newer older = older.at < newer.at

-- an older episode that is undecided has another trace
abbrev pub IsApart : (Opening → Bool) → Opening → Opening → Type 0
IsApart p newer older = p older ≡ true → same_trace older.trace newer.trace ≡ false

pub record Sound (s : Settings) (J : Journal) (noted : Notes) : Type 0 where
  pub below : Each (λ (o : Opening). o.at < length J) noted.openings
  pub ordered : Pairs IsOlder noted.openings
  pub decided : Each (λ (d : Decision). d.opening.at < length J) noted.decisions
  pub apart : Pairs (IsApart (is_open noted)) (in_buffer s noted)

-- the buffer is a front of the openings
pub buffer_front : (num_traces : Option ℕ) (os : List Opening) → (rest : List Opening) × (os ≡ last_of num_traces os ++ rest)
buffer_front None os = ([], sym (append-nil os))
buffer_front (Some n) os = (drop n os, sym (take-append-drop n os))

-- ---- what a span of a trace finds

pub data Meeting (s : Settings) (noted : Notes) (t : TraceId) : Type 0 where
  it_joins : (o : Opening) (newer older : List Opening) → in_buffer s noted ≡ newer ++ o ∷ older → same_trace o.trace t ≡ true → decided_as noted o.at ≡ None
      → latest_episode noted t ≡ Some o
      → Each (λ (x : Opening). same_trace x.trace t ≡ false) newer → Each (λ (x : Opening). is_open noted x ≡ true → same_trace x.trace t ≡ false) older
      → finding s noted t ≡ joins o → Meeting s noted t
  it_meets : (o : Opening) (v : Verdict) → latest_episode noted t ≡ Some o → decided_as noted o.at ≡ Some v
      → Each (λ (x : Opening). is_open noted x ≡ true → same_trace x.trace t ≡ false) (in_buffer s noted)
      → finding s noted t ≡ meets o v → Meeting s noted t
  it_opens : Each (λ (x : Opening). is_open noted x ≡ true → same_trace x.trace t ≡ false) (in_buffer s noted)
      → finding s noted t ≡ opens → Meeting s noted t

module _ (s : Settings) (J : Journal) (noted : Notes) (t : TraceId) (h : Sound s J noted) where
  abbrev AllOther : Type 0
  AllOther = Each (λ (x : Opening). is_open noted x ≡ true → same_trace x.trace t ≡ false) (in_buffer s noted)

  meeting_at : (b : Bool) (x : Opening) (v : Verdict) → AllOther → latest_episode noted t ≡ Some x → decided_as noted x.at ≡ Some v → is_remembered s noted x v ≡ b → Meeting s noted t
  meeting_at true x v others l d r = it_meets x v l d others (rw (l, d, r) refl)
  meeting_at false x v others l d r = it_opens others (rw (l, d, r) refl)

  meeting_decided : (x : Opening) (d : Option Verdict) → AllOther → latest_episode noted t ≡ Some x → is_in_buffer s noted x.at ≡ false → decided_as noted x.at ≡ d → Meeting s noted t
  meeting_decided x None others l out d = it_opens others (rw (l, d, out) refl)
  meeting_decided x (Some v) others l out d = meeting_at (is_remembered s noted x v) x v others l d refl

  -- an opening that stands behind the buffer
  behind : (rest : List Opening) → noted.openings ≡ in_buffer s noted ++ rest → (x : Opening) → Split x rest → is_in_buffer s noted x.at ≡ false
  behind rest e x k = any_none (λ (o : Opening). o.at == x.at) (in_buffer s noted)
      (Each-weaker (λ (b : Opening). Each (IsOlder b) rest) (λ (b : Opening). (b.at == x.at) ≡ false) (in_buffer s noted)
      (λ b a. ne_eqb b.at x.at (λ q. let l = older b a in omega arith))
      (Pairs-across IsOlder (in_buffer s noted) rest (rw e at (h.ordered))))
    where
      older : (b : Opening) → Each (IsOlder b) rest → x.at < b.at
      older b a = (Each-right (IsOlder b) k.front (x ∷ k.back) (rw (k.is) at a)).0

  meeting_past : (r : Option Opening) → (rest : List Opening) → noted.openings ≡ in_buffer s noted ++ rest → latest_episode noted t ≡ r → find (λ (o : Opening). same_trace o.trace t) rest ≡ r → AllOther → Meeting s noted t
  meeting_past None rest e l f others = it_opens others (rw l refl)
  meeting_past (Some x) rest e l f others =
      let k = found (λ (o : Opening). same_trace o.trace t) rest x f in
      meeting_decided x (decided_as noted x.at) others l (behind rest e x (record { front = k.front; back = k.back; is = k.is })) refl

  meeting_here : (o : Opening) → Found (λ (o : Opening). same_trace o.trace t) o (in_buffer s noted) → latest_episode noted t ≡ Some o → is_in_buffer s noted o.at ≡ true → (d : Option Verdict) → decided_as noted o.at ≡ d → Meeting s noted t
  meeting_here o k l i d e = go d e
    where
      apart : Pairs (IsApart (is_open noted)) (k.front ++ o ∷ k.back)
      apart = rw (k.is) at (h.apart)

      older : Each (λ (x : Opening). is_open noted x ≡ true → same_trace x.trace t ≡ false) k.back
      older = Each-weaker (IsApart (is_open noted) o) (λ (x : Opening). is_open noted x ≡ true → same_trace x.trace t ≡ false) k.back
          (λ x a p. sym (same_trace-right x.trace o.trace t k.passes) ∙ a p) (Pairs-right (IsApart (is_open noted)) k.front (o ∷ k.back) apart).0

      newer : Each (λ (x : Opening). is_open noted x ≡ true → same_trace x.trace t ≡ false) k.front
      newer = Each-weaker (λ (x : Opening). same_trace x.trace t ≡ false) (λ (x : Opening). is_open noted x ≡ true → same_trace x.trace t ≡ false) k.front (λ x a p. a) k.before

      go : (d : Option Verdict) → decided_as noted o.at ≡ d → Meeting s noted t
      go None e = it_joins o k.front k.back k.is k.passes e l k.before older (rw (l, e, i) refl)
      go (Some v) e = it_meets o v l e (rw (k.is) (Each-append (λ (x : Opening). is_open noted x ≡ true → same_trace x.trace t ≡ false) k.front (o ∷ k.back) newer ((λ p. absurd (closed p)), older))) (rw (l, e, i) refl)
        where
          closed : is_open noted o ≡ true → ⊥
          closed p = let q : is_none (Some v) ≡ true = ap is_none (sym e) ∙ p in cc q

  pub meeting : Meeting s noted t
  meeting = go (find (λ (o : Opening). same_trace o.trace t) (in_buffer s noted)) refl
    where
      fr : (rest : List Opening) × (noted.openings ≡ in_buffer s noted ++ rest)
      fr = buffer_front s.num_traces noted.openings

      go : (r : Option Opening) → find (λ (o : Opening). same_trace o.trace t) (in_buffer s noted) ≡ r → Meeting s noted t
      go None e =
          let none = not_found (λ (o : Opening). same_trace o.trace t) (in_buffer s noted) e in
          let l : latest_episode noted t ≡ find (λ (o : Opening). same_trace o.trace t) fr.0 = ap (find (λ (o : Opening). same_trace o.trace t)) fr.1 ∙ find_past (λ (o : Opening). same_trace o.trace t) (in_buffer s noted) fr.0 none in
          meeting_past (find (λ (o : Opening). same_trace o.trace t) fr.0) fr.0 fr.1 l refl
          (Each-weaker (λ (x : Opening). same_trace x.trace t ≡ false) (λ (x : Opening). is_open noted x ≡ true → same_trace x.trace t ≡ false) (in_buffer s noted) (λ x a p. a) none)
      go (Some o) e =
          let k = found (λ (o : Opening). same_trace o.trace t) (in_buffer s noted) o e in
          let l : latest_episode noted t ≡ Some o = ap (find (λ (o : Opening). same_trace o.trace t)) fr.1 ∙ find_front (λ (o : Opening). same_trace o.trace t) (in_buffer s noted) fr.0 o e in
          meeting_here o k l (ap (list_any (λ (x : Opening). x.at == o.at)) k.is ∙ any_split (λ (x : Opening). x.at == o.at) k.front k.back o (eq-eqb o.at o.at refl)) (decided_as noted o.at) refl
