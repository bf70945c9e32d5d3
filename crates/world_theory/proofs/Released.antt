-- Only spans that their shard's journal releases are handed over.
-- For the laws of the headline, `headline` and each of its parts.
use Rattle.std.proofs.Common.{◌≡◌, ℕ, zero, suc, ◌+◌, Bool, true, false, List, [], ◌∷◌, ◌++◌, length, flat_map, slice_get, slice_set, Option, Some, None, ◌⊎◌, inl, inr, refl, ap, sym, subst, ◌∙◌, append_assoc}
use Rattle.std.proofs.lemmas.Bool.{cases_eq}
use Rattle.journal_theory.specs.Journal.{Settings, Journal, Opening, Decision, in_buffer, leaving, decided_as, Finding, joins, meets, opens, finding, after_item, due_at, notes, decisions_now, Entry}
use Rattle.journal_theory.specs.Fate.{is_released, fate, fate_of_verdict, fate_of_member_decided, fate_of_finding, Effect, effect_of_verdict, effect_of_finding, effect_of_span, effect_of_decision}
use Rattle.otlp_types.specs.declared.span.Ids.{Ids}
use Rattle.otlp_types.specs.declared.arrival.Arrival.{Arrival}
use Rattle.otlp_types.specs.declared.arrival.Item.TheVariants.{Span, Tick, End}
use Rattle.span_ids.specs.declared.outcome.Verdict.{Verdict}
use Rattle.span_ids.specs.declared.outcome.Verdict.TheVariants.{Sampled, NotSampled}
use Rattle.span_ids.specs.declared.outcome.Reason.TheVariants.{LateNotSampled, NotSampled as DecidedAgainst}
use Rattle.world_theory.specs.World.{CoreConfig, CoreShard, World, new_world, new_shard, settings}
use Rattle.journal_theory.proofs.Notes.{HasRoom, is_open}
use Rattle.journal_theory.proofs.ListFacts.{Each, Each-append, Each-left, Each-right, Each-weaker, Each-split, Split}
use Rattle.journal_theory.proofs.Sound.{sound_item, sound_notes}
use Rattle.world_theory.proofs.Content.{gone_released}
use Rattle.world_theory.proofs.Dealing.{Each-due, Pairs-due, in_turn, IsEarlier, undecided_ascend, undecided_stand}
use Rattle.world_theory.proofs.Members.{Took, Joined, AreJoined, all_joined, by_item}
use Rattle.world_theory.proofs.Answered.{split_answered, fate_answered}
use Rattle.journal_theory.specs.Journal.{due_now, answered, IsAnsweredUpTo}
use Rattle.world_theory.proofs.Decided.{decided_stays, noted_decision}
use Rattle.world_theory.proofs.Steps.{Stepped, received_by, routed, refused_by, took_span, took_tick, closed_by, took_end, answered_by, decided_one, shipped, pulled, handed_over, failed, batch_dropped}
use Rattle.world_theory.proofs.Balance.{same_settings, has_valid}
use Rattle.world_theory.proofs.Order.{behind, behind_pulled, behind_handed, replicated}
use Rattle.world_theory.proofs.Lined.{at_each}

-- ---- released by a journal

abbrev pub IsReleased : Settings → Journal → Arrival → Type 0
IsReleased s J a = Took J a (λ ids before. fate s J before false ids ≡ is_released)

-- a member is released just where its episode is decided so
decided_of_member : (b : Bool) (d : Option Verdict) → fate_of_member_decided b d ≡ is_released → d ≡ Some Sampled
decided_of_member b (Some Sampled) e = refl
decided_of_member b (Some NotSampled) e = absurd (cc e)
decided_of_member true None e = absurd (cc e)
decided_of_member false None e = absurd (cc e)

inside : (v : Verdict) → Some v ≡ Some Sampled → v ≡ Sampled
inside v e = cc e

decided_member : (b : Bool) (d : Option Verdict) → d ≡ Some Sampled → fate_of_member_decided b d ≡ is_released
decided_member b None e = absurd (cc e)
decided_member true (Some v) e = ap (λ (v : Verdict). fate_of_verdict DecidedAgainst v) (inside v e)
decided_member false (Some v) e = ap (λ (v : Verdict). fate_of_verdict DecidedAgainst v) (inside v e)

pub fate_stays : (s : Settings) → HasRoom s.num_traces → (J : Journal) (e : Entry) (own : ℕ) (f : Finding) → fate_of_finding s (notes s J) own f ≡ is_released → fate_of_finding s (notes s (e ∷ J)) own f ≡ is_released
fate_stays s room J e own (meets o v) h = h
fate_stays s room J e own (joins o) h = decided_member _ (decided_as (notes s (e ∷ J)) o.at) (decided_stays s room J e o.at Sampled (decided_of_member _ (decided_as (notes s J) o.at) h))
fate_stays s room J e own opens h = decided_member _ (decided_as (notes s (e ∷ J)) own) (decided_stays s room J e own Sampled (decided_of_member _ (decided_as (notes s J) own) h))

pub released_later : (s : Settings) → HasRoom s.num_traces → (J : Journal) (e : Entry) (a : Arrival) → IsReleased s J a → IsReleased s (e ∷ J) a
released_later s room J e a h = record {
  ids = h.ids;
  valid = h.valid;
  lost = h.lost;
  given = h.given;
  later = e ∷ h.later;
  before = h.before;
  split = ap (λ (z : Journal). e ∷ z) h.split;
  holds = fate_stays s room J e (length h.before) (finding s (notes s h.before) h.ids.trace) h.holds;
}

-- answers to the next decision take nothing back
pub released_answered : (s : Settings) → HasRoom s.num_traces → (J : Journal) (k : ℕ) (answers : List Bool) (o : Opening) → slice_get (due_now s J) k ≡ Some o → IsAnsweredUpTo s J k → (a : Arrival) → IsReleased s J a → IsReleased s (answered J answers) a
released_answered s room J k answers o d i a h =
    let p = split_answered J answers h.later h.before a false h.lost h.given h.split in
    record { ids = h.ids; valid = h.valid; lost = h.lost; given = p.1; later = p.0; before = h.before; split = p.2; holds = fate_answered s room J k answers o d i h.before false h.ids is_released (inl refl) h.holds }

-- a member of an episode that is decided for is released
released_member : (s : Settings) (J : Journal) (o : Opening) (a : Arrival) → Joined s J o a → decided_as (notes s J) o.at ≡ Some Sampled → IsReleased s J a
released_member s J o a h d = record { ids = h.ids; valid = h.valid; lost = h.lost; given = h.given; later = h.later; before = h.before; split = h.split; holds = go h.holds }
  where
    go : (finding s (notes s h.before) h.ids.trace ≡ joins o) ⊎ ((finding s (notes s h.before) h.ids.trace ≡ opens) × (length h.before ≡ o.at)) → fate s J h.before false h.ids ≡ is_released
    go (inl f) = ap (fate_of_finding s (notes s J) (length h.before)) f ∙ decided_member _ (decided_as (notes s J) o.at) d
    go (inr p) = ap (fate_of_finding s (notes s J) (length h.before)) p.0 ∙ decided_member _ (decided_as (notes s J) (length h.before)) (ap (decided_as (notes s J)) p.1 ∙ d)

-- the spans of a due episode joined it
pub joined_due : (s : Settings) → HasRoom s.num_traces → (J : Journal) (dealt : ℕ) (d : Decision) → slice_get (decisions_now s J) dealt ≡ Some d → Each (Joined s J d.opening) d.spans
joined_due s room [] dealt d is = absurd (cc is)
joined_due s room (e ∷ J) dealt d is =
    let noted = after_item s e J e.item (notes s J) in
    let h = sound_item s room J e.item e (notes s J) (sound_notes s room J) in
    let t = in_turn s (e ∷ J) (due_at s e J e.item noted) e.answers dealt d (Pairs-due IsEarlier s e J e.item noted (undecided_ascend s (e ∷ J) noted h)) is in
    let Stands = λ (o : Opening). Split o (in_buffer s noted) × (is_open noted o ≡ true) in
    let p = Each-split Stands d.opening (due_at s e J e.item noted) t.within (Each-due Stands s e J e.item noted (undecided_stand s noted)) in
    let joined = by_item s room J (all_joined s room J) e.item e.refused e.lost e.answers in
    subst (λ z. Each (Joined s (e ∷ J) d.opening) z) (sym t.spans) (Each-split (AreJoined s (e ∷ J) noted) d.opening (in_buffer s noted) p.0 joined p.1)

pub released_by_decision : (s : Settings) → HasRoom s.num_traces → (J : Journal) (dealt : ℕ) (d : Decision) → slice_get (decisions_now s J) dealt ≡ Some d → Each (IsReleased s J) (effect_of_decision d).released
released_by_decision s room J dealt d is = go d.verdict refl
  where
    go : (v : Verdict) → d.verdict ≡ v → Each (IsReleased s J) (effect_of_verdict DecidedAgainst d.spans v).released
    go NotSampled e = tt
    go Sampled e = Each-weaker (Joined s J d.opening) (IsReleased s J) d.spans (λ a h. released_member s J d.opening a h (noted_decision s room J dealt d is ∙ ap (λ (v : Verdict). Some v) e)) (joined_due s room J dealt d is)

-- a late span is released at once
pub released_at_once : (s : Settings) → HasRoom s.num_traces → (J : Journal) (a : Arrival) (refused lost : Bool) (ids : Ids) → a.rec.span.ids ≡ Some ids → Each (IsReleased s (record { item = Span a; refused = refused; lost = lost; answers = [] } ∷ J)) (effect_of_span s J refused a a.rec.span.ids).released
released_at_once s room J a refused lost ids has = subst (λ (z : Option Ids). Each (IsReleased s (record { item = Span a; refused = refused; lost = lost; answers = [] } ∷ J)) (effect_of_span s J refused a z).released) (sym has) (go refused)
  where
    late_one : (o : Opening) (v : Verdict) → finding s (notes s J) ids.trace ≡ meets o v → Each (IsReleased s (record { item = Span a; refused = false; lost = lost; answers = [] } ∷ J)) (effect_of_verdict LateNotSampled (a ∷ []) v).released
    late_one o NotSampled f = tt
    late_one o Sampled f = (record { ids = ids; valid = has; lost = lost; given = []; later = []; before = J; split = refl; holds = ap (fate_of_finding s (notes s (record { item = Span a; refused = false; lost = lost; answers = [] } ∷ J)) (length J)) f }, tt)

    by_finding : (f : Finding) → finding s (notes s J) ids.trace ≡ f → Each (IsReleased s (record { item = Span a; refused = false; lost = lost; answers = [] } ∷ J)) (effect_of_finding s J (notes s J) a f).released
    by_finding (joins o) e = tt
    by_finding (meets o v) e = late_one o v e
    by_finding opens e = subst (λ z. Each (IsReleased s (record { item = Span a; refused = false; lost = lost; answers = [] } ∷ J)) z) (sym (gone_released s room J (notes s J) (sound_notes s room J) a ids has lost [] (leaving s.num_traces (notes s J).openings))) tt

    go : (refused : Bool) → Each (IsReleased s (record { item = Span a; refused = refused; lost = lost; answers = [] } ∷ J)) (effect_of_span s J refused a (Some ids)).released
    go true = tt
    go false = by_finding (finding s (notes s J) ids.trace) refl

-- ---- in the world

pub record HasReleased (s : Settings) (shards : List CoreShard) (a : Arrival) : Type 0 where
  pub shard : ℕ
  pub sh : CoreShard
  pub at : slice_get shards shard ≡ Some sh
  pub released : IsReleased s sh.journal a

pub record Releasing (s : Settings) (shards : List CoreShard) (past : List Arrival) : Type 0 where
  pub sent : (i : ℕ) (sh : CoreShard) → slice_get shards i ≡ Some sh → Each (IsReleased s sh.journal) sh.unshipped
  pub gone : Each (HasReleased s shards) past

pub get_set : {X : Type 0} (xs : List X) (i : ℕ) (x y : X) → slice_get xs i ≡ Some x → slice_get (slice_set xs i y) i ≡ Some y
get_set [] i x y e = absurd (cc e)
get_set (z ∷ xs) zero x y e = refl
get_set (z ∷ xs) (suc i) x y e = get_set xs i x y e

pub get_set_other : {X : Type 0} (xs : List X) (i j : ℕ) (y : X) → (j ≡ i → ⊥) → slice_get (slice_set xs i y) j ≡ slice_get xs j
get_set_other [] i j y d = refl
get_set_other (x ∷ xs) zero zero y d = absurd (d refl)
get_set_other (x ∷ xs) zero (suc j) y d = refl
get_set_other (x ∷ xs) (suc i) zero y d = refl
get_set_other (x ∷ xs) (suc i) (suc j) y d = get_set_other xs i j y (λ q. d (ap suc q))

module _ (s : Settings) (shards : List CoreShard) (past : List Arrival) (h : Releasing s shards past) where
  pub shard_grows : (i : ℕ) (sh sh' : CoreShard) → slice_get shards i ≡ Some sh → ((a : Arrival) → IsReleased s sh.journal a → IsReleased s sh'.journal a) → Each (IsReleased s sh'.journal) sh'.unshipped → Releasing s (slice_set shards i sh') past
  shard_grows i sh sh' g f k = record {
    sent = at_each (λ i sh. Each (IsReleased s sh.journal) sh.unshipped) shards i sh' k h.sent;
    gone = Each-weaker (HasReleased s shards) (HasReleased s (slice_set shards i sh')) past (λ a r. go a r (cases_eq r.shard i)) h.gone;
  }
    where
      go : (a : Arrival) (r : HasReleased s shards a) → (r.shard ≡ i) ⊎ (r.shard ≡ i → ⊥) → HasReleased s (slice_set shards i sh') a
      go a r (inl e) =
          let q : Some r.sh ≡ Some sh = sym r.at ∙ ap (slice_get shards) e ∙ g in
          let j : r.sh ≡ sh = cc q in
          record { shard = i; sh = sh'; at = get_set shards i sh sh' g; released = f a (subst (λ (sh : CoreShard). IsReleased s sh.journal a) j r.released) }
      go a r (inr d) = record { shard = r.shard; sh = r.sh; at = get_set_other shards i r.shard sh' d ∙ r.at; released = r.released }

  pub goes_past : (i : ℕ) (sh sh' : CoreShard) (a : Arrival) (past' : List Arrival) → slice_get shards i ≡ Some sh → sh'.journal ≡ sh.journal → sh.unshipped ≡ a ∷ sh'.unshipped → past' ≡ past ++ a ∷ [] → Releasing s (slice_set shards i sh') past'
  goes_past i sh sh' a past' g j u e =
      let k = subst (λ z. Each (IsReleased s sh.journal) z) u (h.sent i sh g) in
      let m = shard_grows i sh sh' g (λ b r. subst (λ (z : Journal). IsReleased s z b) (sym j) r) (subst (λ (z : Journal). Each (IsReleased s z) sh'.unshipped) (sym j) k.1) in
      record {
        sent = m.sent;
        gone = subst (λ z. Each (HasReleased s (slice_set shards i sh')) z) (sym e) (Each-append (HasReleased s (slice_set shards i sh')) past (a ∷ []) m.gone
            (record { shard = i; sh = sh'; at = get_set shards i sh sh' g; released = subst (λ (z : Journal). IsReleased s z a) (sym j) k.0 }, tt));
      }

  pub goes_back : (past' : List Arrival) → ((P : Arrival → Type 0) → Each P past → Each P past') → Releasing s shards past'
  goes_back past' f = record { sent = h.sent; gone = f (HasReleased s shards) h.gone }

abbrev pub ReleasingAt : CoreConfig → World → Type 0
ReleasingAt c w = Releasing (settings c w) w.shards (behind w)

pub releasing_new : (c : CoreConfig) → HasRoom c.shard.num_traces → (lanes shards : ℕ) → ReleasingAt c (new_world lanes shards)
releasing_new c room lanes shards = record { sent = λ i sh e. subst (λ (sh : CoreShard). Each (IsReleased (settings c (new_world lanes shards)) sh.journal) sh.unshipped) (replicated shards i new_shard sh e) tt; gone = tt }

module _ (c : CoreConfig) (room : HasRoom c.shard.num_traces) (w : World) (h : ReleasingAt c w) where
  abbrev s : Settings
  s = settings c w

  more_sent : (sh : CoreShard) (e : Entry) (more : List Arrival) → Each (IsReleased s sh.journal) sh.unshipped → Each (IsReleased s (e ∷ sh.journal)) more → Each (IsReleased s (e ∷ sh.journal)) (sh.unshipped ++ more)
  more_sent sh e more k m = Each-append (IsReleased s (e ∷ sh.journal)) sh.unshipped more (Each-weaker (IsReleased s sh.journal) (IsReleased s (e ∷ sh.journal)) sh.unshipped (λ a r. released_later s room sh.journal e a r) k) m

  stays : (behind' : List Arrival) → behind w ≡ behind' → Releasing s w.shards behind'
  stays behind' e = goes_back s w.shards (behind w) h behind' (λ P p. subst (λ z. Each P z) e p)

  releasing : (next : World) → Stepped c w next → Releasing s next.shards (behind next)
  releasing next (received_by lane ordinal moment records l g p e) = subst (λ (next : World). Releasing s next.shards (behind next)) e h
  releasing next (routed lane shard l sh a rest gl gs t e) = subst (λ (next : World). Releasing s next.shards (behind next)) e (shard_grows s w.shards (behind w) h shard sh (record sh { queue = sh.queue ++ a ∷ [] }) gs (λ a r. r) (h.sent shard sh gs))
  releasing next (refused_by lane shard l a rest gl t e) = subst (λ (next : World). Releasing s next.shards (behind next)) e h
  releasing next (took_span shard refused lost sh a rest g q d m e) = subst (λ (next : World). Releasing s next.shards (behind next)) e (
      let v = has_valid a.key c room w sh.journal refused lost a.rec.span.ids m in
      let entry : Entry = record { item = Span a; refused = refused; lost = lost; answers = [] } in
      let did : Effect = effect_of_span s sh.journal refused a a.rec.span.ids in
      shard_grows s w.shards (behind w) h shard sh (record { queue = rest; journal = record { item = Span a; refused = refused; lost = lost; answers = [] } ∷ sh.journal; dealt = 0; unshipped = sh.unshipped ++ did.released }) g
      (λ b r. released_later s room sh.journal (record { item = Span a; refused = refused; lost = lost; answers = [] }) b r)
      (more_sent sh (record { item = Span a; refused = refused; lost = lost; answers = [] }) did.released (h.sent shard sh g) (released_at_once s room sh.journal a refused lost v.0 v.1)))
  releasing next (took_tick shard moment sh g d m e) = subst (λ (next : World). Releasing s next.shards (behind next)) e (
      shard_grows s w.shards (behind w) h shard sh (record { queue = sh.queue; journal = record { item = Tick moment; refused = false; lost = false; answers = [] } ∷ sh.journal; dealt = 0; unshipped = sh.unshipped ++ [] }) g
      (λ b r. released_later s room sh.journal (record { item = Tick moment; refused = false; lost = false; answers = [] }) b r) (more_sent sh (record { item = Tick moment; refused = false; lost = false; answers = [] }) [] (h.sent shard sh g) tt))
  releasing next (closed_by lane l g p e) = subst (λ (next : World). Releasing s next.shards (behind next)) e h
  releasing next (took_end shard sender sh g d m p e) = subst (λ (next : World). Releasing s next.shards (behind next)) e (
      shard_grows s w.shards (behind w) h shard sh (record { queue = sh.queue; journal = record { item = End sender; refused = false; lost = false; answers = [] } ∷ sh.journal; dealt = 0; unshipped = sh.unshipped ++ [] }) g
      (λ b r. released_later s room sh.journal (record { item = End sender; refused = false; lost = false; answers = [] }) b r) (more_sent sh (record { item = End sender; refused = false; lost = false; answers = [] }) [] (h.sent shard sh g) tt))
  releasing next (answered_by shard sh answers o g d i e) = subst (λ (next : World). Releasing s next.shards (behind next)) e (
      shard_grows s w.shards (behind w) h shard sh (record sh { journal = answered sh.journal answers }) g (λ a r. released_answered s room sh.journal sh.dealt answers o d i a r)
      (Each-weaker (IsReleased s sh.journal) (IsReleased s (answered sh.journal answers)) sh.unshipped (λ a r. released_answered s room sh.journal sh.dealt answers o d i a r) (h.sent shard sh g)))
  releasing next (decided_one shard sh d g i e) = subst (λ (next : World). Releasing s next.shards (behind next)) e (
      shard_grows s w.shards (behind w) h shard sh (record sh { dealt = sh.dealt + 1; unshipped = sh.unshipped ++ (effect_of_decision d).released }) g (λ b r. r)
      (Each-append (IsReleased s sh.journal) sh.unshipped (effect_of_decision d).released (h.sent shard sh g) (released_by_decision s room sh.journal sh.dealt d i)))
  releasing next (shipped shard sh a rest g u e) = subst (λ (next : World). Releasing s next.shards (behind next)) e (
      goes_past s w.shards (behind w) h shard sh (record sh { unshipped = rest }) a _ g refl u (simp append_assoc))
  releasing next (pulled a rest u e) = subst (λ (next : World). Releasing s next.shards (behind next)) e (stays _ (behind_pulled w a rest u))
  releasing next (handed_over b d e) = subst (λ (next : World). Releasing s next.shards (behind next)) e (stays _ (behind_handed w))
  releasing next (failed d e) = subst (λ (next : World). Releasing s next.shards (behind next)) e h
  releasing next (batch_dropped r b a e) = subst (λ (next : World). Releasing s next.shards (behind next)) e (goes_back s w.shards (behind w) h (flat_map (λ (b : List Arrival). b) w.handed ++ ([] ++ w.exported))
      (λ P p. Each-append P (flat_map (λ (b : List Arrival). b) w.handed) w.exported (Each-left P (flat_map (λ (b : List Arrival). b) w.handed) (w.batch ++ w.exported) p) (Each-right P w.batch w.exported (Each-right P (flat_map (λ (b : List Arrival). b) w.handed) (w.batch ++ w.exported) p))))

pub releasing_step : (c : CoreConfig) → HasRoom c.shard.num_traces → (w next : World) → Stepped c w next → ReleasingAt c w → ReleasingAt c next
releasing_step c room w next st h = subst (λ (s : Settings). Releasing s next.shards (behind next)) (sym (same_settings c w next st)) (releasing c room w h next st)
