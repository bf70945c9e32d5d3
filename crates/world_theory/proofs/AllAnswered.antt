-- In every run each decision that was dealt with was given one answer for each asking; and a decision is taken in two
-- steps. For the laws of the headline, `headline` and each of its parts.
use Rattle.std.proofs.Common.{◌≡◌, ℕ, zero, suc, ◌+◌, Bool, true, false, List, [], ◌∷◌, ◌++◌, length, drop, nat_lt, replicate, slice_get, slice_set, Some, refl, ap, sym, subst, ◌∙◌, add-one}
use Rattle.policy_eval.specs.Given.{are_answered}
use Rattle.journal_theory.specs.Journal.{Settings, Journal, Opening, policies_for, decision, due_now, answered, spans_since, are_each_answered, IsAnswered, IsAnsweredUpTo}
use Rattle.journal_theory.specs.Fate.{effect_of_decision}
use Rattle.world_theory.specs.World.{CoreConfig, CoreShard, World, new_world, new_shard, settings, has_due}
use Rattle.world_theory.specs.Step.{after_decision}
use Rattle.journal_theory.proofs.Notes.{HasRoom}
use Rattle.journal_theory.proofs.Answering.{answered-next}
use Rattle.world_theory.proofs.Content.{take_whole, not_below}
use Rattle.world_theory.proofs.Answered.{next_there}
use Rattle.world_theory.proofs.Lined.{at_each}
use Rattle.world_theory.proofs.Balance.{same_settings}
use Rattle.world_theory.proofs.Steps.{Stepped, received_by, routed, refused_by, took_span, took_tick, closed_by, took_end, answered_by, decided_one, shipped, pulled, handed_over, failed, batch_dropped, is_plain}

get_set : {X : Type 0} (xs : List X) (i : ℕ) (x y : X) → slice_get xs i ≡ Some x → slice_get (slice_set xs i y) i ≡ Some y
get_set [] i x y e = absurd (cc e)
get_set (z ∷ xs) zero x y e = refl
get_set (z ∷ xs) (suc i) x y e = get_set xs i x y e

replicated : {X : Type 0} (n i : ℕ) (x y : X) → slice_get (replicate n x) i ≡ Some y → x ≡ y
replicated zero i x y e = absurd (cc e)
replicated (suc n) zero x y e = cc e
replicated (suc n) (suc i) x y e = replicated n i x y e

-- so of each shard
abbrev pub AllAnswered : Settings → List CoreShard → Type 0
AllAnswered s shards = (i : ℕ) (sh : CoreShard) → slice_get shards i ≡ Some sh → IsAnsweredUpTo s sh.journal sh.dealt

pub answered_new : (s : Settings) (lanes shards : ℕ) → AllAnswered s (new_world lanes shards).shards
answered_new s lanes shards i sh e = subst (λ (sh : CoreShard). IsAnsweredUpTo s sh.journal sh.dealt) (replicated shards i new_shard sh e) tt

-- where nothing is due, all is answered
pub all_given : (s : Settings) (J : Journal) (dealt : ℕ) → nat_lt dealt (length (due_now s J)) ≡ false → IsAnsweredUpTo s J dealt → IsAnswered s J
all_given s [] dealt n h = tt
all_given s (e ∷ J) dealt n h = (ap (λ (os : List Opening). are_each_answered s (e ∷ J) os e.answers) (sym (take_whole dealt (due_now s (e ∷ J)) (not_below dealt (length (due_now s (e ∷ J))) n))) ∙ h.0, h.1)

module _ (c : CoreConfig) (w : World) (h : AllAnswered (settings c w) w.shards) where
  abbrev s : Settings
  s = settings c w

  put : (i : ℕ) (sh' : CoreShard) → IsAnsweredUpTo s sh'.journal sh'.dealt → AllAnswered s (slice_set w.shards i sh')
  put i sh' k = at_each (λ i (sh : CoreShard). IsAnsweredUpTo s sh.journal sh.dealt) w.shards i sh' k h

  given : (shard : ℕ) (sh : CoreShard) → slice_get w.shards shard ≡ Some sh → has_due s sh ≡ false → IsAnswered s sh.journal
  given shard sh g n = all_given s sh.journal sh.dealt n (h shard sh g)

  plainly : (next : World) (st : Stepped c w next) → is_plain st ≡ true → AllAnswered s next.shards
  plainly next (received_by lane ordinal moment records l g n e) p = subst (λ (next : World). AllAnswered s next.shards) e h
  plainly next (routed lane shard l sh a rest g m t e) p = subst (λ (next : World). AllAnswered s next.shards) e (put shard (record sh { queue = sh.queue ++ a ∷ [] }) (h shard sh m))
  plainly next (refused_by lane shard l a rest g t e) p = subst (λ (next : World). AllAnswered s next.shards) e h
  plainly next (took_span shard refused lost sh a rest g q n m e) p = subst (λ (next : World). AllAnswered s next.shards) e (put shard _ (refl, given shard sh g n))
  plainly next (took_tick shard moment sh g n m e) p = subst (λ (next : World). AllAnswered s next.shards) e (put shard _ (refl, given shard sh g n))
  plainly next (closed_by lane l g n e) p = subst (λ (next : World). AllAnswered s next.shards) e h
  plainly next (took_end shard sender sh g n m d e) p = subst (λ (next : World). AllAnswered s next.shards) e (put shard _ (refl, given shard sh g n))
  plainly next (answered_by shard sh answers o g d i e) p = absurd (cc p)
  plainly next (decided_one shard sh d g i e) p = absurd (cc p)
  plainly next (shipped shard sh a rest g u e) p = subst (λ (next : World). AllAnswered s next.shards) e (put shard _ (h shard sh g))
  plainly next (pulled a rest u e) p = subst (λ (next : World). AllAnswered s next.shards) e h
  plainly next (handed_over b d e) p = subst (λ (next : World). AllAnswered s next.shards) e h
  plainly next (failed d e) p = subst (λ (next : World). AllAnswered s next.shards) e h
  plainly next (batch_dropped r b a e) p = subst (λ (next : World). AllAnswered s next.shards) e h

pub answered_plainly : (c : CoreConfig) (w next : World) (st : Stepped c w next) → is_plain st ≡ true → AllAnswered (settings c w) w.shards → AllAnswered (settings c next) next.shards
answered_plainly c w next st p h = subst (λ (s : Settings). AllAnswered s next.shards) (sym (same_settings c w next st)) (plainly c w h next st p)

-- ---- a decision

drop_there : (xs : List Opening) (k : ℕ) (o : Opening) → slice_get xs k ≡ Some o → drop k xs ≡ o ∷ drop (suc k) xs
drop_there [] k o e = absurd (cc e)
drop_there (x ∷ xs) zero o e = let same : x ≡ o = cc e in ap (λ (y : Opening). y ∷ xs) same
drop_there (x ∷ xs) (suc k) o e = drop_there xs k o e

set_twice : {X : Type 0} (xs : List X) (i : ℕ) (x y : X) → slice_set (slice_set xs i x) i y ≡ slice_set xs i y
set_twice [] i x y = refl
set_twice (z ∷ xs) zero x y = refl
set_twice {X} (z ∷ xs) (suc i) x y = ap (λ (ys : List X). z ∷ ys) (set_twice xs i x y)

module _ (c : CoreConfig) (room : HasRoom c.shard.num_traces) (w next : World) (shard : ℕ) (sh : CoreShard) (answers : List Bool) (o : Opening) (g : slice_get w.shards shard ≡ Some sh)
    (due : slice_get (due_now (settings c w) sh.journal) sh.dealt ≡ Some o) (fits : are_answered (policies_for (settings c w) (spans_since sh.journal o)) answers (spans_since sh.journal o) ≡ true)
    (e : after_decision w shard sh answers (effect_of_decision (decision (settings c w) sh.journal o answers)) ≡ next) (h : AllAnswered (settings c w) w.shards) where
  abbrev there : CoreShard
  there = record sh { journal = answered sh.journal answers }

  -- the world where the answers stand in the journal
  abbrev pub between : World
  between = record w { shards = slice_set w.shards shard there }

  pub first : Stepped c w between
  first = answered_by shard sh answers o g due (h shard sh g) refl

  pub second : Stepped c between next
  second =
      let d = decision (settings c w) sh.journal o answers in
      let did = effect_of_decision d in
      decided_one shard there d (get_set w.shards shard sh there g) (next_there (settings c w) room sh.journal sh.dealt answers o due (h shard sh g))
      (ap (λ (shards : List CoreShard). record w { shards = shards; counted = w.counted ++ did.counted }) (set_twice w.shards shard there (record there { dealt = sh.dealt + 1; unshipped = sh.unshipped ++ did.released })) ∙ e)

  pub answered_decided : AllAnswered (settings c next) next.shards
  answered_decided =
      let s = settings c w in
      let P = λ (next : World). AllAnswered (settings c next) next.shards in
      let k = answered-next s sh.journal sh.dealt answers o _ (drop_there (due_now s sh.journal) sh.dealt o due) (h shard sh g) fits in
      let did = effect_of_decision (decision s sh.journal o answers) in
      let sh' : CoreShard = record sh { journal = answered sh.journal answers; dealt = sh.dealt + 1; unshipped = sh.unshipped ++ did.released } in
      subst P e (at_each (λ i (sh : CoreShard). IsAnsweredUpTo s sh.journal sh.dealt) w.shards shard sh' (subst (λ (n : ℕ). IsAnsweredUpTo s (answered sh.journal answers) n) (sym (add-one sh.dealt)) k) h)
