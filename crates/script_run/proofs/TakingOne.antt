-- One shard of the core takes an item, decides all that is due and ships all that it released.
-- For the contract of `scripts_are_runs_of_the_core`.
use Rattle.std.proofs.Common.{◌≡◌, ℕ, ◌+◌, Bool, true, false, cond, not, ◌&&◌, nat_lt, List, [], ◌∷◌, ◌++◌, length, slice_get, slice_set, Option, Some, None, option_map, option_and_then, refl, ap, sym, ◌∙◌, arith, append_assoc, append-nil}
use Rattle.std.proofs.lemmas.Bool.Decides.{nat_tests}
use Rattle.otlp_types.specs.declared.arrival.Arrival.{Arrival}
use Rattle.otlp_types.specs.declared.arrival.Item.TheVariants.{Span, Tick, End}
use Rattle.journal_theory.specs.Journal.{Settings, Entry, Journal, Opening, due_now, decision, decisions_now, policies_for, spans_since, has_ended}
use Rattle.policy_eval.specs.Given.{are_answered}
use Rattle.journal_theory.specs.Fate.{Effect, no_effect, ◌then◌, DroppedSpan, effect, effect_of_taking, effect_of_decision, effect_of_decisions}
use Rattle.journal_theory.specs.Marked.{marks_apply_to_ids}
use Rattle.world_theory.specs.World.{CoreConfig, CoreShard, World as Core, settings, ticker, has_due}
use Rattle.world_theory.specs.Step.{Step, step, take as take_step, tick, end, decide, ship, take_on, tick_on, end_on, decide_on, ship_on, sender_is_done, after_decision}
use Rattle.world_theory.proofs.DecidingInTurn.{mid_get, decides_all}
use Rattle.script_run.specs.World.{entry_of}
use Rattle.script_run.proofs.Answering.{given_to, AreGiven, next_effect}
use Rattle.script_run.proofs.Stands.{quiet_shard}
use Rattle.script_run.proofs.QuietRuns.{Leads, leads_same, leads_one, leads_then}

-- ---- lists, tests and effects

-- what stands behind a front is replaced
pub mid_set : {X : Type 0} (front : List X) (x y : X) (back : List X) → slice_set (front ++ x ∷ back) (length front) y ≡ front ++ y ∷ back
mid_set [] x y back = refl
mid_set {X} (z ∷ front) x y back = ap (λ (l : List X). z ∷ l) (mid_set front x y back)

-- where the first test fails and the second holds
passes : {X : Type 0} (a b : Bool) (x : X) → a ≡ false → b ≡ true → cond (not a && b) (Some x) None ≡ Some x
passes true b x e f = absurd (cc e)
passes false true x e f = refl
passes false false x e f = absurd (cc f)

-- where two tests fail
passes_none : {X : Type 0} (a b : Bool) (x : X) → a ≡ false → b ≡ false → cond (not a && not b) (Some x) None ≡ Some x
passes_none true b x e f = absurd (cc e)
passes_none false true x e f = absurd (cc f)
passes_none false false x e f = refl

-- where two tests fail and the third holds
passes_third : {X : Type 0} (a b d : Bool) (x : X) → a ≡ false → b ≡ false → d ≡ true → cond (not a && not b && d) (Some x) None ≡ Some x
passes_third true b d x e f g = absurd (cc e)
passes_third false true d x e f g = absurd (cc f)
passes_third false false true x e f g = refl
passes_third false false false x e f g = absurd (cc g)

-- no number is below itself
not_below_itself : (n : ℕ) → nat_lt n n ≡ false
not_below_itself n = grind (arith, nat_tests)

-- an effect by its parts
same_effect : (r q : List Arrival) (n m : List DroppedSpan) → r ≡ q → n ≡ m → (let a : Effect = record { released = r; counted = n } in a) ≡ record { released = q; counted = m }
same_effect r q n m e f = cc (e, f)

-- effects one after the other, however they are put together
pub then_assoc : (a b d : Effect) → (a then b) then d ≡ a then (b then d)
then_assoc a b d = same_effect _ _ _ _ (append_assoc a.released b.released d.released) (append_assoc a.counted b.counted d.counted)

-- an effect and then none
pub then_none : (a : Effect) → a then no_effect ≡ a
then_none a = same_effect _ _ _ _ (append-nil a.released) (append-nil a.counted)

-- what an entry does: taking it, and then the decisions at it
abbrev pub gain : Settings → Entry → Journal → Effect
gain s e J = effect_of_taking s e J then effect_of_decisions (decisions_now s (e ∷ J))

-- a journal's effect with one more entry
pub effect_more : (s : Settings) (e : Entry) (J : Journal) → effect s (e ∷ J) ≡ effect s J then gain s e J
effect_more s e J = then_assoc (effect s J) (effect_of_taking s e J) (effect_of_decisions (decisions_now s (e ∷ J)))

-- ---- one shard of many

module _ (c : CoreConfig) (k : Core) where
  -- the settings of each shard
  abbrev pub own : Settings
  own = settings c k

  -- the core where the shards, what they shipped and what is counted are these
  abbrev pub with_shards : List CoreShard → (exported : List Arrival) → (counted : List DroppedSpan) → Core
  with_shards shards exported counted = record k { shards = shards; exported = exported; counted = counted }

  -- a shard by its parts
  abbrev shard : (queue : List Arrival) → Journal → (dealt : ℕ) → (unshipped : List Arrival) → CoreShard
  shard queue J dealt unshipped = record { queue = queue; journal = J; dealt = dealt; unshipped = unshipped }

  module _ (front rest : List CoreShard) where
    -- the core with this shard among the others
    abbrev pub among : CoreShard → (exported : List Arrival) → (counted : List DroppedSpan) → Core
    among sh exported counted = with_shards (front ++ sh ∷ rest) exported counted

    -- the oldest episode that is due is decided by these answers
    decides_one : (q u X : List Arrival) (e : Entry) (J : Journal) (given : List (List Bool)) (n : ℕ) (C : List DroppedSpan) (o : Opening) (answers : List Bool) → slice_get (due_now own (e ∷ J)) n ≡ Some o
        → are_answered (policies_for own (spans_since (e ∷ J) o)) answers (spans_since (e ∷ J) o) ≡ true → (let d = decision own (e ∷ J) o answers in
        Leads c (among (shard q (given_to e given ∷ J) n u) X C) (among (shard q (given_to e (given ++ answers ∷ []) ∷ J) (n + 1) (u ++ (effect_of_decision d).released)) X (C ++ (effect_of_decision d).counted)))
    decides_one q u X e J given n C o answers due fits = leads_one c _ _ (decide (length front) answers) (ap (option_and_then (decide_on c w (length front) answers)) (mid_get front sh rest)
        ∙ (ap (option_map (after_decision w (length front) sh answers)) (next_effect own e J given n o answers due fits)
        ∙ ap (λ (z : List CoreShard). Some (with_shards z X (C ++ did.counted))) (mid_set front sh (shard q (given_to e (given ++ answers ∷ []) ∷ J) (n + 1) (u ++ did.released)) rest)))
      where
        sh : CoreShard
        sh = shard q (given_to e given ∷ J) n u

        w : Core
        w = among (shard q (given_to e given ∷ J) n u) X C

        did : Effect
        did = effect_of_decision (decision own (e ∷ J) o answers)

    -- the spans that were released go to the exporter in turn
    ships_all : (q u X : List Arrival) (J : Journal) (n : ℕ) (C : List DroppedSpan) → Leads c (among (shard q J n u) X C) (among (shard q J n []) (X ++ u) C)
    ships_all q [] X J n C = leads_same c _ _ (ap (λ (z : List Arrival). among (shard q J n []) z C) (sym (append-nil X)))
    ships_all q (a ∷ u) X J n C = leads_then c _ (among (shard q J n u) (X ++ a ∷ []) C) _ (leads_one c _ _ (ship (length front)) one)
        (leads_then c _ _ _ (ships_all q u (X ++ a ∷ []) J n C) (leads_same c _ _ (ap (λ (z : List Arrival). among (shard q J n []) z C) (append_assoc X (a ∷ []) u))))
      where
        w : Core
        w = among (shard q J n (a ∷ u)) X C

        one : option_and_then (λ (sh : CoreShard). ship_on w (length front) sh sh.unshipped) (slice_get (front ++ shard q J n (a ∷ u) ∷ rest) (length front)) ≡ Some (among (shard q J n u) (X ++ a ∷ []) C)
        one = ap (option_and_then (λ (sh : CoreShard). ship_on w (length front) sh sh.unshipped)) (mid_get front (shard q J n (a ∷ u)) rest)
            ∙ ap (λ (z : List CoreShard). Some (with_shards z (X ++ a ∷ []) C)) (mid_set front (shard q J n (a ∷ u)) (shard q J n u) rest)

    -- once an entry was taken, all that is due is decided and all that was released is shipped
    settles : (q X : List Arrival) (J : Journal) (e : Entry) (C : List DroppedSpan) → AreGiven own e J
        → Leads c (among (shard q (given_to e [] ∷ J) 0 (effect_of_taking own e J).released) X (C ++ (effect_of_taking own e J).counted))
        (among (quiet_shard own q (e ∷ J)) (X ++ (gain own e J).released) (C ++ (gain own e J).counted))
    settles q X J e C fits = leads_then c _ _ _ (decides_all own e J (λ given n u counted. among (shard q (given_to e given ∷ J) n u) X counted) (Leads c) (leads_same c) (leads_then c)
        (λ given n u counted o answers due is. decides_one q u X e J given n counted o answers due is) [] e.answers did.released (C ++ did.counted) [] (due_now own (e ∷ J)) refl fits)
        (leads_then c _ _ _ (leads_same c _ _ (ap (λ (z : List DroppedSpan). among (shard q (e ∷ J) (length (due_now own (e ∷ J))) (gain own e J).released) X z) (append_assoc C did.counted ds.counted)))
        (ships_all q (gain own e J).released X (e ∷ J) (length (due_now own (e ∷ J))) (C ++ (gain own e J).counted)))
      where
        did : Effect
        did = effect_of_taking own e J

        ds : Effect
        ds = effect_of_decisions (decisions_now own (e ∷ J))

    -- nothing is due in a quiet shard
    nothing_due : (q : List Arrival) (J : Journal) → has_due own (quiet_shard own q J) ≡ false
    nothing_due q J = not_below_itself (length (due_now own J))

    -- a quiet shard takes an entry, and is quiet again
    abbrev pub TakesQuietly : (before after : List Arrival) (J : Journal) (e : Entry) → Type 0
    TakesQuietly before after J e = (X : List Arrival) (C : List DroppedSpan)
        → Leads c (among (quiet_shard own before J) X C) (among (quiet_shard own after (e ∷ J)) (X ++ (gain own e J).released) (C ++ (gain own e J).counted))

    -- a step by which a quiet shard takes an entry leads to a quiet shard
    takes_by : (s : Step) (before after : List Arrival) (J : Journal) (e : Entry) (on : List Arrival → List DroppedSpan → CoreShard → Option Core) → AreGiven own e J
        → ((X : List Arrival) (C : List DroppedSpan) → step c (among (quiet_shard own before J) X C) s ≡ option_and_then (on X C) (slice_get (front ++ quiet_shard own before J ∷ rest) (length front)))
        → ((X : List Arrival) (C : List DroppedSpan) → on X C (quiet_shard own before J)
        ≡ Some (with_shards (slice_set (front ++ quiet_shard own before J ∷ rest) (length front) (shard after (given_to e [] ∷ J) 0 (effect_of_taking own e J).released)) X (C ++ (effect_of_taking own e J).counted)))
        → TakesQuietly before after J e
    takes_by s before after J e on fits steps takes X C = leads_then c _ _ _ (leads_one c _ _ s one) (settles after X J e C fits)
      where
        old : CoreShard
        old = quiet_shard own before J

        new : CoreShard
        new = shard after (given_to e [] ∷ J) 0 (effect_of_taking own e J).released

        one : step c (among old X C) s ≡ Some (among new X (C ++ (effect_of_taking own e J).counted))
        one = steps X C ∙ (ap (option_and_then (on X C)) (mid_get front old rest) ∙ (takes X C
            ∙ ap (λ (z : List CoreShard). Some (with_shards z X (C ++ (effect_of_taking own e J).counted))) (mid_set front old new rest)))

    -- a quiet shard takes the first span of its queue
    pub takes_span : (a : Arrival) (q : List Arrival) (J : Journal) (refused lost : Bool) (given : List (List Bool)) → marks_apply_to_ids own J refused lost a.rec.span.ids ≡ true
        → AreGiven own (given_to (entry_of (Span a) refused lost) given) J → TakesQuietly (a ∷ q) q J (given_to (entry_of (Span a) refused lost) given)
    takes_span a q J refused lost given marks fits = takes_by (take_step (length front) refused lost) (a ∷ q) q J (given_to (entry_of (Span a) refused lost) given)
        (λ X C sh. take_on c (among (quiet_shard own (a ∷ q) J) X C) (length front) refused lost sh sh.queue) fits (λ X C. refl)
        (λ X C. passes (has_due own (quiet_shard own (a ∷ q) J)) (marks_apply_to_ids own J refused lost a.rec.span.ids) _ (nothing_due (a ∷ q) J) marks)

    -- a quiet shard takes a tick
    pub takes_tick : (moment : ℕ) (q : List Arrival) (J : Journal) (given : List (List Bool)) → has_ended J (ticker k) ≡ false → AreGiven own (given_to (entry_of (Tick moment) false false) given) J
        → TakesQuietly q q J (given_to (entry_of (Tick moment) false false) given)
    takes_tick moment q J given runs fits = takes_by (tick (length front) moment) q q J (given_to (entry_of (Tick moment) false false) given)
        (λ X C. tick_on c (among (quiet_shard own q J) X C) (length front) moment) fits (λ X C. refl)
        (λ X C. passes_none (has_due own (quiet_shard own q J)) (has_ended J (ticker k)) _ (nothing_due q J) runs)

    -- a quiet shard takes an End
    pub takes_end : (sender : ℕ) (q : List Arrival) (J : Journal) (given : List (List Bool)) → has_ended J sender ≡ false → AreGiven own (given_to (entry_of (End sender) false false) given) J
        → ((X : List Arrival) (C : List DroppedSpan) → sender_is_done (among (quiet_shard own q J) X C) (length front) (quiet_shard own q J) sender (slice_get k.lanes sender) ≡ true)
        → TakesQuietly q q J (given_to (entry_of (End sender) false false) given)
    takes_end sender q J given runs fits done = takes_by (end (length front) sender) q q J (given_to (entry_of (End sender) false false) given)
        (λ X C. end_on c (among (quiet_shard own q J) X C) (length front) sender) fits (λ X C. refl)
        (λ X C. passes_third (has_due own (quiet_shard own q J)) (has_ended J sender) _ _ (nothing_due q J) runs (done X C))
