-- Threads that break the promise `answered` alone, and that no run of the core does which ends closed: a decision has
-- too few answers, or too many. For the contract of `weave`: none of its premises can be left out.
use Rattle.std.proofs.Common.{◌≡◌, ℕ, Bool, true, false, List, [], ◌∷◌, Some, refl, ap, subst, ◌∙◌, arith}
use Rattle.policy_tree.specs.Tree.{no_more, one_more, rate_limiting}
use Rattle.otlp_types.specs.declared.arrival.Item.TheVariants.{Tick}
use Rattle.lane_queue.specs.Merges.{of}
use Rattle.journal_theory.specs.Journal.{IsAnswered, IsAnsweredUpTo, Settings, Entry, Journal, notes}
use Rattle.world_theory.specs.World.{CoreConfig, World, new_world, settings_for, settings}
use Rattle.world_theory.proofs.Samples.{configured}
use Rattle.world_theory.proofs.Balance.{same_settings}
use Rattle.world_theory.proofs.OnePlace.{run_keeps}
use Rattle.world_theory.proofs.AllAnswered.{answered_new}
use Rattle.span_weave.specs.Threads.{Threads, pushed, pulled, handed_over, journal_of, ExporterMade}
use Rattle.span_weave.specs.Woven.{Woven}
use Rattle.span_weave.proofs.Worlds.{entry_of}
use Rattle.span_weave.proofs.WrongThreads.{answer_for_each_asking, MeetsBut, one_shard, first, did, made, ends, taken, meets_but, one_numbered}

-- three spans of each second are let through
abbrev limited : CoreConfig
limited = configured (one_more (rate_limiting 3) no_more) (Some 1) 1 1

abbrev own : Settings
own = settings_for limited 2

-- in each run the decisions at the items before the last one were given one answer for each asking
answered_before : (t : Threads) (end : ExporterMade) (w : Woven limited 1 1 t end) (e : Entry) (before : Journal) → journal_of t 0 ≡ e ∷ before → IsAnswered own before
answered_before t end w e before is =
    let kept = run_keeps limited (λ (x : World). settings limited x ≡ own) (λ e. cc e) (λ x next stepped e. same_settings limited x next stepped ∙ e) w.steps (new_world 1 1) w.after refl (answered_new own 1 1) w.runs in
    let one = one_shard w.after (e ∷ before) (w.journals 0 (omega arith) ∙ ap Some is) in
    let up_to = subst (λ (s : Settings). IsAnsweredUpTo s one.shard.journal one.shard.dealt) kept.0 (kept.1 0 one.shard one.there) in
    let of_journal : IsAnsweredUpTo own (e ∷ before) one.shard.dealt = subst (λ (J : Journal). IsAnsweredUpTo own J one.shard.dealt) one.journal up_to in
    of_journal.1

-- the tick at which the one span is decided, with these answers to the decision
abbrev decided_by : List Bool → ℕ × Entry
decided_by answers = (1, entry_of (Tick 11) false false (answers ∷ []))

-- ---- no answer to the one asking

abbrev too_few : Threads
too_few = did (first ∷ []) (pushed first ∷ []) (11 ∷ []) (taken first ∷ decided_by [] ∷ ends) []

too_few_meets : MeetsBut answer_for_each_asking limited 1 1 too_few (made [])
unfolding notes
too_few_meets = meets_but answer_for_each_asking limited too_few (made []) one_numbered refl refl refl (omega arith, (omega arith, (omega arith, (omega arith, tt)))) (refl, (refl, (refl, (refl, tt)))) tt refl tt refl refl

pub too_few_is_no_run : Woven limited 1 1 too_few (made []) → ⊥
unfolding notes
too_few_is_no_run w =
    let q : false ≡ true = (answered_before too_few (made []) w _ _ refl).1.0 in
    cc q

-- ---- two answers to it

abbrev too_many : Threads
too_many = did (first ∷ []) (pushed first ∷ []) (11 ∷ []) (taken first ∷ decided_by (true ∷ true ∷ []) ∷ ends) (pulled 0 first ∷ handed_over ∷ [])

too_many_meets : MeetsBut answer_for_each_asking limited 1 1 too_many (made ((first ∷ []) ∷ []))
unfolding notes
too_many_meets = meets_but answer_for_each_asking limited too_many (made ((first ∷ []) ∷ [])) one_numbered refl refl refl (omega arith, (omega arith, (omega arith, (omega arith, tt)))) (refl, (refl, (refl, (refl, tt)))) tt refl (omega arith, tt) refl refl

pub too_many_is_no_run : Woven limited 1 1 too_many (made ((first ∷ []) ∷ [])) → ⊥
unfolding notes
too_many_is_no_run w =
    let q : false ≡ true = (answered_before too_many (made ((first ∷ []) ∷ [])) w _ _ refl).1.0 in
    cc q
