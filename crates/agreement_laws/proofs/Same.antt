-- A run of threads and a script whose one shard took the same do the same.
-- For the law `serve_is_replay`.
use Rattle.std.proofs.Common.{◌≡◌, ℕ, ◌+◌, List, [], ◌∷◌, length, sym, ap, subst, ◌∙◌, arith}
use Rattle.std.specs.List.{sum_by}
use Rattle.std.proofs.lemmas.List.Sums.{sum_by-cons}
use Rattle.journal_theory.specs.Journal.{Settings, Journal, IsAnswered, notes}
use Rattle.journal_theory.specs.Fate.{output, under, effect}
use Rattle.world_theory.specs.World.{settings_for}
use Rattle.span_weave.specs.Threads.{pulls, journal_of}
use Rattle.script_run.specs.Counts.{dropped_by_journal}
use Rattle.agreement_laws.specs.Same.{ServeIsReplay, ItemsDecide, pulled_spans, sent_spans}
use Rattle.agreement_laws.proofs.Items.{same_journal}
use Rattle.agreement_laws.proofs.Pulled.{of_one, all_handed}
use Rattle.agreement_laws.proofs.Sent.{all_were_handed, script_sends}

one_journal : (js : List Journal) (j k : Journal) → js ≡ j ∷ [] → js ≡ k ∷ [] → j ≡ k
one_journal js j k e f = let both : j ∷ [] ≡ k ∷ [] = sym e ∙ f in cc both

pub serve_is_replay : ServeIsReplay
serve_is_replay c lanes t end meets s sizes script_lanes first played w plays same =
    let sent = script_sends s sizes script_lanes first played w plays in
    let own : journal_of t 0 ≡ sent.0 = one_journal w.journals (journal_of t 0) sent.0 same.journals sent.1 in
    let pulled_is : pulled_spans t ≡ output (settings_for c (lanes + 1)) (journal_of t 0) = sym (of_one (pulls t.acts) meets.of_shards) ∙ meets.shipped 0 (omega arith) in
    let released : pulled_spans t ≡ sent_spans w.events = pulled_is ∙ (ap (λ (z : Settings). output z (journal_of t 0)) same.settings ∙ (ap (output s) own ∙ sym sent.2)) in
    record {
      decided = λ past e. ap (λ (z : Settings). (notes z (journal_of t 0)).decisions) same.settings ∙ ap (λ (j : Journal). (notes s j).decisions) (one_journal w.journals (journal_of t 0) past same.journals e);
      released = released;
      counted = λ reason.
          ap (λ (z : Settings). length (under reason (effect z (journal_of t 0)).counted)) same.settings
          ∙ (sym (one (dropped_by_journal s reason) (journal_of t 0)) ∙ sym (ap (λ (js : List Journal). sum_by (dropped_by_journal s reason) js) same.journals));
      handed = λ none all. all_handed c t.acts end meets.exports meets.flushed none ∙ (released ∙ sym (all_were_handed w.events all));
    }
  where
    one : (f : Journal → ℕ) (j : Journal) → sum_by f (j ∷ []) ≡ f j
    one f j = omega (arith, sum_by-cons f j [])

pub items_decide : ItemsDecide
items_decide c lanes t end meets s sizes script_lanes first played w plays none same =
    let sent = script_sends s sizes script_lanes first played w plays in
    let past_is : sent.0 ≡ same.past = one_journal w.journals sent.0 same.past sent.1 same.journals in
    let of_script : IsAnswered s same.past = subst (IsAnswered s) past_is sent.3 in
    let of_threads : IsAnswered s (journal_of t 0) = subst (λ (z : Settings). IsAnswered z (journal_of t 0)) same.settings (meets.answered 0 (omega arith)) in
    let journal : same.past ≡ journal_of t 0 = same_journal s none same.past (journal_of t 0) of_script of_threads same.items in
    serve_is_replay c lanes t end meets s sizes script_lanes first played w plays (record { settings = same.settings; journals = same.journals ∙ ap (λ (j : Journal). j ∷ []) journal })
