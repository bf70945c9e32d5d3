-- Worked rows, computed: what there is to tell of a journal's items and decisions, and with which places spans are
-- shipped. No two values are the same.
-- They serve the definitions that `work` promises.
use Rattle.std.specs.Prelude.{ℕ, Bool, false, pos, List, [], ◌∷◌, Some, None, ◌≡◌, refl}
use Rattle.otlp_types.proofs.Samples.{plain_record}
use Rattle.otlp_types.specs.declared.arrival.Arrival.{Arrival}
use Rattle.otlp_types.specs.declared.arrival.Item.{Item}
use Rattle.otlp_types.specs.declared.arrival.Item.TheVariants.{Span, Tick, End}
use Rattle.span_ids.specs.declared.outcome.Verdict.TheVariants.{Sampled, NotSampled}
use Rattle.decision_line.specs.declared.decision.DueCause.TheVariants.{Wait, Close}
use Rattle.decision_line.specs.declared.decision.Said.TheVariants.{Sampled as SaidSampled, NotSampled as SaidNotSampled}
use Rattle.policy_tree.specs.Tree.{Policies, no_more, one_more, leaf}
use Rattle.policy_tree.specs.declared.policy.Leaf.TheVariants.{AlwaysSample, StatusCode}
use Rattle.released_spans.specs.declared.shipment.Shipment.TheVariants.{Span as Shipped}
use Rattle.journal_theory.specs.Journal.{Entry, Settings, Journal, notes}
use Rattle.journal_theory.proofs.Samples.{plain_settings}
use Rattle.shard_worker.specs.News.{decided, evicted, late, news}
use Rattle.shard_worker.specs.Shipped.{recorded, shipped_in}

abbrev took : Item → List (List Bool) → Entry
took item answers = record { item = item; refused = false; lost = false; answers = answers }

-- a root of this trace
abbrev root : (trace number moment : ℕ) → Arrival
root t n m = record { key = record { conn = record { lane = 0; ordinal = 0 }; number = n }; moment = m; rec = plain_record (Some (record { trace = t ∷ []; span = n ∷ []; parent = None })) 0 0 0 }

abbrev span : (trace number moment : ℕ) → Entry
span t n m = took (Span (root t n m)) []

-- a policy that wants an error, and behind it one that may sample all
abbrev settings_with : Policies → Settings
settings_with behind = record (plain_settings (one_more (leaf (StatusCode (pos 2 ∷ []))) behind)) { num_traces = Some 1 }

-- a trace leaves undecided, another is decided by the second policy, and a span of it comes late
abbrev journal : Journal
journal = span 8 5 99 ∷ took (Tick 41) ([] ∷ []) ∷ span 8 4 30 ∷ span 8 3 29 ∷ span 8 2 27 ∷ span 7 1 23 ∷ span 7 0 20 ∷ []

told : news (settings_with (one_more (leaf AlwaysSample) no_more)) journal
    ≡ evicted (record { trace = 7 ∷ []; moment = 27; spans = 2 })
    ∷ decided (record { trace = 8 ∷ []; moment = 41; opened = 27; spans = 3; verdict = Sampled; cause = Wait; decider = Some 1 }) (SaidNotSampled ∷ SaidSampled ∷ [])
    ∷ late (record { trace = 8 ∷ []; moment = 99; verdict = Sampled; spans = 1 })
    ∷ []
unfolding notes
told = refl

places : shipped_in (settings_with (one_more (leaf AlwaysSample) no_more)) journal ≡ Shipped (root 8 2 27) (Some 1) ∷ Shipped (root 8 3 29) (Some 1) ∷ Shipped (root 8 4 30) (Some 1) ∷ Shipped (root 8 5 99) None ∷ []
unfolding notes
places = refl

last_place : recorded (Some 65535) ∷ recorded (Some 65536) ∷ [] ≡ Some 65535 ∷ None ∷ []
last_place = refl

-- at the end no policy samples; before it a tick came too early
told_at_close : news (settings_with no_more) (took (End 1) ([] ∷ []) ∷ took (End 0) [] ∷ took (Tick 31) [] ∷ span 8 2 27 ∷ [])
    ≡ decided (record { trace = 8 ∷ []; moment = 31; opened = 27; spans = 1; verdict = NotSampled; cause = Close; decider = None }) (SaidNotSampled ∷ []) ∷ []
unfolding notes
told_at_close = refl
