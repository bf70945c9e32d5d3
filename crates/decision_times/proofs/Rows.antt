-- Worked rows of when a trace is due, by computation.
-- No contract rests on it: it shows the definitions on worked cases.
use Rattle.std.proofs.Common.{arith}
use Rattle.std.specs.Prelude.{ℕ, false, List, [], ◌∷◌, map, length, Option, Some, None, ◌≡◌, refl}
use Rattle.otlp_types.proofs.Samples.{plain_record}
use Rattle.otlp_types.specs.declared.span.Ids.{Ids}
use Rattle.otlp_types.specs.declared.arrival.Item.{Item}
use Rattle.otlp_types.specs.declared.arrival.Item.TheVariants.{Span, Tick, End}
use Rattle.policy_tree.specs.Tree.{no_more, one_more, leaf}
use Rattle.policy_tree.specs.declared.policy.Leaf.TheVariants.{AlwaysSample}
use Rattle.journal_theory.specs.Journal.{Settings, Journal, Entry, Opening, clock, notes, due_now}
use Rattle.journal_theory.specs.Standing.{mark}
use Rattle.journal_theory.proofs.Samples.{plain_settings}
use Rattle.decision_times.specs.Times.{WasOpened, HasRoot, Cause, has_waited, root_has_waited, is_big, is_last, HasTime}
use Rattle.decision_times.proofs.Early.{has_root}
use Rattle.decision_times.proofs.Late.{root_past}

abbrev took : Item → Entry
took item = record { item = item; refused = false; lost = false; answers = [] }

-- a span of trace 7 at this moment: a root where it has no parent
abbrev span : (moment : ℕ) → (parent : Option (List ℕ)) → Entry
span moment parent =
    let ids : Ids = record { trace = 7 ∷ []; span = 9 ∷ []; parent = parent } in
    took (Span (record { key = record { conn = record { lane = 0; ordinal = 0 }; number = moment }; moment = moment; rec = plain_record (Some ids) 0 0 0 }))

-- a wait of 700 milliseconds, and of 90 from a root; one lane and the ticker
abbrev waits : Settings
waits = record (plain_settings (one_more (leaf AlwaysSample) no_more)) { decision_wait = 700; root_wait = 90 }

-- how many traces are due where this item follows
abbrev due_at : Journal → Item → ℕ
due_at before item = length (due_now waits (took item ∷ before))

-- without a root: 700 milliseconds after the first span, and no sooner; a later span puts nothing off
abbrev childless : Journal
childless = span 1500 (Some (3 ∷ [])) ∷ span 1000 (Some (3 ∷ [])) ∷ []

pub due_by_its_wait : map (λ m. due_at childless (Tick m)) (1000 ∷ 1699 ∷ 1700 ∷ 1701 ∷ []) ≡ 0 ∷ 0 ∷ 1 ∷ 1 ∷ []
unfolding notes
due_by_its_wait = refl

-- with a root at 1200: 90 milliseconds after that
abbrev rooted : Journal
rooted = span 1200 None ∷ span 1000 (Some (3 ∷ [])) ∷ []

pub due_by_its_root : map (λ m. due_at rooted (Tick m)) (1289 ∷ 1290 ∷ []) ≡ 0 ∷ 1 ∷ []
unfolding notes
due_by_its_root = refl

-- a span makes nothing due, however late it comes; nor does the End of one sender, but that of the last
pub due_at_the_close : due_at childless (Span (record { key = record { conn = record { lane = 0; ordinal = 0 }; number = 4 }; moment = 9000; rec = plain_record None 0 0 0 })) ∷ due_at childless (End 0) ∷ due_at (took (End 0) ∷ childless) (End 1) ∷ [] ≡ 0 ∷ 0 ∷ 1 ∷ []
unfolding notes
due_at_the_close = refl

-- the clock goes on with a span, and the mark stays at the last tick
pub mark_of_the_last_tick : clock (span 1600 None ∷ took (Tick 1300) ∷ childless) ∷ mark (span 1600 None ∷ took (Tick 1300) ∷ childless) ∷ [] ≡ 1600 ∷ 1500 ∷ []
mark_of_the_last_tick = refl

-- ---- the cause and the time of a trace, at its bounds

-- without a root wait
abbrev plain : Settings
plain = record waits { root_wait = 0 }

abbrev opening : Opening
opening = record { at = 0; trace = 7 ∷ []; moment = 1000 }

pub cause_at_its_wait : Cause plain (took (Tick 1700)) childless opening
cause_at_its_wait = has_waited 1700 refl (omega arith)

pub no_cause_before : Cause plain (took (Tick 1699)) childless opening → ⊥
no_cause_before (has_waited m is waited) = absurd (omega (arith, waited))
no_cause_before (root_has_waited m is on root) = absurd (omega (arith, on))
no_cause_before (is_big on big) = absurd (omega (arith, on))
no_cause_before (is_last running ended) = absurd (cc ended)

pub time_until_then : HasTime plain (took (Tick 1699) ∷ childless) opening
time_until_then = record { wait = omega arith; root_wait = λ on root. absurd (omega (arith, on)); size = λ on. absurd (omega (arith, on)); senders = refl }

pub time_is_over : HasTime plain (took (Tick 1700) ∷ childless) opening → ⊥
time_is_over h = let w = h.wait in absurd (omega (arith, w))

-- with all Ends a trace has no time, and the last End is a cause
pub no_time_at_the_close : HasTime plain (took (End 1) ∷ took (End 0) ∷ childless) opening → ⊥
no_time_at_the_close h = absurd (cc h.senders)

pub cause_at_the_close : Cause plain (took (End 1)) (took (End 0) ∷ childless) opening
cause_at_the_close = is_last refl refl

-- a root has waited from its own moment on, not from the opening's
pub root_at_its_wait : HasRoot 90 1290 rooted opening
root_at_its_wait = has_root 90 1290 rooted opening refl

pub no_root_before : HasRoot 90 1289 rooted opening → ⊥
no_root_before h = absurd (cc (root_past 90 1289 rooted opening h))

-- the opening is that of the first span
pub opened_by_the_first : WasOpened childless opening
opened_by_the_first = record { later = span 1500 (Some (3 ∷ [])) ∷ []; item = span 1000 (Some (3 ∷ [])); before = []; split = refl; first = _; is = refl; kept = refl; ids = _; valid = refl; trace = refl; at = refl; moment = refl }
