-- What a shard holds after a decision, by what it held before: no journal is needed to say it.
use Rattle.std.specs.Prelude.{◌≡◌, ◌≢◌, ◌<◌, ◌+◌, ℕ, Bool, ◌&&◌, ◌||◌, nat_le, is_none, if◌then◌else◌, List, [], ◌∷◌, drop, find, Option, Some, None}
use Rattle.std.specs.List.{list_all}
use Rattle.trace_buffer.specs.Buffer.{Episode, settled, is_root_due, is_too_big}
use Rattle.journal_theory.specs.Journal.{Settings, Journal, Opening, StoppedInTime, due_now, policies_for, spans_since, answered, IsAnsweredUpTo}
use Rattle.policy_eval.specs.Given.{verdict_given}
use Rattle.journal_theory.specs.Standing.{Standing, standing}
use Rattle.span_ids.specs.declared.outcome.Verdict.{Verdict}

-- an undecided episode is due where it, or its first root, had waited long enough at the last tick, or it is too big,
-- or all senders have ended
abbrev pub is_due_by : (finished : Bool) → (mark decision_wait root_wait : ℕ) → Episode → Bool
is_due_by finished mark decision_wait root_wait e = is_none e.verdict && (finished || (nat_le (e.moment + decision_wait) mark || is_root_due mark root_wait e.first_root || is_too_big e.maximum e.spans))

-- the first episode that passes is decided so
abbrev pub decide_first : (Episode → Bool) → Verdict → List Episode → List Episode
decide_first p v [] = []
decide_first p v (e ∷ rest) = if p e then settled v e ∷ rest else e ∷ decide_first p v rest

-- an episode of a shard with this wait is due
abbrev pub is_due_held : (decision_wait root_wait : ℕ) → Standing → Episode → Bool
is_due_held decision_wait root_wait st e = is_due_by (list_all (λ b. b) st.ends) st.mark decision_wait root_wait e

-- what a shard holds after the first episode that is due was decided so: its spans are handed out
abbrev pub after_deciding : Settings → Standing → Verdict → Standing
after_deciding s st v = record st { episodes = decide_first (is_due_held s.decision_wait s.root_wait st) v st.episodes }

-- the next decision, by the first episode that is due: whatever the limiter answers, it is on the spans that the shard
-- holds
abbrev pub DecidesNext : Settings → Journal → (dealt : ℕ) → Option Episode → Type 0
DecidesNext s past dealt None = drop dealt (due_now s past) ≡ []
DecidesNext s past dealt (Some e) = (o : Opening) × (later : List Opening) × (drop dealt (due_now s past) ≡ o ∷ later) × (spans_since past o ≡ e.spans)
    × ((answers : List Bool) → standing s (answered past answers) (dealt + 1) ≡ after_deciding s (standing s past dealt) (verdict_given (policies_for s e.spans) answers e.spans))

-- For a limit and a wait of at least 1, and a journal that took no item after its Ends were complete and whose
-- decisions so far are answered: what is due in a shard is the journal's next decision, and what a shard holds after it
-- is computed from what it held before.
abbrev pub DecidesStanding : Type 0
DecidesStanding = (s : Settings) (past : Journal) (dealt : ℕ) → s.num_traces ≢ Some 0 → 0 < s.decision_wait → StoppedInTime s past → IsAnsweredUpTo s past dealt
    → let st = standing s past dealt in DecidesNext s past dealt (find (is_due_held s.decision_wait s.root_wait st) st.episodes)
