-- What a caller sees of a shard, and when it stands for a journal.
use Rattle.std.specs.Prelude.{ℕ, ◌≡◌, Bool, List, if◌then◌else◌, length, Some}
use Rattle.std.specs.List.{list_any, list_all}
use Rattle.journal_theory.specs.Deciding.{is_due_by}
use Rattle.journal_theory.specs.Journal.{Settings, Journal, StoppedInTime, IsAnsweredUpTo}
use Rattle.trace_buffer.specs.Buffer.{Episode}
use Rattle.journal_theory.specs.Standing.{Standing, standing}
use Rattle.trace_buffer.specs.Buffer.{Buffer}
use Rattle.decision_cache.specs.Lists.{CacheLists}
use Rattle.policy_tree.specs.Meaning.{meaning}
use Rattle.policy_tree.specs.declared.policy.Policy.{Policy}
use Rattle.shard_core.specs.declared.setup.Waits.{Waits}

-- what a shard was made with, and what it holds: the greatest size of a trace is bytes, 0 for none; the limit is on the
-- traces of the buffer, a cache of size 0 is off
pub record Held : Type 0 where
  pub policies : List Policy
  pub waits : Waits
  pub num_traces : ℕ
  pub sampled_cache_size : ℕ
  pub non_sampled_cache_size : ℕ
  pub standing : Standing

-- a shard by its parts
abbrev pub held_of : List Policy → Waits → Buffer → CacheLists → (clock mark : ℕ) → List Bool → Held
held_of policies waits b c clock mark ends = record {
  policies = policies;
  waits = waits;
  num_traces = b.num_traces;
  sampled_cache_size = c.sampled.size;
  non_sampled_cache_size = c.not_sampled.size;
  standing = record { episodes = b.episodes; sampled = c.sampled.traces; non_sampled = c.not_sampled.traces; clock = clock; mark = mark; ends = ends };
}

-- the settings of a shard
abbrev pub settings_of : List Policy → Waits → (num_traces sampled_cache_size non_sampled_cache_size senders : ℕ) → Settings
settings_of policies waits num_traces sampled_cache_size non_sampled_cache_size senders = record { policies = meaning policies; decision_wait = waits.decision_wait; root_wait = waits.root_wait; maximum_trace_size = waits.maximum_trace_size; num_traces = Some num_traces; sampled_cache_size = sampled_cache_size; non_sampled_cache_size = non_sampled_cache_size; senders = senders }

-- the settings that a shard was made with
abbrev pub settings : Held → Settings
settings h = settings_of h.policies h.waits h.num_traces h.sampled_cache_size h.non_sampled_cache_size (length h.standing.ends)

-- every sender has ended
abbrev pub is_finished : Held → Bool
is_finished h = list_all (λ b. b) h.standing.ends

-- an episode of the shard is due
abbrev pub is_due_in : Held → Episode → Bool
is_due_in h e = is_due_by (is_finished h) h.standing.mark h.waits.decision_wait h.waits.root_wait e

-- some episode of the shard is due
abbrev pub has_due : Held → Bool
has_due h = list_any (is_due_in h) h.standing.episodes

-- the moment by which, and the wait and the root wait after which an undecided episode is due: at the end each is
abbrev pub due_by : Held → ℕ × ℕ × ℕ
due_by h = if is_finished h then (h.standing.clock, 0, 0) else (h.standing.mark, h.waits.decision_wait, h.waits.root_wait)

-- the shard stands for the journal, where of the decisions at its last item the first `dealt` were dealt with, and just
-- these and all before are answered
abbrev pub StandsFor : Held → Journal → (dealt : ℕ) → Type 0
StandsFor h past dealt = StoppedInTime (settings h) past × (h.standing ≡ standing (settings h) past dealt) × IsAnsweredUpTo (settings h) past dealt
