-- The settings of a shard, as its definitions see them.
use Rattle.policy_tree.specs.Meaning.{meaning}
use Rattle.journal_theory.specs.Journal.{Settings as SettingsData}
use Rattle.shard_journal.specs.declared.settings.Settings.{Settings}

-- the settings, with what the policies mean
abbrev pub settings_of : Settings → SettingsData
settings_of s = record { policies = meaning s.policies; decision_wait = s.decision_wait; root_wait = s.root_wait; maximum_trace_size = s.maximum_trace_size; num_traces = s.num_traces; sampled_cache_size = s.sampled_cache_size; non_sampled_cache_size = s.non_sampled_cache_size; senders = s.senders }
