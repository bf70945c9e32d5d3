-- Settings for worked rows, which change what they are about. A setting that shards read is added here once, and the
-- rows of all crates follow.
use Rattle.std.specs.Prelude.{None}
use Rattle.policy_tree.specs.Tree.{Policies}
use Rattle.journal_theory.specs.Journal.{Settings}

-- a wait of 10 milliseconds, two senders, no limit and no caches
abbrev pub plain_settings : Policies → Settings
plain_settings policies = record { policies = policies; decision_wait = 10; root_wait = 0; maximum_trace_size = 0; num_traces = None; sampled_cache_size = 0; non_sampled_cache_size = 0; senders = 2 }
