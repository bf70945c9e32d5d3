-- Worked rows: what some tables have with their defaults.
use Rattle.std.proofs.Common.{◌≡◌, [], Some, None, codes, pos, true, false, refl}
use Rattle.toml.specs.Data.{Members, no_members, member, string, integer, boolean, table, array, no_items, get_member}
use Rattle.config_text.specs.Whole.{with_defaults}

-- a configuration without a key
nothing : with_defaults no_members
    ≡ member (codes "accept_gzip") (boolean false)
    (member (codes "accept_protobuf") (boolean false)
    (member (codes "close_at_end_of_input") (boolean false)
    (member (codes "decision_cache") (table (member (codes "non_sampled_cache_size") (integer (pos 0)) (member (codes "sampled_cache_size") (integer (pos 0)) no_members)))
    (member (codes "decision_wait_ms") (integer (pos 30000))
    (member (codes "decisions") (string [])
    (member (codes "decisions_max_mib") (integer (pos 0))
    (member (codes "double_values") (string (codes "discard"))
    (member (codes "export_capacity") (integer (pos 1024))
    (member (codes "lanes") (integer (pos 1))
    (member (codes "listen") (string (codes "127.0.0.1:4318"))
    (member (codes "log") (string (codes "text"))
    (member (codes "max_connections") (integer (pos 1024))
    (member (codes "max_request_mib") (integer (pos 4))
    (member (codes "maximum_trace_size_bytes") (integer (pos 0))
    (member (codes "memory_limit_mib") (integer (pos 0))
    (member (codes "metrics") (string [])
    (member (codes "num_traces") (integer (pos 50000))
    (member (codes "output") (string [])
    (member (codes "output_fault") (string (codes "discard"))
    (member (codes "output_keep") (integer (pos 7))
    (member (codes "output_max_mib") (integer (pos 0))
    (member (codes "queue_capacity") (integer (pos 1024))
    (member (codes "queue_full") (string (codes "partial"))
    (member (codes "record") (string [])
    (member (codes "record_max_mib") (integer (pos 0))
    (member (codes "record_policy") (boolean false)
    (member (codes "root_wait_ms") (integer (pos 0))
    (member (codes "sample_on_first_match") (boolean false)
    (member (codes "send_batch_size") (integer (pos 512))
    (member (codes "shards") (integer (pos 1))
    (member (codes "tick_ms") (integer (pos 1000)) no_members)))))))))))))))))))))))))))))))
unfolding with_defaults
nothing = refl

-- the settings of examples/serve.toml, with no policy
served : Members
served =
    member (codes "accept_gzip") (boolean true)
    (member (codes "accept_protobuf") (boolean true)
    (member (codes "admin") (string (codes "127.0.0.1:4319"))
    (member (codes "decision_cache") (table (member (codes "non_sampled_cache_size") (integer (pos 100000)) (member (codes "sampled_cache_size") (integer (pos 100000)) no_members)))
    (member (codes "decision_wait_ms") (integer (pos 30000))
    (member (codes "double_values") (string (codes "keep"))
    (member (codes "export_capacity") (integer (pos 4096))
    (member (codes "lanes") (integer (pos 4))
    (member (codes "listen") (string (codes "127.0.0.1:4318"))
    (member (codes "max_connections") (integer (pos 4096))
    (member (codes "max_request_mib") (integer (pos 20))
    (member (codes "memory_limit_mib") (integer (pos 1024))
    (member (codes "num_traces") (integer (pos 100000))
    (member (codes "output_fault") (string (codes "stop"))
    (member (codes "policies") (array no_items)
    (member (codes "queue_capacity") (integer (pos 4096))
    (member (codes "queue_full") (string (codes "retry"))
    (member (codes "root_wait_ms") (integer (pos 2000))
    (member (codes "send_batch_size") (integer (pos 512))
    (member (codes "shards") (integer (pos 4))
    (member (codes "tick_ms") (integer (pos 500)) no_members))))))))))))))))))))

served_whole : with_defaults served ≡
    member (codes "accept_gzip") (boolean true)
    (member (codes "accept_protobuf") (boolean true)
    (member (codes "admin") (string (codes "127.0.0.1:4319"))
    (member (codes "close_at_end_of_input") (boolean false)
    (member (codes "decision_cache") (table (member (codes "non_sampled_cache_size") (integer (pos 100000)) (member (codes "sampled_cache_size") (integer (pos 100000)) no_members)))
    (member (codes "decision_wait_ms") (integer (pos 30000))
    (member (codes "decisions") (string [])
    (member (codes "decisions_max_mib") (integer (pos 0))
    (member (codes "double_values") (string (codes "keep"))
    (member (codes "export_capacity") (integer (pos 4096))
    (member (codes "lanes") (integer (pos 4))
    (member (codes "listen") (string (codes "127.0.0.1:4318"))
    (member (codes "log") (string (codes "text"))
    (member (codes "max_connections") (integer (pos 4096))
    (member (codes "max_request_mib") (integer (pos 20))
    (member (codes "maximum_trace_size_bytes") (integer (pos 0))
    (member (codes "memory_limit_mib") (integer (pos 1024))
    (member (codes "metrics") (string [])
    (member (codes "num_traces") (integer (pos 100000))
    (member (codes "output") (string [])
    (member (codes "output_fault") (string (codes "stop"))
    (member (codes "output_keep") (integer (pos 7))
    (member (codes "output_max_mib") (integer (pos 0))
    (member (codes "policies") (array no_items)
    (member (codes "queue_capacity") (integer (pos 4096))
    (member (codes "queue_full") (string (codes "retry"))
    (member (codes "record") (string [])
    (member (codes "record_max_mib") (integer (pos 0))
    (member (codes "record_policy") (boolean false)
    (member (codes "root_wait_ms") (integer (pos 2000))
    (member (codes "sample_on_first_match") (boolean false)
    (member (codes "send_batch_size") (integer (pos 512))
    (member (codes "shards") (integer (pos 4))
    (member (codes "tick_ms") (integer (pos 500)) no_members)))))))))))))))))))))))))))))))))
unfolding with_defaults served
served_whole = refl

-- some keys, tables without some of theirs, and the wait from a trace's root on by its other name
partly : Members
partly =
    member (codes "decision_cache") (table (member (codes "sampled_cache_size") (integer (pos 7)) no_members))
    (member (codes "decision_wait_after_root_received_ms") (integer (pos 9))
    (member (codes "export") (table (member (codes "endpoint") (string (codes "http://a/b")) (member (codes "retry_for_ms") (integer (pos 5)) no_members)))
    (member (codes "ledger") (table (member (codes "max_mib") (integer (pos 8)) (member (codes "path") (string (codes "f")) no_members)))
    (member (codes "num_traces") (integer (pos 6)) no_members))))

partly_traces : get_member (codes "num_traces") (with_defaults partly) ≡ Some (integer (pos 6))
unfolding with_defaults partly
partly_traces = refl

partly_root_wait : get_member (codes "root_wait_ms") (with_defaults partly) ≡ None
unfolding with_defaults partly
partly_root_wait = refl

partly_received : get_member (codes "decision_wait_after_root_received_ms") (with_defaults partly) ≡ Some (integer (pos 9))
unfolding with_defaults partly
partly_received = refl

partly_admin : get_member (codes "admin") (with_defaults partly) ≡ None
unfolding with_defaults partly
partly_admin = refl

partly_caches : get_member (codes "decision_cache") (with_defaults partly)
    ≡ Some (table (member (codes "non_sampled_cache_size") (integer (pos 0)) (member (codes "sampled_cache_size") (integer (pos 7)) no_members)))
unfolding with_defaults partly
partly_caches = refl

partly_export : get_member (codes "export") (with_defaults partly)
    ≡ Some (table (member (codes "close_wait_ms") (integer (pos 10000))
    (member (codes "encoding") (string (codes "json"))
    (member (codes "endpoint") (string (codes "http://a/b"))
    (member (codes "lines") (boolean false)
    (member (codes "queue_batches") (integer (pos 256))
    (member (codes "retry_for_ms") (integer (pos 5))
    (member (codes "retry_initial_ms") (integer (pos 500))
    (member (codes "retry_max_ms") (integer (pos 30000))
    (member (codes "timeout_ms") (integer (pos 10000)) no_members))))))))))
unfolding with_defaults partly
partly_export = refl

partly_ledger : get_member (codes "ledger") (with_defaults partly)
    ≡ Some (table (member (codes "max_mib") (integer (pos 8)) (member (codes "path") (string (codes "f")) (member (codes "sync") (string (codes "none")) (member (codes "sync_interval_ms") (integer (pos 1000)) no_members)))))
unfolding with_defaults partly
partly_ledger = refl
