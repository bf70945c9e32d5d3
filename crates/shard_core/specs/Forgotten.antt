-- What a shard keeps of its buffer and its caches at all times.
use Rattle.std.specs.Prelude.{◌≡◌, Bool, false, ◌||◌, nat_lt, is_some, List, [], ◌∷◌, length, map}
use Rattle.std.specs.List.{list_all}
use Rattle.decision_cache.specs.Lists.{CacheLists, is_held, is_held_in_either}
use Rattle.trace_buffer.specs.Buffer.{Episode}
use Rattle.span_ids.specs.declared.ids.TraceId.{TraceId}

-- the traces of these episodes
abbrev pub traces : List Episode → List TraceId
traces episodes = map (λ (e : Episode). e.trace) episodes

-- each undecided episode holds a span
abbrev pub have_spans : List Episode → Bool
have_spans episodes = list_all (λ (e : Episode). is_some e.verdict || nat_lt 0 (length e.spans)) episodes

-- each of these traces stands once, and in no cache
abbrev pub AreForgotten : List TraceId → CacheLists → Type 0
AreForgotten [] c = Unit {0}
AreForgotten (t ∷ rest) c = (is_held t rest ≡ false) × (is_held_in_either t c ≡ false) × AreForgotten rest c
