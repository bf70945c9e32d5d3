-- When a segment may go, and whether there is room for more.
use Rattle.std.specs.Prelude.{ℕ, ◌+◌, ◌<◌, ◌≤◌, ◌⊎◌, nat_lt, Bool, ◌&&◌, true, false, Option, Some, None, List}
use Rattle.std.specs.List.{list_all}
use Rattle.request_ledger.specs.declared.removal.ShardStanding.{ShardStanding}

-- there is none, or it is past a moment
abbrev pub is_none_or_past : ℕ → Option ℕ → Bool
is_none_or_past moment None = true
is_none_or_past moment (Some oldest) = nat_lt moment oldest

-- the shard has told after a moment, and what waits there was opened after it
abbrev pub is_past : ℕ → ShardStanding → Bool
is_past moment shard = nat_lt moment shard.told && is_none_or_past moment shard.oldest

-- so have all shards, by a margin
abbrev pub is_settled : (last margin : ℕ) → List ShardStanding → Bool
is_settled last margin shards = list_all (is_past (last + margin)) shards

-- a segment ends ten seconds after it began, if it has a request, or with 64 MiB
abbrev pub EndsAt : (began now bytes : ℕ) → Type 0
EndsAt began now bytes = ((began + 10000 ≤ now) × (0 < bytes)) ⊎ (67108864 ≤ bytes)

-- none of its spans waits, known in this segment; and what was released up to it is no more on its way
abbrev pub may_go : (settled oldest : Option ℕ) → Bool
may_go None oldest = false
may_go (Some settled) None = true
may_go (Some settled) (Some oldest) = nat_lt settled oldest
