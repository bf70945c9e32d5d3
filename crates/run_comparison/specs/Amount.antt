-- How much was kept.
use Rattle.std.specs.Prelude.{ℕ, ◌+◌, ◌-◌, ◌^◌, min}
use Rattle.run_comparison.specs.declared.amount.Amount.{Amount}

-- the greatest number is 2^64 - 1
abbrev pub capped : ℕ → ℕ
capped n = min n (2 ^ 64 - 1)

-- nothing
abbrev pub nothing : Amount
nothing = record { traces = 0; spans = 0; bytes = 0 }

-- two amounts together
abbrev pub plus : Amount → Amount → Amount
plus some more = record { traces = capped (some.traces + more.traces); spans = capped (some.spans + more.spans); bytes = capped (some.bytes + more.bytes) }
