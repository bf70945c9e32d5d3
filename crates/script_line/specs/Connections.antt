-- The number of a connection in a script, which has a connection on the lane of its number modulo the number of lanes.
use Rattle.std.specs.Prelude.{◌≡◌, ◌<◌, ◌+◌, ◌*◌, ℕ}
use Rattle.span_ids.specs.declared.keys.ConnKey.{ConnKey}

abbrev pub number_of : (lanes : ℕ) → ConnKey → ℕ
number_of lanes key = key.ordinal * lanes + key.lane

-- two connections of such lanes that have one number are one
abbrev pub ConnectionsStayApart : Type 0
ConnectionsStayApart = (lanes : ℕ) (a b : ConnKey) → a.lane < lanes → b.lane < lanes → number_of lanes a ≡ number_of lanes b → a ≡ b
