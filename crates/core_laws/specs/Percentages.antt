-- What a percentage of the traces means at its end.
use Rattle.std.specs.Prelude.{◌≡◌, ℕ, true, List}
use Rattle.policy_eval.specs.Probabilistic.{is_chosen}

-- a hundred percent, a million ten-thousandths of one, chooses each trace
abbrev pub HundredPercentChoosesAll : Type 0
HundredPercentChoosesAll = (salt trace : List ℕ) → is_chosen salt 1000000 trace ≡ true
