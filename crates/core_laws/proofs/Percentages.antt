-- Each hash is at most the greatest one, which a hundred percent chooses.
-- For the law `hundred_percent_chooses_all`.
use Rattle.std.proofs.Common.{◌≡◌, ◌<◌, ◌*◌, ◌^◌, ℕ, List, [], ◌∷◌, ◌++◌, arith}
use Rattle.std.specs.Prelude.{bit_xor, fold}
use Rattle.std.proofs.Math.Nat.{mod-lt}
use borrow.Author.Tests.{le-leb}
use Rattle.policy_eval.specs.Probabilistic.{hash_byte, is_chosen}
use Rattle.core_laws.specs.Percentages.{HundredPercentChoosesAll}

hash_fits : (bytes : List ℕ) (hash : ℕ) → hash < 2 ^ 64 → fold hash_byte hash bytes < 2 ^ 64
hash_fits [] hash fits = fits
hash_fits (byte ∷ rest) hash fits = hash_fits rest (hash_byte hash byte) (mod-lt (bit_xor hash byte * 1099511628211) (omega arith))

pub hundred_percent : HundredPercentChoosesAll
unfolding is_chosen
hundred_percent salt trace = le-leb _ _ (omega (arith, hash_fits (salt ++ trace) 14695981039346656037 (omega arith)))
