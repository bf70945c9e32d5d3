-- The two sums of a payload's bytes.
use Rattle.std.specs.Prelude.{ℕ, ◌+◌, ◌%◌, ◌^◌, List, fold}
use Rattle.request_ledger.specs.declared.sums.Sums.{Sums}

-- with one more byte: the first sum takes the byte and 1, and the second takes the first
abbrev pub after_byte : Sums → ℕ → Sums
after_byte sums byte = let first = (sums.first + (byte + 1)) % 2 ^ 32 in record { first = first; second = (sums.second + first) % 2 ^ 32 }

abbrev pub after_bytes : Sums → List ℕ → Sums
after_bytes sums bytes = fold after_byte sums bytes

abbrev pub no_sums : Sums
no_sums = record { first = 0; second = 0 }

unfoldable pub sums_of : List ℕ → Sums
sums_of bytes = after_bytes no_sums bytes
