-- Laws of records.
use Rattle.std.specs.Prelude.{◌≡◌, ◌≢◌, ℕ, ◌<◌, None, List, ◌++◌, length, slice_index, slice_set}
use Rattle.std.specs.List.{AllByRecursion, flat_map}
use Rattle.request_ledger.specs.Sums.{sums_of}
use Rattle.request_ledger.specs.Format.{Fits, head_bytes, record_of, record_in, records_in}

-- records one behind the other are found in order, and then those behind them
abbrev pub RecordsReadBack : Type 0
RecordsReadBack = (payloads : List (List ℕ)) (behind : List ℕ) → AllByRecursion Fits payloads → records_in (flat_map record_of payloads ++ behind) ≡ payloads ++ records_in behind

-- one byte of a payload was turned to another value, behind the head that was written: there is no record
abbrev pub TurnedByteIsFound : Type 0
TurnedByteIsFound =
    (payload behind : List ℕ) (i byte : ℕ) → Fits payload → i < length payload → slice_index payload i < 256 → byte < 256 → byte ≢ slice_index payload i
    → record_in (head_bytes (length payload) (sums_of payload) ++ (slice_set payload i byte ++ behind)) ≡ None
