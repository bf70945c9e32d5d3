-- Which traces a percentage of all is (tailsamplingprocessor README, `probabilistic`): those whose ids have the lowest
-- hashes.
use Rattle.std.specs.Prelude.{ℕ, ◌-◌, ◌*◌, ◌/◌, ◌%◌, ◌^◌, Bool, nat_le, List, [], ◌∷◌, ◌++◌, fold, bit_xor, Option, None, Some}
use Rattle.otlp_types.specs.declared.arrival.Arrival.{Arrival}
use Rattle.otlp_types.specs.declared.span.Ids.{Ids}

-- ---- the FNV-1a hash of 64 bits (draft-eastlake-fnv): from the offset basis on, each byte is put in by exclusive or,
-- and then the hash is multiplied by the prime

abbrev pub hash_byte : (hash byte : ℕ) → ℕ
hash_byte hash byte = (bit_xor hash byte * 1099511628211) % 2 ^ 64

abbrev pub fnv_1a : List ℕ → ℕ
fnv_1a bytes = fold hash_byte 14695981039346656037 bytes

-- ---- traces

-- the bytes of a trace's id
abbrev pub trace_bytes : Option Ids → List ℕ
trace_bytes None = []
trace_bytes (Some ids) = ids.trace

-- the trace of some spans: that of the first one
abbrev pub trace_of : List Arrival → List ℕ
trace_of [] = []
trace_of (a ∷ rest) = trace_bytes a.rec.span.ids

-- the greatest hash that is sampled, by the percentage in ten-thousandths of a percent: that part of the greatest hash,
-- rounded down
abbrev pub threshold : (ten_thousandths : ℕ) → ℕ
threshold ten_thousandths = ten_thousandths * (2 ^ 64 - 1) / 1000000

-- the hash of the salt and the trace's id is at most that
unfoldable pub is_chosen : (salt : List ℕ) → (ten_thousandths : ℕ) → (trace : List ℕ) → Bool
is_chosen salt ten_thousandths trace = nat_le (fnv_1a (salt ++ trace)) (threshold ten_thousandths)
