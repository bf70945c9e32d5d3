-- What a trace id is hashed to.
use Rattle.std.specs.Prelude.{ℕ, ◌+◌, ◌*◌, ◌%◌, ◌^◌, Bool, true, false, List, fold}
use Rattle.std.specs.Int.{w128, to_le_bytes}
use Rattle.std.specs.Hash.FoldHasher as folding
use Rattle.std.specs.Hash.DefaultHasher as sip
use Rattle.std.specs.RandomState.{initial_hasher}
use Rattle.trace_hash.specs.declared.hasher.TraceHasher.{TraceHasher}
use Rattle.trace_hash.specs.declared.hashing.TraceHashing.{TraceHashing}
use Rattle.trace_hash.specs.declared.hashing.TraceHashing.TheVariants.{Fixed, Keyed}

-- it goes by a key
abbrev pub is_keyed : TraceHashing → Bool
is_keyed Fixed = false
is_keyed (Keyed key) = true

-- a hash that was given no byte
abbrev pub started : TraceHashing → TraceHasher
started hashing = record { hashing = hashing; bytes = 0 }

-- the last sixteen bytes, after one more
abbrev pub with_byte : (bytes : ℕ) → (byte : ℕ) → ℕ
with_byte bytes byte = ((bytes * 256) % 2 ^ 128 + byte) % 2 ^ 128

-- a hash that was given these bytes
abbrev pub fed : TraceHasher → List ℕ → TraceHasher
fed h bytes = record { hashing = h.hashing; bytes = fold with_byte h.bytes bytes }

-- what sixteen bytes are hashed to: with a key by SipHash-1-3
abbrev pub hash_by : TraceHashing → (bytes : ℕ) → ℕ
hash_by Fixed bytes = folding.finish (folding.write folding.initial (to_le_bytes w128 bytes))
hash_by (Keyed key) bytes = sip.finish (sip.write (initial_hasher key) (to_le_bytes w128 bytes))
