use Rattle.std.proofs.Common.{◌≡◌, take}
use Rattle.trace_hash.specs.Hashing.{fed}
use Rattle.trace_hash.proofs.hasher.TraceHasherHasher.write.Given as goal

abbrev pub invariant-loop-byte : goal.invariant-loop-byte
invariant-loop-byte l = l.self ≡ fed l.initial.self (take l.byte-index l.bytes)
