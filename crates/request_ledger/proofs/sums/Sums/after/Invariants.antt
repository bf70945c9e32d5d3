-- What is left takes the sums where all the bytes take them.
use Rattle.std.proofs.Common.{◌≡◌, drop}
use Rattle.request_ledger.specs.Sums.{after_bytes}
use Rattle.request_ledger.proofs.sums.Sums.after.Given as goal

abbrev pub invariant-loop-byte : goal.invariant-loop-byte
invariant-loop-byte l = after_bytes (record { first = l.first; second = l.second }) (drop l.byte-index l.bytes) ≡ after_bytes l.fn.self l.bytes
