use Rattle.std.proofs.Common.{◌≡◌, drop, fold}
use Rattle.policy_eval.specs.Probabilistic.{hash_byte}
use Rattle.policy_eval.proofs.probabilistic.hash_on.Given as goal

-- the bytes that are left make of the hash so far that of all
abbrev pub invariant-loop-byte : goal.invariant-loop-byte
invariant-loop-byte l = fold hash_byte l.hash (drop l.byte-index l.bytes) ≡ fold hash_byte l.so_far l.bytes
