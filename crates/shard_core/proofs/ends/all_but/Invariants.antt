use Rattle.std.proofs.Common.{◌≡◌, ◌≢◌, ◌<◌, ℕ, Bool, true, Some, slice_get}
use Rattle.shard_core.proofs.ends.all_but.Given as goal

abbrev pub invariant-loop-at : goal.invariant-loop-at
invariant-loop-at l = (k : ℕ) (b : Bool) → k < l.at → k ≢ l.place → slice_get l.ends.items k ≡ Some b → b ≡ true
