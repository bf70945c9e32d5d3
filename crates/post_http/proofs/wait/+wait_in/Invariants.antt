use Rattle.std.proofs.Common.{length}
use Rattle.post_http.proofs.wait.+wait_in.Given as goal

abbrev pub decreases-wait_in : goal.decreases-wait_in
decreases-wait_in l = length l.fields.now
