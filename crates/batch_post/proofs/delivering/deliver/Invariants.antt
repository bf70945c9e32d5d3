use Rattle.std.proofs.Common.{◌≡◌, true, List, ◌∷◌, length}
use Rattle.std.specs.List.{list_all, flat_map}
use Rattle.batch_post.specs.Rules.{wait_behind}
use Rattle.batch_post.specs.Deliveries.{Retried, AreRetried, retried_entries}
use Rattle.batch_post.specs.Logs.{told, Grows}
use Rattle.batch_post.proofs.Attempts.{again}
use Rattle.batch_post.proofs.delivering.deliver.Given as goal

-- behind all that was tried so far the rule says to wait so, and the next wait doubles on
abbrev pub invariant-loop : goal.invariant-loop
invariant-loop g l =
    (before : List Retried) × AreRetried l.rule l.began 0 before × (list_all again before ≡ true) × (l.wait ≡ wait_behind l.rule (length before))
    × Grows (g.B.Backend.log l.fn.backend) (g.B.Backend.log l.backend) (told l.began ∷ flat_map (retried_entries l.batch) before)
