-- What a commit makes of the journal of a ledger: `committed`, `journal` and `crash`.
use Rattle.ledger_file.specs.Ledger.{disk_of}
use Rattle.shard_ledger.proofs.Commits.{on_ok, on_both, has_both, has_first_or_both, goes_on}
use Rattle.shard_ledger.proofs.entries.commit_entries.Goals as goal

pub returns-clause-committed : goal.returns-clause-committed
returns-clause-committed g c =
    on_ok c.commit.result
    (λ has early late journal clean file left. has_both g.D.Disk.seen g.D.Disk.is_clean c.args.ledger.now _ file (has clean file left) early late journal clean)
    c.commit.ensures.committed

pub returns-clause-journal : goal.returns-clause-journal
returns-clause-journal g c =
    let new = c.commit.new.self in
    on_both c.commit.result
    (λ has none early late journal. goes_on g.D.Disk.seen g.D.Disk.is_clean c.args.ledger.now new c.commit.ensures.clean early late
    (λ clean. has_both g.D.Disk.seen g.D.Disk.is_clean c.args.ledger.now _ _ (has clean _ (g.met.D.Disk.seen_may_stay (disk_of new))) early late journal clean) none)
    c.commit.ensures.committed c.commit.ensures.none_waits

pub returns-clause-crash : goal.returns-clause-crash
returns-clause-crash g c early late journal clean is_open file left =
    has_first_or_both g.D.Disk.seen g.D.Disk.is_clean c.args.ledger.now file (c.commit.ensures.crash clean is_open file left) early late journal clean
