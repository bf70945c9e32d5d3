use Rattle.std.proofs.Common.{reverse}
use Rattle.journal_theory.specs.Journal.{joins, meets, opens, notes}
use Rattle.shard_journal.specs.Settings.{settings_of}
use Rattle.shard_journal.proofs.Turns.{found_by}
use Rattle.shard_journal.proofs.asked.finding_of.Goals as goal

pub returns-in-Joins : goal.returns-in-Joins
returns-in-Joins c = let s = settings_of c.args.settings.now in found_by s (notes s (reverse c.args.journal.now)) c.args.trace c.in_ok-noted.noted (joins c.in-Joins.field-0) c.in_ok-noted.ensures c.in-Joins.ensures

pub returns-in-Meets : goal.returns-in-Meets
returns-in-Meets c = let s = settings_of c.args.settings.now in found_by s (notes s (reverse c.args.journal.now)) c.args.trace c.in_ok-noted.noted (meets c.in-Meets.field-0 c.in-Meets.verdict) c.in_ok-noted.ensures c.in-Meets.ensures

pub returns : goal.returns
returns c = let s = settings_of c.args.settings.now in found_by s (notes s (reverse c.args.journal.now)) c.args.trace c.in_ok-noted.noted opens c.in_ok-noted.ensures c.in-Opens.ensures
