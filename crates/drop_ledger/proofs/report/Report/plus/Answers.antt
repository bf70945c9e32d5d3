use Rattle.std.proofs.Common.{◌≡◌, ◌+◌, ◌<◌, ap, sym, subst, arith}
use Rattle.std.specs.Prelude.{slice_index}
use Rattle.std.proofs.lemmas.Grind.{common_steps}
use Rattle.drop_ledger.specs.Places.{place_of}
use Rattle.drop_ledger.proofs.Added.{within_nine}
use Rattle.drop_ledger.proofs.Summed.{count_at}
use Rattle.drop_ledger.proofs.report.Report.plus.Goals as goal

pub returns-in-None-clause-full : goal.returns-in-None-clause-full
returns-in-None-clause-full c =
    let at = count_at c.loop-place.place c.loop-place-test.true in
    let not_less = c.in-None.ensures in
    (at.0, rw (at.1, ← c.self.view_is, ← c.other.view_is) (omega (arith, not_less)))
