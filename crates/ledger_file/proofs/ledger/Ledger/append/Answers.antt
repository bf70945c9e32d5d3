-- A record that waits changes nothing of the file: `rests_as_read` of `Ledger::append`.
use Rattle.std.proofs.Common.{◌∙◌}
use Rattle.ledger_file.proofs.ledger.Ledger.append.Goals as goal

pub returns-in_err-push-clause-rests_as_read : goal.returns-in_err-push-clause-rests_as_read
returns-in_err-push-clause-rests_as_read g c rests clean ready =
    let k = rests clean ready in
    record { known = k.known; fit = k.fit; seed = c.push.ensures.seed ∙ k.seed; end = k.end; each = k.each }

pub returns-clause-rests_as_read : goal.returns-clause-rests_as_read
returns-clause-rests_as_read g c rests clean ready =
    let k = rests clean ready in
    record { known = k.known; fit = k.fit; seed = c.push.ensures.seed ∙ k.seed; end = k.end; each = k.each }
