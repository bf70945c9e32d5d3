-- A request's payload is read as that request.
use Rattle.std.proofs.Common.{rules, ◌≡◌, Some, ◌∙◌, ap}
use Rattle.request_ledger.specs.Entries.{seen_request, request_in}
use Rattle.request_ledger.proofs.Back.{request_back}
use Rattle.request_ledger.proofs.entries.request_in.Goals as goal

pub returns-clause-back : goal.returns-clause-back
returns-clause-back c r fits is =
    let exact : Some (seen_request c.told_request.result) ≡ request_in c.args.payload.now = search rules in
    exact ∙ ap request_in is ∙ request_back r fits
