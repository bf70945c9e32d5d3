-- Behind the end there is no record.
use Rattle.std.proofs.Common.{ap, sym, ◌∙◌, arith, []}
use Rattle.std.proofs.lemmas.List.{drop_all}
use Rattle.request_ledger.specs.Format.{record_in, records_in}
use Rattle.request_ledger.proofs.Found.{none_in_none, in_broken, is_record-none}
use Rattle.request_ledger.proofs.records.record_at.Goals as goal

pub returns-then-at-bytes-clause-exact : goal.returns-then-at-bytes-clause-exact
returns-then-at-bytes-clause-exact c = sym (ap record_in (drop_all c.args.at c.args.bytes.now (omega arith)) ∙ none_in_none)

pub returns-then-at-bytes-clause-last : goal.returns-then-at-bytes-clause-last
returns-then-at-bytes-clause-last c = ap records_in (drop_all c.args.at c.args.bytes.now (omega arith)) ∙ in_broken [] is_record-none
