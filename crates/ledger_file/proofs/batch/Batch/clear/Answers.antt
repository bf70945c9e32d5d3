-- A cleared batch is a shut gate: `none` of `Batch::clear`.
use Rattle.std.proofs.Common.{◌≡◌, [], ◌∷◌, ◌++◌, set, arith, sym, ◌∙◌, ap}
use Rattle.ledger_file.specs.Format.{frames, records_in}
use Rattle.ledger_file.proofs.Found.{in_shut}
use Rattle.ledger_file.proofs.Batches.{cleared}
use Rattle.ledger_file.proofs.batch.Batch.clear.Goals as goal

pub invariant_of-self : goal.invariant_of-self
invariant_of-self c =
    let old = c.args.self.now in
    let items : set c.truncate.new.self.items 0 0 ≡ 0 ∷ [] = ap (λ l. set l 0 0) c.truncate.ensures.items ∙ cleared old.bytes.items _ old.framed in
    record { framed = items ∙ ap (λ l. frames old.seed l ++ 0 ∷ []) (sym (ap (records_in old.seed) items ∙ in_shut old.seed 0 [] (omega arith))) }

pub returns-clause-none : goal.returns-clause-none
returns-clause-none c =
    let old = c.args.self.now in
    let items : set c.truncate.new.self.items 0 0 ≡ 0 ∷ [] = ap (λ l. set l 0 0) c.truncate.ensures.items ∙ cleared old.bytes.items _ old.framed in
    ap (records_in old.seed) items ∙ in_shut old.seed 0 [] (omega arith)
