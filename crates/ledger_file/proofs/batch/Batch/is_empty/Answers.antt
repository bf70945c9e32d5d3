use Rattle.std.proofs.Common.{◌≡◌, length, rules, sym, ◌∙◌, eq-eqb}
use Rattle.std.proofs.lemmas.Bool.{eqb-true}
use Rattle.ledger_file.proofs.Batches.{short_none, none_short}
use Rattle.ledger_file.proofs.batch.Batch.is_empty.Goals as goal

pub returns : goal.returns
returns c =
    let b = c.args.self.now in
    let len : c.len.result ≡ length b.bytes.items = search rules in
    (λ one. short_none b.seed _ b.bytes.items b.framed (sym len ∙ eqb-true c.len.result 1 one), λ none. eq-eqb c.len.result 1 (len ∙ none_short b.seed _ b.bytes.items b.framed none))
