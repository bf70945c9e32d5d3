use Rattle.std.proofs.Common.{List, ℕ, ◌++◌, length, drop, sym, ◌∙◌, ap, take-append-drop}
use Rattle.ledger_file.specs.Format.{records_in, seed_of, front, records_of}
use Rattle.ledger_file.proofs.Whole.{records-front}
use Rattle.ledger_file.proofs.laws.found_if_synced.Goals as goal

pub returns : goal.returns
returns c parameters file items known fit begins =
    let rest = drop (length (front parameters items)) file in
    (records_in (seed_of parameters) rest, ap records_of (sym (take-append-drop (length (front parameters items)) file) ∙ ap (λ (l : List ℕ). l ++ rest) begins) ∙ records-front parameters known items rest fit)
