-- The lines of a ledger's numbers.
use Rattle.std.specs.Prelude.{ℕ, List, [], ◌∷◌, ◌++◌, codes}
use Rattle.metrics_text.specs.Families.{Family, family, family_text, sample}
use Rattle.metrics_text.specs.declared.kind.FamilyKind.TheVariants.{Counter}
use Rattle.metrics_text.specs.declared.ledger.LedgerCounts.{LedgerCounts}

-- the spans that were received again
abbrev pub restored : LedgerCounts → Family
restored counts =
    family (codes "tsc_spans_restored_total") (codes "Spans of earlier runs that were received again.") Counter (sample [] counts.restored_spans ∷ [])

-- those of them that had been handed over
abbrev pub handed_again : LedgerCounts → Family
handed_again counts =
    family (codes "tsc_spans_handed_again_total") (codes "Spans that were received again though an earlier run had noted them as handed over.") Counter (sample [] counts.handed_again ∷ [])

abbrev pub ledger_lines : LedgerCounts → List ℕ
ledger_lines counts = family_text (restored counts) ++ family_text (handed_again counts)
