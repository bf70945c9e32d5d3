use Rattle.std.proofs.Common.{◌≡◌, ◌++◌, drop}
use Rattle.std.specs.Prelude.{string_bytes, map}
use Rattle.std.specs.List.{concat}
use Rattle.metrics_text.specs.Families.{dropped, dropped_sample, family_text, reasons, sample_line}
use Rattle.metrics_text.proofs.text.put_all_dropped.Given as goal

-- the lines that are there, with those that are left, are the whole
abbrev pub invariant-loop-reason : goal.invariant-loop-reason
invariant-loop-reason l =
    string_bytes l.text ++ concat (map (sample_line l.name) (map (dropped_sample l.report) (drop l.reason-index reasons)))
    ≡ string_bytes l.fn.text ++ family_text (dropped l.report)
