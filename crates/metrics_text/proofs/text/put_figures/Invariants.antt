use Rattle.std.proofs.Common.{◌≡◌, ◌++◌, drop}
use Rattle.std.specs.Prelude.{string_bytes, map}
use Rattle.std.specs.List.{concat}
use Rattle.metrics_text.specs.Figures.{all_figures, figure_text, figures_text}
use Rattle.metrics_text.proofs.text.put_figures.Given as goal

-- the texts that are there, with those that are left, are the whole
abbrev pub invariant-loop-figure : goal.invariant-loop-figure
invariant-loop-figure l =
    string_bytes l.text ++ concat (map (figure_text l.metrics) (drop l.figure-index all_figures))
    ≡ string_bytes l.fn.text ++ figures_text l.metrics
