use Rattle.std.specs.Prelude.{string_bytes}
use Rattle.metrics_text.specs.declared.figure.Figure.TheVariants.{SpansWaiting}
use Rattle.metrics_text.specs.Figures.{all_figures, figure_text}
use Rattle.metrics_text.proofs.Appending.{items-next}
use Rattle.metrics_text.proofs.text.put_figures.Goals as goal

pub loop-figure-preserved : goal.loop-figure-preserved
loop-figure-preserved c =
    items-next (figure_text c.args.metrics.now) all_figures SpansWaiting (string_bytes c.loop-figure.text) (string_bytes c.put_figure.new.text) _ c.loop-figure.figure-index c.loop-figure-test.true c.loop-figure.invariant c.in_ok-put_figure.ensures
