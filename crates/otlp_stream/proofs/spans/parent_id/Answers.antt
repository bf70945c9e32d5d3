use Rattle.std.proofs.Common.{Some, option_map, sym, ap, ◌∙◌}
use Rattle.otlp_reading.specs.Reading.{parent_of}
use Rattle.otlp_stream.proofs.spans.parent_id.Goals as goal

pub returns : goal.returns
returns c depth =
    let t = c.in_ok-text.ensures depth in
    record { found = t.found; takes = t.takes; is = ap (option_map (parent_of)) t.is ∙ ap Some (sym c.parent_of.ensures) }
