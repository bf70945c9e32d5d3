use Rattle.std.proofs.Common.{Some, option_map, sym, ap, ◌∙◌}
use Rattle.span_ids.specs.Id.{id_of}
use Rattle.otlp_stream.proofs.spans.trace_id.Goals as goal

pub returns : goal.returns
returns c depth =
    let t = c.in_ok-text.ensures depth in
    record { found = t.found; takes = t.takes; is = ap (option_map (id_of 16)) t.is ∙ ap Some (sym c.parse.ensures) }
