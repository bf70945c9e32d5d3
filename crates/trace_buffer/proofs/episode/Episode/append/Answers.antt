use Rattle.std.proofs.Common.{◌++◌, [], ◌∷◌, List, ap, ◌∙◌}
use Rattle.otlp_types.specs.declared.arrival.Arrival.{Arrival}
use Rattle.trace_buffer.proofs.Sizes.{size-more}
use Rattle.trace_buffer.proofs.episode.Episode.append.Goals as goal

pub invariant_of-self-2 : goal.invariant_of-self-2
invariant_of-self-2 c = λ pos.
    let i = c.self.inside in
    size-more i.spans.items c.push_reserved.new.self.items c.args.arrival i.size c.size_within-size.result c.saturating_add-self-inside.result (c.self.invariant pos) (c.size_within-size.ensures pos) c.saturating_add-self-inside.ensures
    (c.push_reserved.ensures.items ∙ ap (λ (xs : List Arrival). xs ++ c.args.arrival ∷ []) c.make_room.ensures.items)
