use Rattle.std.proofs.Common.{rules, ◌≡◌, [], sym, ap, ◌∙◌}
use Rattle.span_size.specs.Size.{size_of}
use Rattle.trace_buffer.proofs.Sizes.{size-none}
use Rattle.trace_buffer.proofs.episode.Episode.settle.Goals as goal

pub invariant_of-self : goal.invariant_of-self
invariant_of-self c = λ _.
    let none : c.replace.new.dest.items ≡ [] = search rules in size-none ∙ ap size_of (sym none)
