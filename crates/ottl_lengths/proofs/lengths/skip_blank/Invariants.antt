use Rattle.std.proofs.Common.{◌≡◌, length}
use Rattle.ottl_lengths.specs.Lengths.{skip_blank}
use Rattle.ottl_lengths.proofs.lengths.skip_blank.Given as goal

abbrev pub invariant-loop-text : goal.invariant-loop-text
invariant-loop-text l = skip_blank l.text ≡ skip_blank l.fn.text

abbrev pub decreases-loop-text : goal.decreases-loop-text
decreases-loop-text l = length l.text
