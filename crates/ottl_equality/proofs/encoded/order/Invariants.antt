use Rattle.std.proofs.Common.{◌≡◌, length}
use Rattle.std.specs.Ordering.{nat_cmp}
use Rattle.std.specs.Cmp.Lexicographic.{slice_cmp}
use Rattle.ottl_equality.specs.Encoded.{bytes_of}
use Rattle.ottl_equality.proofs.encoded.order.Given as goal

abbrev pub invariant-loop-first : goal.invariant-loop-first
invariant-loop-first l = slice_cmp nat_cmp (bytes_of l.left) (bytes_of l.right) ≡ slice_cmp nat_cmp (bytes_of l.fn.left) (bytes_of l.fn.right)

abbrev pub decreases-loop-first : goal.decreases-loop-first
decreases-loop-first l = length (bytes_of l.left)
