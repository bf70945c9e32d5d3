use Rattle.std.proofs.Common.{◌+◌, ◌*◌, List, length}
use Rattle.serde_json.specs.Data.{Data, Members}
use Rattle.otlp_stream.specs.Taking.{Within, WithinItems}
use Rattle.otlp_stream.proofs.take.+skip.Given as goal

abbrev pub decreases-skip : goal.decreases-skip
decreases-skip l = 2 * l.depth

abbrev pub decreases-skip_items : goal.decreases-skip_items
decreases-skip_items l = 2 * l.depth + 1

abbrev pub invariant-skip_items-items : goal.invariant-skip_items-items
invariant-skip_items-items l = (done : List Data) × WithinItems l.depth l.fn.reader l.reader done

abbrev pub decreases-skip_items-items : goal.decreases-skip_items-items
decreases-skip_items-items l = length l.reader

abbrev pub decreases-skip_members : goal.decreases-skip_members
decreases-skip_members l = 2 * l.depth + 1

abbrev pub invariant-skip_members-members : goal.invariant-skip_members-members
invariant-skip_members-members l = (found : Members) × Within l.depth l.fn.reader l.reader found

abbrev pub decreases-skip_members-members : goal.decreases-skip_members-members
decreases-skip_members-members l = length l.reader
