use Rattle.std.proofs.Common.{length}
use Rattle.message_cursor.proofs.Walks.{IsLeft}
use Rattle.message_cursor.proofs.front.seek.Given as goal

abbrev pub invariant-fields : goal.invariant-fields
invariant-fields l = IsLeft l.wanted l.sent l.rest

abbrev pub decreases-fields : goal.decreases-fields
decreases-fields l = length l.rest
