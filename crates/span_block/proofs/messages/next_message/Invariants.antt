use Rattle.std.proofs.Common.{length, ◌≤◌}
use Rattle.span_block.proofs.Finding.{StillLeft}
use Rattle.span_block.proofs.messages.next_message.Given as goal

abbrev pub invariant-fields : goal.invariant-fields
invariant-fields l = record { left : StillLeft l.number l.initial.fields l.fields; within : length l.fields ≤ length l.initial.fields }

abbrev pub decreases-fields : goal.decreases-fields
decreases-fields l = length l.fields
