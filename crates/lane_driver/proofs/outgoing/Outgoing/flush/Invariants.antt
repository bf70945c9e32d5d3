use Rattle.std.proofs.Common.{◌≡◌, length}
use Rattle.std.specs.Prelude.{nat_lt}
use Rattle.lane_driver.proofs.Sent.{Sends}
use Rattle.lane_driver.proofs.outgoing.Outgoing.flush.Given as goal

-- what is left is what was there, without what the writer took; it took something where less is left
abbrev pub invariant-loop : goal.invariant-loop
invariant-loop g l = record {
  sends : Sends l.fn.self l.self (g.W.Write.contents l.fn.writer) (g.W.Write.contents l.writer);
  took : l.took ≡ nat_lt (length l.self) (length l.fn.self);
}
