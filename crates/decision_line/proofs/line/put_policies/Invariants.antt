use Rattle.std.proofs.Common.{◌≡◌, ◌++◌, length, map, string_bytes, take}
use Rattle.decision_line.proofs.Policies.{from_place}
use Rattle.decision_line.proofs.line.put_policies.Given as goal

-- what is there, with the policies that are left, is the whole, behind the bytes that were there
abbrev pub invariant-loop-place : goal.invariant-loop-place
invariant-loop-place l =
    (l.line.items ++ from_place (map string_bytes l.names) l.said l.place ≡ l.fn.line.items ++ from_place (map string_bytes l.names) l.said 0)
    × (take (length l.fn.line.items) l.line.items ≡ l.fn.line.items)
