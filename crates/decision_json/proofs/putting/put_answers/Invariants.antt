use Rattle.std.proofs.Common.{◌≡◌, ◌++◌, map, string_bytes}
use Rattle.decision_json.proofs.Answers.{from_place}
use Rattle.decision_json.proofs.putting.put_answers.Given as goal

-- what is there, with the answers that are left, is the whole
abbrev pub invariant-loop-place : goal.invariant-loop-place
invariant-loop-place l =
    (l.writer.tokens ++ from_place (map string_bytes l.names) l.said l.place ≡ l.fn.writer.tokens ++ from_place (map string_bytes l.names) l.said 0)
    × (l.writer.before ≡ l.fn.writer.before)
