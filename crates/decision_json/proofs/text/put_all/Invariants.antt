use Rattle.std.proofs.Common.{◌≡◌, ◌++◌, drop, map, string_bytes}
use Rattle.decision_json.specs.Putting.{AreCounted}
use Rattle.decision_json.proofs.InOrder.{news_from}
use Rattle.decision_json.proofs.text.put_all.Given as goal

-- what is there, with what is left, is the whole; and all can be written, where what is left can
abbrev pub invariant-loop-one : goal.invariant-loop-one
invariant-loop-one l =
    (l.writer.tokens ++ news_from (map string_bytes l.names) l.news l.one-index ≡ l.fn.writer.tokens ++ news_from (map string_bytes l.names) l.news 0)
    × (l.writer.before ≡ l.fn.writer.before) × (AreCounted (drop l.one-index l.news) → AreCounted l.news)
