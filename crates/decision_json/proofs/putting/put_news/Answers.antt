use Rattle.std.proofs.Common.{map, string_bytes}
use Rattle.decision_json.specs.Value.{news_members}
use Rattle.decision_json.proofs.Appended.{ended, puts-as, puts-one, puts-then}
use Rattle.decision_json.proofs.putting.put_news.Goals as goal

pub returns-clause-tokens : goal.returns-clause-tokens
returns-clause-tokens c =
    let last = c.end_object.result in
    let new = c.end_object.new.self in
    puts-as last c.args.writer.now new _ _ (ended (news_members (map string_bytes c.args.names.now) c.args.news.now))
    (puts-then last c.args.writer.now c.begin_news.new.writer new _ _ c.in_ok-begin_news.ensures.tokens.all.0 c.in_ok-begin_news.ensures.tokens.all.1
    (puts-one last c.begin_news.new.writer new _ c.end_object.ensures))
