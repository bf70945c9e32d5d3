use Rattle.std.proofs.Common.{◌≤◌, ◌∙◌, arith, length, map, string_bytes}
use Rattle.decision_json.proofs.Back.{on-ok}
use Rattle.decision_json.proofs.InOrder.{counted-end, counted-next, news-end, news-next}
use Rattle.decision_json.proofs.text.put_all.Goals as goal

pub loop-one-preserved : goal.loop-one-preserved
loop-one-preserved c =
    let news = c.args.news.now in
    let place = c.loop-one.one-index in (
      news-next (map string_bytes c.args.names.now) news place c.one-item.result c.loop-one.writer.tokens c.put_news.new.writer.tokens _ c.loop-one-test.true c.one-item.is c.loop-one.invariant.0
          c.in_ok-put_news.ensures.tokens.all.0,
      c.in_ok-put_news.ensures.tokens.all.1 ∙ c.loop-one.invariant.1,
      counted-next news place c.one-item.result c.loop-one-test.true c.one-item.is c.in_ok-put_news.ensures.range c.loop-one.invariant.2,
    )

pub returns-clause-tokens : goal.returns-clause-tokens
returns-clause-tokens c =
    let news = c.args.news.now in
    let past : length news ≤ c.loop-one.one-index = omega (arith, c.loop-one-test.false) in
    news-end c.end_array.result (map string_bytes c.args.names.now) news c.loop-one.one-index c.args.writer.now c.loop-one.writer c.end_array.new.self past c.loop-one.invariant.0 c.loop-one.invariant.1 c.end_array.ensures

pub returns-clause-range : goal.returns-clause-range
returns-clause-range c =
    let news = c.args.news.now in
    let past : length news ≤ c.loop-one.one-index = omega (arith, c.loop-one-test.false) in
    on-ok c.end_array.result (counted-end news c.loop-one.one-index past c.loop-one.invariant.2)
