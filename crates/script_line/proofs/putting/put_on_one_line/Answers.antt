use Rattle.std.proofs.Common.{◌+◌, refl}
use Rattle.script_line.proofs.Appended.{front-on}
use Rattle.script_line.proofs.OneLine.{appends-rest, one-more, whole-left}
use Rattle.script_line.proofs.putting.put_on_one_line.Goals as goal

pub loop-at-preserved : goal.loop-at-preserved
loop-at-preserved c =
    let first = c.args.line.now.items in
    let now = c.loop-at.line.items in
    let rest = c.loop-at.rest.now in
    let found = rw c.in-Some.is at c.memchr2.ensures in (
      one-more first now c.put.new.line.items c.put_str.new.line.items c.args.text.now rest _ _ c.in-Some.at c.loop-at.invariant.0 found.0.high found.0.before found.1 refl
          (whole-left (c.in-Some.at + 1) rest) c.in_ok-put.ensures.whole c.in_ok-put_str.ensures.whole,
      front-on first c.put.new.line.items c.put_str.new.line.items (front-on first now c.put.new.line.items c.loop-at.invariant.1 c.in_ok-put.ensures.front) c.in_ok-put_str.ensures.front,
    )

pub returns : goal.returns
returns c =
    appends-rest c.put-2.result c.args.line.now.items c.loop-at.line.items c.put-2.new.line.items c.args.text.now c.loop-at.rest.now (rw c.in_default.is at c.memchr2.ensures)
    c.loop-at.invariant.0 c.loop-at.invariant.1 c.put-2.ensures
