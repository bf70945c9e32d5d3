use Rattle.std.proofs.Common.{◌≡◌, true, false, refl, ◌∙◌}
use Rattle.std.specs.Prelude.{get_or}
use Rattle.drop_ledger.specs.declared.count.Count.TheVariants.{Received}
use Rattle.collector_commands.specs.Texts.{counts}
use Rattle.collector_commands.proofs.Texts.{HandsText-next}
use Rattle.collector_commands.proofs.outcome.say_report.Goals as goal
use Rattle.collector_commands.proofs.outcome.say_report.Goals.{then-say_count, else-say_count}

pub loop-what-preserved : goal.loop-what-preserved
loop-what-preserved g c =
    let whole : c.say_count.result ≡ true → c.if-say_count.written ≡ c.loop-what.written =
    λ e. elim c.if-say_count.branch [ then-say_count w ↦ w.written-is | else-say_count w ↦ cc ] in
    let cut : c.say_count.result ≡ false → c.if-say_count.written ≡ false =
    λ e. elim c.if-say_count.branch [ then-say_count w ↦ cc | else-say_count w ↦ w.written-is ∙ e ] in record {
      room = c.say_count.ensures.room;
      hands = HandsText-next c.args.report.now c.loop-what.what-index (get_or counts c.loop-what.what-index Received) c.number.result c.args.lines.now c.loop-what.lines c.say_count.new.lines
          c.loop-what.written c.say_count.result c.if-say_count.written c.loop-what-test.true refl c.number.ensures c.loop-what.invariant.hands c.say_count.ensures.hands whole cut;
    }
