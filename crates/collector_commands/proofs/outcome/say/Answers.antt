use Rattle.std.proofs.Common.{sym, subst}
use Rattle.collector_commands.specs.Texts.{HandsText, text_of}
use Rattle.collector_commands.specs.declared.outcome.Outcome.{Outcome}
use Rattle.collector_commands.proofs.outcome.say.Goals as goal

pub returns-in-Help : goal.returns-in-Help
returns-in-Help g c =
    let P : Outcome → Type 0 = λ outcome. HandsText c.args.lines.now (text_of outcome) c.hand_line-in-Help.result c.hand_line-in-Help.new.lines in
    subst P (sym c.in-Help.is) c.hand_line-in-Help.ensures
