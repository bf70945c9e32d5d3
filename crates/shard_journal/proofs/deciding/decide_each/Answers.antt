use Rattle.std.proofs.Common.{◌<◌, ◌∷◌, Bool, List, length, reverse, ◌∙◌, ap, arith}
use Rattle.shard_journal.specs.Settings.{settings_of}
use Rattle.journal_theory.specs.Journal.{Decision, Notes, decision}
use Rattle.shard_journal.specs.Short.{without_spans}
use Rattle.shard_journal.proofs.Turns.{turn_more, turns_made}
use Rattle.shard_journal.proofs.deciding.decide_each.Goals as goal

pub loop-i-preserved : goal.loop-i-preserved
loop-i-preserved c = λ full e.
    let s = settings_of c.args.settings.now in
    let past = reverse c.args.past.now in
    let due = c.args.due.now in
    let answers = c.args.answers.now in
    let within : c.loop-i.i < length due = omega arith in
    let given : c.loop-i.i < length answers = omega arith in
    let note = λ (d : Decision). (let n : Notes = record { openings = c.loop-i.noted.openings; decisions = d ∷ c.loop-i.noted.decisions; touches = c.loop-i.noted.touches } in n) in
    turn_more s past due answers c.loop-i.i c.index-due-i.result c.index-answers-i.result full c.loop-i.noted c.decide-in-loop-i.new.self within given c.index-due-i.is c.index-answers-i.is (c.loop-i.invariant full e)
    (c.in_ok-decide.ensures ∙ ap note (c.in_ok-made.ensures ∙ ap (λ (given : List Bool). without_spans (decision s past c.index-due-i.result given)) c.as_slice.ensures))

pub returns : goal.returns
returns c = λ full e. turns_made (settings_of c.args.settings.now) (reverse c.args.past.now) c.args.due.now c.args.answers.now c.loop-i.i full c.loop-i.noted (omega arith) (c.loop-i.invariant full e)
