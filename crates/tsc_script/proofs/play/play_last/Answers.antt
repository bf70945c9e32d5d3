use Rattle.std.proofs.Common.{◌<◌, ◌∷◌, [], Some, ◌∙◌, refl, sym, ap, length, arith, append-nil}
use Rattle.tsc_script.specs.Instructions.{instruction_of_command}
use Rattle.tsc_script.proofs.Playing.{last-none, last-closes, last-goes_on}
use Rattle.tsc_script.proofs.Last.{command-goes_on, down-stopped, on_ok}
use Rattle.tsc_script.proofs.play.play_last.Goals as goal

pub returns-in_default-clause-refused : goal.returns-in_default-clause-refused
returns-in_default-clause-refused g c =
    let some : 0 < length c.args.line.now = grind arith in
    (refl, last-none _ _ some c.requires.plain (sym c.in_default.ensures))

pub returns-in-Close-clause-whole : goal.returns-in-Close-clause-whole
returns-in-Close-clause-whole g c =
    let some : 0 < length c.args.line.now = grind arith in
    on_ok c.finish-in-Close.result _ (
      [],
      last-closes _ _ some c.requires.plain (sym c.in-Some.ensures ∙ ap (λ x. Some (instruction_of_command x)) c.in-Close.is),
      λ start done p. rw append-nil (c.finish-in-Close.ensures.played start done p),
    )

pub returns-in-Close-clause-stopped : goal.returns-in-Close-clause-stopped
returns-in-Close-clause-stopped g c =
    let some : 0 < length c.args.line.now = grind arith in
    down-stopped c.finish-in-Close.result _ _ c.finish-in-Close.ensures.only_down (
      [],
      last-closes _ _ some c.requires.plain (sym c.in-Some.ensures ∙ ap (λ x. Some (instruction_of_command x)) c.in-Close.is),
      λ start done p. rw append-nil (c.finish-in-Close.ensures.played start done p),
    )

pub returns-clause-whole : goal.returns-clause-whole
returns-clause-whole g c =
    let some : 0 < length c.args.line.now = grind arith in
    let x = instruction_of_command c.in-Some.command in
    on_ok c.finish-2.result _ (
      x ∷ [],
      last-goes_on _ _ x some c.requires.plain (sym c.in-Some.ensures) (command-goes_on _ c.in_default-command.not-Close),
      λ start done p. c.finish-2.ensures.played start _ (c.play.ensures.played start done p),
    )

pub returns-clause-stopped : goal.returns-clause-stopped
returns-clause-stopped g c =
    let some : 0 < length c.args.line.now = grind arith in
    let x = instruction_of_command c.in-Some.command in
    down-stopped c.finish-2.result _ _ c.finish-2.ensures.only_down (
      x ∷ [],
      last-goes_on _ _ x some c.requires.plain (sym c.in-Some.ensures) (command-goes_on _ c.in_default-command.not-Close),
      λ start done p. c.finish-2.ensures.played start _ (c.play.ensures.played start done p),
    )
