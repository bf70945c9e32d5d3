use Rattle.std.proofs.Common.{map, refl, subst}
use Rattle.std.specs.Prelude.{Err, string_bytes}
use Rattle.collector_commands.specs.Configuration.{file_of}
use Rattle.collector_commands.specs.Courses.{AsksFor}
use Rattle.collector_commands.specs.declared.configuration.FileFault.TheVariants.{Unreadable}
use Rattle.collector_commands.specs.declared.configuration.ReadFault.TheVariants.{Other}
use Rattle.collector_commands.specs.declared.asking.Command.TheVariants.{Replay, Compare, Serve, Validate, Close, Show, Ledger, Help, Version}
use Rattle.collector_main.proofs.Courses.{CameTo-does}
use Rattle.collector_main.proofs.program.run.Goals as goal

pub returns-in_default : goal.returns-in_default
returns-in_default g c = (Err (Unreadable Other), (c.in_default.ensures.none, (refl, refl)))

pub returns-in-Replay : goal.returns-in-Replay
returns-in-Replay g c =
    let arguments = map string_bytes c.args.arguments.now in
    let asked = subst (λ command. AsksFor arguments command) c.in-Replay.is c.in-Some.ensures.some in
    (file_of (λ v. v.items) c.read_file.result, CameTo-does _ _ Replay c.replay_by.result.1 asked (c.replay_by.ensures arguments))

pub returns-in-Compare : goal.returns-in-Compare
returns-in-Compare g c =
    let arguments = map string_bytes c.args.arguments.now in
    let asked = subst (λ command. AsksFor arguments command) c.in-Compare.is c.in-Some.ensures.some in (
      file_of (λ v. v.items) c.read_file-in-Compare.result,
      CameTo-does _ _ (Compare c.in-Compare.form) c.compare_by.result asked (file_of (λ v. v.items) c.read_file-in-Compare-2.result, c.compare_by.ensures arguments (g.Writer.Write.contents c.args.writer)),
    )

pub returns-in-Serve : goal.returns-in-Serve
returns-in-Serve g c =
    let arguments = map string_bytes c.args.arguments.now in
    let asked = subst (λ command. AsksFor arguments command) c.in-Serve.is c.in-Some.ensures.some in
    (file_of (λ v. v.items) c.read_file-in-Serve.result, CameTo-does _ _ Serve c.serve_by.result.1 asked (c.serve_by.ensures arguments (g.Script.ScriptSource.given c.args.reader.now)))

pub returns-in-Validate : goal.returns-in-Validate
returns-in-Validate g c =
    let arguments = map string_bytes c.args.arguments.now in
    let asked = subst (λ command. AsksFor arguments command) c.in-Validate.is c.in-Some.ensures.some in
    (file_of (λ v. v.items) c.read_file-in-Validate.result, CameTo-does _ _ Validate c.told_of-outcome.result asked (c.told_of-outcome.ensures, (refl, refl)))

pub returns-in-Close : goal.returns-in-Close
returns-in-Close g c =
    let arguments = map string_bytes c.args.arguments.now in
    let asked = subst (λ command. AsksFor arguments command) c.in-Close.is c.in-Some.ensures.some in
    (file_of (λ v. v.items) c.read_file-in-Close.result, CameTo-does _ _ Close c.close_by.result asked (c.close_by.ensures, (refl, refl)))

pub returns-in-Show : goal.returns-in-Show
returns-in-Show g c =
    let arguments = map string_bytes c.args.arguments.now in
    let asked = subst (λ command. AsksFor arguments command) c.in-Show.is c.in-Some.ensures.some in
    (Err (Unreadable Other), CameTo-does _ _ Show c.show_by.result asked (c.show_by.ensures, (refl, refl)))

pub returns-in-Ledger : goal.returns-in-Ledger
returns-in-Ledger g c =
    let arguments = map string_bytes c.args.arguments.now in
    let asked = subst (λ command. AsksFor arguments command) c.in-Ledger.is c.in-Some.ensures.some in
    (Err (Unreadable Other), CameTo-does _ _ (Ledger c.in-Ledger.form) c.tell_ledger.result asked ((_, c.look_into-found.result, c.tell_ledger.ensures), (refl, refl)))

pub returns-in-Help : goal.returns-in-Help
returns-in-Help g c =
    let arguments = map string_bytes c.args.arguments.now in
    let asked = subst (λ command. AsksFor arguments command) c.in-Help.is c.in-Some.ensures.some in
    (Err (Unreadable Other), (Help, asked, (refl, (refl, refl))))

pub returns-in-Version : goal.returns-in-Version
returns-in-Version g c =
    let arguments = map string_bytes c.args.arguments.now in
    let asked = subst (λ command. AsksFor arguments command) c.in-Version.is c.in-Some.ensures.some in
    (Err (Unreadable Other), (Version, asked, (refl, (refl, refl))))
