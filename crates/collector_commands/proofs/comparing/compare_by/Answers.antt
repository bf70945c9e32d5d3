-- What a comparison came to, where both configurations were read and both runs came to their reports.
use Rattle.std.proofs.Common.{refl}
use Rattle.collector_commands.specs.Configuration.{file_of}
use Rattle.collector_commands.specs.Courses.{Course}
use Rattle.collector_commands.proofs.Compared.{compares_told}
use Rattle.collector_commands.proofs.comparing.compare_by.Goals as goal

pub returns-in-Ok-compare_run : goal.returns-in-Ok-compare_run
returns-in-Ok-compare_run g c = λ arguments taken.
    let course : Course = record {
      arguments = arguments;
      file = file_of (λ v. v.items) c.args.files.0;
      unread = g.R.ScriptSource.given c.args.reader.now;
      unread_after = g.R.ScriptSource.given c.compare_run.new.reader;
      taken = taken;
      taken_after = taken;
    } in
    let runs = c.in-Ok-compare_run.runs in
    compares_told course (file_of (λ v. v.items) c.args.files.1) c.in-Ok.config c.in-Ok-config_of.config runs.old_report runs.new_report c.told_of.result
    c.in-Ok.ensures.is_read c.in-Ok-config_of.ensures.is_read c.in-Ok-compare_run.ensures.played refl c.told_of.ensures
