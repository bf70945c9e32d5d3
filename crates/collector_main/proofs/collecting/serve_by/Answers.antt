use Rattle.std.proofs.Common.{refl}
use Rattle.collector_commands.specs.Configuration.{file_of}
use Rattle.collector_commands.specs.Courses.{Course}
use Rattle.collector_main.specs.Serving.{prints, writes_file}
use Rattle.collector_main.proofs.Serving.{Serves-starved, Serves-to}
use Rattle.collector_main.proofs.collecting.serve_by.Goals as goal

pub returns : goal.returns
returns g c = λ arguments unread.
    let now : Course = record {
      arguments = arguments;
      file = file_of (λ v. v.items) c.args.file;
      unread = unread;
      unread_after = unread;
      taken = g.W.Write.contents c.args.writer;
      taken_after = g.W.Write.contents c.serve_to-ended.result.0;
    } in
    Serves-to now c.in-Ok.config c.serve_to-ended.result.1 (writes_file c.in-Ok.config) refl c.in-Ok.ensures.is_read refl c.serve_to-ended.ensures.printed c.serve_to-ended.ensures.filed

pub returns-in_default : goal.returns-in_default
returns-in_default g c = λ arguments unread.
    let now : Course = record {
      arguments = arguments;
      file = file_of (λ v. v.items) c.args.file;
      unread = unread;
      unread_after = unread;
      taken = g.W.Write.contents c.args.writer;
      taken_after = g.W.Write.contents c.args.writer;
    } in
    Serves-starved now c.in-Ok.config (prints c.in-Ok.config) refl c.in-Ok.ensures.is_read refl refl

pub returns-then-is_err : goal.returns-then-is_err
returns-then-is_err g c = λ arguments unread.
    let now : Course = record {
      arguments = arguments;
      file = file_of (λ v. v.items) c.args.file;
      unread = unread;
      unread_after = unread;
      taken = g.W.Write.contents c.args.writer;
      taken_after = g.W.Write.contents c.args.writer;
    } in
    Serves-starved now c.in-Ok.config (prints c.in-Ok.config) refl c.in-Ok.ensures.is_read refl refl
