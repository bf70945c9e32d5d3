use Rattle.std.specs.Prelude.{decimal, string_bytes}
use Rattle.status_json.proofs.Appending.{one-appended}
use Rattle.status_json.proofs.Written.{backlog-of-texts}
use Rattle.status_json.proofs.text.put_backlog.Goals as goal

pub returns : goal.returns
returns c =
    let backlog = c.args.backlog in
    one-appended c.write.result (string_bytes c.args.text.now) _ _ (string_bytes c.write.new.self) c.write.ensures.bytes
    (backlog-of-texts (decimal backlog.waiting) (decimal backlog.under_way) (decimal backlog.failed_tries) (decimal backlog.given_up))
