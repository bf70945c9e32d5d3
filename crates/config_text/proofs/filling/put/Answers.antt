use Rattle.config_text.proofs.Put.{put_entry}
use Rattle.config_text.proofs.filling.put.Goals as goal

pub returns : goal.returns
returns c = rw (c.in_ok-insert.ensures.entries, ← c.in_ok-from_str.ensures.ok) (put_entry c.in_ok-from_str.field-0 c.args.value c.args.table.now.entries)
