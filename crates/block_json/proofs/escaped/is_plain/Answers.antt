use Rattle.json.proofs.Printed.Plain.{escape_on_plain}
use Rattle.block_json.proofs.escaped.is_plain.Goals as goal

pub returns-then-text-le32 : goal.returns-then-text-le32
returns-then-text-le32 c = escape_on_plain c.plain_short.result c.args.text.now c.plain_short.ensures

pub returns-else-text-le32 : goal.returns-else-text-le32
returns-else-text-le32 c = escape_on_plain c.plain_long.result c.args.text.now c.plain_long.ensures
