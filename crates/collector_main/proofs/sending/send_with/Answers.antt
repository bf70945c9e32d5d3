use Rattle.std.proofs.Common.{refl}
use Rattle.collector_main.proofs.Serving.{sends-starved}
use Rattle.collector_main.proofs.sending.send_with.Goals as goal

pub returns-in-Err : goal.returns-in-Err
returns-in-Err g c = sends-starved c.args.config c.args.config.export.lines _ _ refl refl

pub returns-in_default : goal.returns-in_default
returns-in_default g c = sends-starved c.args.config c.args.config.export.lines _ _ refl refl

pub returns-in_default-try_clone : goal.returns-in_default-try_clone
returns-in_default-try_clone g c = sends-starved c.args.config c.args.config.export.lines _ _ refl refl

pub returns-in_default-request_fields : goal.returns-in_default-request_fields
returns-in_default-request_fields g c = sends-starved c.args.config c.args.config.export.lines _ _ refl refl

pub returns-in_default-request_fields-2 : goal.returns-in_default-request_fields-2
returns-in_default-request_fields-2 g c = sends-starved c.args.config c.args.config.export.lines _ _ refl refl
