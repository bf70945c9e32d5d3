use Rattle.config_findings.proofs.FaultLists.{text_all, least_listed, none_listed}
use Rattle.config_findings.proofs.laws.lists_each_fault.Goals as goal

pub returns : goal.returns
returns c = record { each = text_all; least = least_listed; none = none_listed }
