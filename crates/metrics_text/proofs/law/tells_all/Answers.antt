use Rattle.metrics_text.proofs.Tells.{all_told}
use Rattle.metrics_text.proofs.law.tells_all.Goals as goal

pub returns : goal.returns
returns c = all_told
