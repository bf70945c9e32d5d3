use Rattle.record_laws.proofs.Replayed.{records_replay}
use Rattle.record_laws.proofs.laws.records_replay.Goals as goal

pub returns : goal.returns
returns c = records_replay
