use Rattle.post_http.proofs.Laws.{answers_agree}
use Rattle.post_http.proofs.law.answers_agree.Goals as goal

pub returns : goal.returns
returns c = answers_agree
