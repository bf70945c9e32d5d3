use Rattle.admin_http.proofs.HeadLaw.{head_is_get}
use Rattle.admin_http.proofs.law.head_is_get_without_body.Goals as goal

pub returns : goal.returns
returns c = head_is_get
