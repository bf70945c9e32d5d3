use Rattle.journal_entry.proofs.Texts.{reads_back}
use Rattle.journal_entry.proofs.text.text_of.Goals as goal

pub returns-clause-back : goal.returns-clause-back
returns-clause-back c = reads_back (λ v. v.items) c.encode.result _ _ c.in_ok-request.ensures c.encode.ensures.text c.encode.ensures.back
