use Rattle.config_text.proofs.Completed.{completed}
use Rattle.config_text.proofs.writing.complete.Goals as goal

pub returns : goal.returns
returns c =
    completed _ _ _ _ _ _ _ _ _ _ _ c.top_settings.ensures c.cache_settings.ensures c.export_settings.ensures c.ledger_settings.ensures c.in_ok-put_root_wait.ensures c.in_ok-put_empty.ensures c.in_ok-put_each.ensures
    c.in_ok-put_inner.ensures c.in_ok-put_inner-2.ensures c.in_ok-put_inner-3.ensures
