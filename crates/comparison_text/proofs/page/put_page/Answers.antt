use Rattle.std.proofs.Common.{◌∙◌}
use Rattle.comparison_text.proofs.Script.{page-as}
use Rattle.comparison_text.proofs.page.put_page.Goals as goal

pub returns-clause-page : goal.returns-clause-page
returns-clause-page c =
    page-as c.put_around.result c.args.line.now.items c.put_around.new.line.items _ _ _ _ _ _ c.as_bytes.ensures.value (c.deref.ensures.value ∙ c.in_ok-text.ensures.text) c.as_bytes-2.ensures.value
    c.put_around.ensures.page
