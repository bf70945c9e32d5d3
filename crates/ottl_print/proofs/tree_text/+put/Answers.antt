use Rattle.ottl_print.proofs.tree_text.+put.Goals as goal

pub put-returns-in-IsRootSpan : goal.put-returns-in-IsRootSpan
put-returns-in-IsRootSpan t c = rw c.in-IsRootSpan.is c.put_str.ensures
