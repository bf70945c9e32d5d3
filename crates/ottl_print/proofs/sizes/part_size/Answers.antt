use Rattle.ottl_print.proofs.sizes.part_size.Goals as goal

pub returns-clause-same : goal.returns-clause-same
returns-clause-same c l m n h i j = c.alone.ensures.same _ (c.more.ensures.same _ (c.larger-all.ensures.same _ _ h (c.larger-last.ensures.same _ _ i j)))
